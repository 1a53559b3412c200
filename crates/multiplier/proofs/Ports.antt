-- A list of ports, or of anything, after a write to one place.
use Rattle.std.proofs.{Common.{◌≡◌, ◌≢◌, ℕ, zero, suc, ◌<◌, [], ◌∷◌, length, Some, refl, arith}, lemmas.List.{get_or-set_other, get_or-set_same}}
use Rattle.std.specs.Prelude.{slice_set}
use Rattle.fis_view.specs.Frames.{Stamped}
use Rattle.pm_ports.specs.Port as port
use Rattle.multiplier.specs.Between.{Ports, at}

pub other_port : (ports : Ports) (m n : ℕ) (p : port.PortState) → n ≢ m → at (slice_set ports m p) n ≡ at ports n
other_port ports m n p h = get_or-set_other ports m n p port.empty_port h

pub this_port : (ports : Ports) (m : ℕ) (p : port.PortState) → m < length ports → at (slice_set ports m p) m ≡ p
this_port ports m p lt = get_or-set_same ports m p port.empty_port lt

-- a part of a port that a write leaves is as before at each port
pub kept_part : {A : Type 0} (part : port.PortState → A) (ports : Ports) (m : ℕ) (p : port.PortState) → part p ≡ part (at ports m) → (n : ℕ) → part (at (slice_set ports m p) n) ≡ part (at ports n)
kept_part part [] m p h n = refl
kept_part part (q ∷ ports) zero p h zero = h
kept_part part (q ∷ ports) zero p h (suc n) = refl
kept_part part (q ∷ ports) (suc m) p h zero = refl
kept_part part (q ∷ ports) (suc m) p h (suc n) = kept_part part ports m p h n

-- what is true of each port, by its number, is true after a write to one of them
pub each_port : (P : ℕ → port.PortState → Type 0) (ports : Ports) (m : ℕ) (p : port.PortState) → P m p → ((n : ℕ) → P n (at ports n)) → (n : ℕ) → P n (at (slice_set ports m p) n)
each_port P [] m p is all n = all n
each_port P (q ∷ ports) zero p is all zero = is
each_port P (q ∷ ports) zero p is all (suc n) = all (suc n)
each_port P (q ∷ ports) (suc m) p is all zero = all zero
each_port P (q ∷ ports) (suc m) p is all (suc n) = each_port (λ k. P (suc k)) ports m p is (λ k. all (suc k)) n

-- a port that has a frame is there
pub has_down : (ports : Ports) (n : ℕ) (frame : Stamped) → (at ports n).down ≡ Some frame → n < length ports
has_down [] n frame e = absurd cc
has_down (p ∷ ports) zero frame e = omega arith
has_down (p ∷ ports) (suc n) frame e = let k : n < length ports = has_down ports n frame e in omega arith

pub has_up : (ports : Ports) (n : ℕ) (frame : Stamped) → (at ports n).up ≡ Some frame → n < length ports
has_up [] n frame e = absurd cc
has_up (p ∷ ports) zero frame e = omega arith
has_up (p ∷ ports) (suc n) frame e = let k : n < length ports = has_up ports n frame e in omega arith
