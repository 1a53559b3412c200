-- For `rested_ports_are_open`. What the driver's orders set in the registers of the multiplier, and what else leaves it.
use Rattle.std.proofs.Common.{◌≡◌, ◌⊎◌, ℕ, zero, suc, ◌<◌, ◌≤◌, ◌==◌, Bool, true, false, List, [], ◌∷◌, length, slice_index_or, refl, sym, ap, subst, ◌∙◌, inl, inr, Option, None, arith, get_or-set_same}
use Rattle.std.specs.Prelude.{if◌then◌else◌, is_some, nat_lt, slice_set}
use Rattle.std.proofs.lemmas.Bool.{false≢true, lt-ltb, ne_eqb, true≢false}
use Rattle.std.proofs.lemmas.List.{length-set}
use Rattle.pm_registers.specs.Port.{controlled, det, inserted, is_open, met, opened, opening_port, port_written, pscr, removed}
use Rattle.pm_registers.specs.RegisterMap.{RegisterMap, after_insert, after_notice, after_remove, after_write, control_written, gscr, port_at, register_at, settled, summary, with_port, written}
use Rattle.pm_registers.specs.declared.port.PortRegisters.{PortRegisters}
use Rattle.pm_registers.proofs.Door.{either}

-- ---- one port

-- an open port shows its device
abbrev pub ShowsIt : PortRegisters → Type 0
ShowsIt p = is_open p ≡ true → p.present ≡ true → det p.status ≡ 3

inserted_by : (p : PortRegisters) (b : Bool) → is_open p ≡ b → ShowsIt (let next : PortRegisters = record p { present = true } in (if b then met next else next))
inserted_by p true is = λ o t. refl
inserted_by p false is = λ o t. absurd (true≢false (sym o ∙ is))

removed_by : (p : PortRegisters) (b : Bool) (error : ℕ) → ShowsIt (let next : PortRegisters = record p { present = false } in (if b then record next { status = 0; error = error } else next))
removed_by p true error = λ o t. absurd (false≢true t)
removed_by p false error = λ o t. absurd (false≢true t)

opened_by : (next : PortRegisters) (b : Bool) → next.present ≡ b → ShowsIt (if b then met next else record next { status = 0 })
opened_by next true is = λ o t. refl
opened_by next false is = λ o t. absurd (true≢false (sym t ∙ is))

opening_by : (p next : PortRegisters) (b : Bool) → is_open p ≡ b → next.status ≡ p.status → next.present ≡ p.present → ShowsIt p → ShowsIt (if b then next else opened next)
opening_by p next true is status present h = λ o t. ap det status ∙ h is (sym present ∙ t)
opening_by p next false is status present h = opened_by next next.present refl

-- the port is open, and shows its device
shows_opened : (p : PortRegisters) → ShowsIt p → ShowsIt (controlled p 0)
shows_opened p h = opening_by p (record p { control = 0 }) (is_open p) refl refl refl h

opens_by : (next : PortRegisters) (a b : Bool) → is_open next ≡ true → is_open (if a then next else (if b then met next else record next { status = 0 })) ≡ true
opens_by next true b is = is
opens_by next false true is = is
opens_by next false false is = is

is_opened : (p : PortRegisters) → is_open (controlled p 0) ≡ true
is_opened p = opens_by (record p { control = 0 }) (is_open p) p.present refl

-- ---- all of them

each_set : (P : PortRegisters → Type 0) (bank : List PortRegisters) (n : ℕ) (p d : PortRegisters) → P p → ((k : ℕ) → P (slice_index_or bank k d)) → (k : ℕ) → P (slice_index_or (slice_set bank n p) k d)
each_set P [] n p d is all k = all k
each_set P (q ∷ bank) zero p d is all zero = is
each_set P (q ∷ bank) zero p d is all (suc k) = all (suc k)
each_set P (q ∷ bank) (suc n) p d is all zero = all zero
each_set P (q ∷ bank) (suc n) p d is all (suc k) = each_set P bank n p d is (λ j. all (suc j)) k

-- a port that is open stays open
open_set : (bank : List PortRegisters) (n : ℕ) (p d : PortRegisters) → (is_open (slice_index_or bank n d) ≡ true → is_open p ≡ true) → (k : ℕ) → is_open (slice_index_or bank k d) ≡ true → is_open (slice_index_or (slice_set bank n p) k d) ≡ true
open_set [] n p d keeps k is = is
open_set (q ∷ bank) zero p d keeps zero is = keeps is
open_set (q ∷ bank) zero p d keeps (suc k) is = is
open_set (q ∷ bank) (suc n) p d keeps zero is = is
open_set (q ∷ bank) (suc n) p d keeps (suc k) is = open_set bank n p d keeps k is

-- what holds of the registers of each multiplier with this many ports
pub record IsShape (ports : ℕ) (m : RegisterMap) : Type 0 where
  pub ports_are : m.ports ≡ ports
  pub most : ports ≤ 15
  pub bank : length m.bank ≡ 15
  pub shows : (n : ℕ) → ShowsIt (port_at m n)

-- what is set stays set
pub record Keeps (m r : RegisterMap) : Type 0 where
  pub ports : r.ports ≡ m.ports
  pub mask : r.mask ≡ m.mask
  pub enabled : r.enabled ≡ m.enabled
  pub opens : (n : ℕ) → is_open (port_at m n) ≡ true → is_open (port_at r n) ≡ true

pub keeps_same : (m r : RegisterMap) → r ≡ m → Keeps m r
keeps_same m r same = subst (Keeps m) (sym same) (record { ports = refl; mask = refl; enabled = refl; opens = λ n is. is })

-- a port is set
module _ (ports : ℕ) (m : RegisterMap) (k : ℕ) (p : PortRegisters) (before : ℕ) where
  set_shape : ShowsIt p → IsShape ports m → IsShape ports (settled before (with_port m k p))
  set_shape is s = record {
    ports_are = s.ports_are;
    most = s.most;
    bank = length-set m.bank k p ∙ s.bank;
    shows = each_set ShowsIt m.bank k p opening_port is s.shows;
  }

  set_keeps : (is_open (port_at m k) ≡ true → is_open p ≡ true) → Keeps m (settled before (with_port m k p))
  set_keeps keeps = record { ports = refl; mask = refl; enabled = refl; opens = open_set m.bank k p opening_port keeps }

inserted_open : (p : PortRegisters) → is_open p ≡ true → is_open (inserted p) ≡ true
inserted_open p is = either (λ (q : PortRegisters). is_open q ≡ true) (is_open p) (met (record p { present = true })) (record p { present = true }) is is

removed_open : (p : PortRegisters) → is_open p ≡ true → is_open (removed p) ≡ true
removed_open p is = either (λ (q : PortRegisters). is_open q ≡ true) (is_open p) _ (record p { present = false }) is is

-- ---- a device comes or goes, and a notification is made

pub insert_shape : (ports : ℕ) (m : RegisterMap) (n : ℕ) → IsShape ports m → IsShape ports (after_insert m n)
insert_shape ports m n s = set_shape ports m n (inserted (port_at m n)) (summary m) (inserted_by (port_at m n) (is_open (port_at m n)) refl) s

pub insert_keeps : (m : RegisterMap) (n : ℕ) → Keeps m (after_insert m n)
insert_keeps m n = set_keeps m.ports m n (inserted (port_at m n)) (summary m) (inserted_open (port_at m n))

pub remove_shape : (ports : ℕ) (m : RegisterMap) (n : ℕ) → IsShape ports m → IsShape ports (after_remove m n)
remove_shape ports m n s = set_shape ports m n (removed (port_at m n)) (summary m) (removed_by (port_at m n) (is_open (port_at m n)) _) s

pub remove_keeps : (m : RegisterMap) (n : ℕ) → Keeps m (after_remove m n)
remove_keeps m n = set_keeps m.ports m n (removed (port_at m n)) (summary m) (removed_open (port_at m n))

pub notice_shape : (ports : ℕ) (m : RegisterMap) → IsShape ports m → IsShape ports (after_notice m)
notice_shape ports m s = record { ports_are = s.ports_are; most = s.most; bank = s.bank; shows = s.shows }

pub notice_keeps : (m : RegisterMap) → Keeps m (after_notice m)
notice_keeps m = record { ports = refl; mask = refl; enabled = refl; opens = λ n is. is }

-- ---- a write to a port

-- PSCR[1] and PSCR[2] of a port: bits of SError are cleared, and the port is opened
abbrev pub IsPut : ℕ → ℕ → Type 0
IsPut register value = (register ≡ 1) ⊎ ((register ≡ 2) × (value ≡ 0))

put_shows : (p : PortRegisters) (register value : ℕ) → IsPut register value → ShowsIt p → ShowsIt (port_written p register value)
put_shows p register value (inl one) h = subst (λ (r : ℕ). ShowsIt (port_written p r value)) (sym one) h
put_shows p register value (inr two) h = rw (two.0, two.1) (shows_opened p h)

put_opens : (p : PortRegisters) (register value : ℕ) → IsPut register value → is_open p ≡ true → is_open (port_written p register value) ≡ true
put_opens p register value (inl one) h = subst (λ (r : ℕ). is_open (port_written p r value) ≡ true) (sym one) h
put_opens p register value (inr two) h = rw (two.0, two.1) (is_opened p)

module _ (ports : ℕ) (m : RegisterMap) (k register value : ℕ) (put : IsPut register value) where
  abbrev there : RegisterMap
  there = with_port m k (port_written (port_at m k) register value)

  -- the control port has neither register
  put_none : control_written m register value ≡ m
  put_none = elim put [ inl one ↦ ap (λ (r : ℕ). control_written m r value) one | inr two ↦ ap (λ (r : ℕ). control_written m r value) two.0 ]

  -- the register is written, or nothing changes
  put_is : (P : RegisterMap → Type 0) → P (settled (summary m) there) → P (settled (summary m) m) → P m → P (after_write m k register value)
  put_is P made noted left =
      either P (is_some (register_at m k register)) (settled (summary m) (written m k register value)) m
      (either (λ (r : RegisterMap). P (settled (summary m) r)) (k == 15) (control_written m register value) there (subst (λ (r : RegisterMap). P (settled (summary m) r)) (sym put_none) noted) made) left

  pub put_shape : IsShape ports m → IsShape ports (after_write m k register value)
  put_shape s =
      put_is (IsShape ports) (set_shape ports m k (port_written (port_at m k) register value) (summary m) (put_shows (port_at m k) register value put (s.shows k)) s)
      (record { ports_are = s.ports_are; most = s.most; bank = s.bank; shows = s.shows }) s

  pub put_keeps : Keeps m (after_write m k register value)
  put_keeps =
      put_is (Keeps m) (set_keeps ports m k (port_written (port_at m k) register value) (summary m) (put_opens (port_at m k) register value put))
      (record { ports = refl; mask = refl; enabled = refl; opens = λ n is. is }) (keeps_same m m refl)

-- a port that exists is open then
pub open_done : (m : RegisterMap) (k : ℕ) → k < m.ports → m.ports ≤ 15 → length m.bank ≡ 15 → is_open (port_at (after_write m k 2 0) k) ≡ true
open_done m k low most bank = ap (λ (r : RegisterMap). is_open (port_at r k)) after_is ∙ ap is_open (get_or-set_same m.bank k (controlled (port_at m k) 0) opening_port (omega (arith, low, most, bank))) ∙ is_opened (port_at m k)
  where
    other : (k == 15) ≡ false
    other = ne_eqb k 15 (λ same. absurd (omega (arith, low, most, same)))

    there_is : register_at m k 2 ≡ pscr (port_at m k) 2
    there_is =
        ap (λ (b : Bool). if b then gscr m 2 else (if nat_lt k m.ports then pscr (port_at m k) 2 else None)) other
        ∙ ap (λ (b : Bool). if b then pscr (port_at m k) 2 else None) (lt-ltb k m.ports low)

    written_is : written m k 2 0 ≡ with_port m k (port_written (port_at m k) 2 0)
    written_is = ap (λ (b : Bool). if b then control_written m 2 0 else with_port m k (port_written (port_at m k) 2 0)) other

    after_is : after_write m k 2 0 ≡ settled (summary m) (with_port m k (port_written (port_at m k) 2 0))
    after_is = ap (λ (o : Option ℕ). if is_some o then settled (summary m) (written m k 2 0) else m) there_is ∙ ap (settled (summary m)) written_is
