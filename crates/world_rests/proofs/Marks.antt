-- For `rested_plans_match`. Bits N and X of SError of a port of the multiplier, over all that changes its registers: where a device comes or
-- goes one of them is set, and while one is set no FIS passes the port.
use Rattle.std.proofs.Common.{◌≡◌, ◌≢◌, ◌⊎◌, ℕ, zero, suc, ◌+◌, ◌*◌, ◌%◌, ◌^◌, ◌<◌, ◌==◌, ◌&&◌, min, Bool, true, false, not, bit_and, bit_or, List}
use Rattle.std.proofs.Common.{[], ◌∷◌, length, slice_index_or, refl, sym, ap, subst, ◌∙◌, inl, inr, arith, get_or-set_same, get_or-set_other}
use Rattle.std.proofs.lemmas.{Bool.{eqb-true, false≢true, ne_eqb, true≢false}, Nat.Bits.{bit_at_and, bit_at-lt, bit_at_or, bit_at-zero, bit_at_xor}}
use Rattle.std.proofs.lemmas.Nat.Bits.{same_from_bits}
use Rattle.std.specs.{Prelude.{if◌then◌else◌, is_some, slice_set}, Int.bit_at}
use Rattle.hba_driver.specs.{declared.order.Order.{Order, TheVariants.{Clear, Enable, Open, SetMask}}, Orders.changes}
use Rattle.pm_registers.specs.{Bits.{shares, without}, Port.{bit_n, bit_x, controlled, det, inserted, is_open, met, opening_port, passes}}
use Rattle.pm_registers.specs.{Port.{port_written, removed}, RegisterMap.{RegisterMap, after_insert, after_remove, after_write, control_written}}
use Rattle.pm_registers.specs.{RegisterMap.{port_at, register_at, settled, summary, with_port, written}, declared.port.PortRegisters.PortRegisters}
use Rattle.pm_registers.proofs.Door.{either}
use Rattle.world_rests.proofs.Ordering.{after_wish, clears_as}

-- bit N or bit X is set
abbrev pub is_marked : PortRegisters → Bool
is_marked p = shares p.error changes

-- ---- bits

-- a bit that both numbers have is in what they share
both_some : (x y k : ℕ) → bit_at x k ≡ 1 → bit_at y k ≡ 1 → bit_and x y ≢ 0
both_some x y k h g e =
    let one : bit_at (bit_and x y) k ≡ min (bit_at x k) (bit_at y k) = bit_at_and x y k in
    let none : bit_at (bit_and x y) k ≡ 0 = ap (λ (z : ℕ). bit_at z k) e ∙ bit_at-zero k in
    absurd (omega (arith, one, none, h, g))

or_first : (x y k : ℕ) → bit_at x k ≡ 1 → bit_at (bit_or x y) k ≡ 1
or_first x y k h = let both = bit_at_or x y k in let small : bit_at y k < 2 = bit_at-lt y k in omega (arith, both, h, small)

or_last : (x y k : ℕ) → bit_at y k ≡ 1 → bit_at (bit_or x y) k ≡ 1
or_last x y k h = let both = bit_at_or x y k in let small : bit_at x k < 2 = bit_at-lt x k in omega (arith, both, h, small)

x_changes : bit_at changes 26 ≡ 1
x_changes = refl

n_changes : bit_at changes 16 ≡ 1
n_changes = refl

x_bit : bit_at bit_x 26 ≡ 1
x_bit = refl

n_bit : bit_at bit_n 16 ≡ 1
n_bit = refl

shares_at : (x k : ℕ) → bit_at x k ≡ 1 → bit_at changes k ≡ 1 → shares x changes ≡ true
shares_at x k h g = ap not (ne_eqb (bit_and x changes) 0 (both_some x changes k h g))

-- X is set
has_x : (e : ℕ) → (bit_and (bit_or e bit_x) bit_x == 0) ≡ false
has_x e = ne_eqb (bit_and (bit_or e bit_x) bit_x) 0 (both_some (bit_or e bit_x) bit_x 26 (or_last e bit_x 26 x_bit) x_bit)

marks_x : (e : ℕ) → shares (bit_or e bit_x) changes ≡ true
marks_x e = shares_at (bit_or e bit_x) 26 (or_last e bit_x 26 x_bit) x_changes

marks_n : (e : ℕ) → shares (bit_or e bit_n) changes ≡ true
marks_n e = shares_at (bit_or e bit_n) 16 (or_last e bit_n 16 n_bit) n_changes

left_bit : (a b : ℕ) → a < 2 → b < 2 → min ((a + min a b) % 2) b ≡ 0
left_bit a b small other = omega arith

without_none : (x y : ℕ) → bit_and (without x y) y ≡ 0
without_none x y = same_from_bits (bit_and (without x y) y) 0 (λ i.
    bit_at_and (without x y) y i
    ∙ ap (λ (b : ℕ). min b (bit_at y i)) (bit_at_xor x (bit_and x y) i ∙ ap (λ (b : ℕ). (bit_at x i + b) % 2) (bit_at_and x y i))
    ∙ left_bit (bit_at x i) (bit_at y i) (bit_at-lt x i) (bit_at-lt y i) ∙ sym (bit_at-zero i))

unmarked : (e : ℕ) → shares (without e changes) changes ≡ false
unmarked e = ap (λ (z : ℕ). not (z == 0)) (without_none e changes)

-- ---- one port

-- while N or X is set no FIS passes; communication is established only at an open port with a device; and SStatus is a small number
pub record IsShut (p : PortRegisters) : Type 0 where
  pub small : p.status < 2 ^ 15
  pub shut : is_marked p ≡ true → passes p ≡ false
  pub shows : det p.status ≡ 3 → (is_open p ≡ true) × (p.present ≡ true)

-- What may become of a port. A mark stays, and so does an open port. A device that comes or goes is marked at an open port, and one that is
-- there when the port opens is marked then.
pub record MarksOn (p q : PortRegisters) : Type 0 where
  pub marks : is_marked p ≡ true → is_marked q ≡ true
  pub opens : is_open p ≡ true → is_open q ≡ true
  pub changes_are : is_open p ≡ true → (is_marked q ≡ true) ⊎ (q.present ≡ p.present)
  pub opening : is_open q ≡ true → (is_open p ≡ true) ⊎ (q.present ≡ true → is_marked q ≡ true)

pub marks_same : (p q : PortRegisters) → q ≡ p → MarksOn p q
marks_same p q same = subst (MarksOn p) (sym same) (record { marks = λ h. h; opens = λ h. h; changes_are = λ h. inr refl; opening = λ h. inl h })

-- no FIS passes a port that is closed, or whose DET is not 3, or with X set
closed_passes : (a b c : Bool) → a ≡ false → (a && b && c) ≡ false
closed_passes true b c h = absurd (true≢false h)
closed_passes false b c h = refl

det_passes : (a b c : Bool) → b ≡ false → (a && b && c) ≡ false
det_passes true true c h = absurd (true≢false h)
det_passes true false c h = refl
det_passes false b c h = refl

x_passes : (a b c : Bool) → c ≡ false → (a && b && c) ≡ false
x_passes true true true h = absurd (true≢false h)
x_passes true true false h = refl
x_passes true false c h = refl
x_passes false b c h = refl

pub passes_parts : (p : PortRegisters) → passes p ≡ true → (is_open p ≡ true) × (det p.status ≡ 3)
passes_parts p is = by_tests (is_open p) (det p.status == 3) (bit_and p.error bit_x == 0) refl refl is
  where
    by_tests : (a b c : Bool) → is_open p ≡ a → (det p.status == 3) ≡ b → (a && b && c) ≡ true → (is_open p ≡ true) × (det p.status ≡ 3)
    by_tests true true c x y h = (x, eqb-true (det p.status) 3 y)
    by_tests true false c x y h = absurd (false≢true h)
    by_tests false b c x y h = absurd (false≢true h)

met_shut : (p : PortRegisters) → is_open p ≡ true → p.present ≡ true → IsShut (met p)
met_shut p on there = record { small = omega arith; shut = λ marked. x_passes (is_open p) true (bit_and (bit_or (bit_or p.error bit_n) bit_x) bit_x == 0) (has_x (bit_or p.error bit_n)); shows = λ is. (on, there) }

-- a device comes
inserted_shut : (p : PortRegisters) → IsShut p → IsShut (inserted p)
inserted_shut p h = by_open (is_open p) refl
  where
    by_open : (b : Bool) → is_open p ≡ b → IsShut (let next : PortRegisters = record p { present = true } in (if b then met next else next))
    by_open true is = met_shut (record p { present = true }) is refl
    by_open false is = record { small = h.small; shut = λ marked. closed_passes (is_open p) (det p.status == 3) (bit_and p.error bit_x == 0) is; shows = λ at. absurd (true≢false (sym (h.shows at).0 ∙ is)) }

inserted_marks : (p : PortRegisters) → MarksOn p (inserted p)
inserted_marks p = by_open (is_open p) refl
  where
    by_open : (b : Bool) → is_open p ≡ b → MarksOn p (let next : PortRegisters = record p { present = true } in (if b then met next else next))
    by_open true is = record { marks = λ h. marks_x (bit_or p.error bit_n); opens = λ h. h; changes_are = λ h. inl (marks_x (bit_or p.error bit_n)); opening = λ h. inl h }
    by_open false is = record { marks = λ h. h; opens = λ h. h; changes_are = λ h. absurd (true≢false (sym h ∙ is)); opening = λ h. inl h }

-- it goes
removed_shut : (p : PortRegisters) → IsShut p → IsShut (removed p)
removed_shut p h = by_open (is_open p) refl
  where
    by_open : (b : Bool) → is_open p ≡ b → IsShut (let next : PortRegisters = record p { present = false } in (if b then record next { status = 0; error = bit_or p.error bit_n } else next))
    by_open true is = record { small = omega arith; shut = λ marked. det_passes (is_open p) false (bit_and (bit_or p.error bit_n) bit_x == 0) refl; shows = λ at. absurd (let wrong : 0 ≡ 3 = at in cc) }
    by_open false is = record { small = h.small; shut = λ marked. closed_passes (is_open p) (det p.status == 3) (bit_and p.error bit_x == 0) is; shows = λ at. absurd (true≢false (sym (h.shows at).0 ∙ is)) }

removed_marks : (p : PortRegisters) → MarksOn p (removed p)
removed_marks p = by_open (is_open p) refl
  where
    by_open : (b : Bool) → is_open p ≡ b → MarksOn p (let next : PortRegisters = record p { present = false } in (if b then record next { status = 0; error = bit_or p.error bit_n } else next))
    by_open true is = record { marks = λ h. marks_n p.error; opens = λ h. h; changes_are = λ h. inl (marks_n p.error); opening = λ h. inl h }
    by_open false is = record { marks = λ h. h; opens = λ h. h; changes_are = λ h. absurd (true≢false (sym h ∙ is)); opening = λ h. inl h }

-- the port is opened
opened_shut : (p : PortRegisters) → IsShut p → IsShut (controlled p 0)
opened_shut p h = by_open (is_open p) refl
  where
    by_present : (b : Bool) → p.present ≡ b → IsShut (let next : PortRegisters = record p { control = 0 } in (if b then met next else record next { status = 0 }))
    by_present true there = met_shut (record p { control = 0 }) refl there
    by_present false there = record { small = omega arith; shut = λ marked. det_passes true false (bit_and p.error bit_x == 0) refl; shows = λ at. absurd (let wrong : 0 ≡ 3 = at in cc) }

    by_open : (b : Bool) → is_open p ≡ b → IsShut (let next : PortRegisters = record p { control = 0 } in (if b then next else (if p.present then met next else record next { status = 0 })))
    by_open true is = record { small = h.small; shut = λ marked. ap (λ (b : Bool). b && (det p.status == 3) && (bit_and p.error bit_x == 0)) (sym is) ∙ h.shut marked; shows = λ at. (refl, (h.shows at).1) }
    by_open false is = by_present p.present refl

opened_marks : (p : PortRegisters) → MarksOn p (controlled p 0)
opened_marks p = by_open (is_open p) refl
  where
    by_present : (b : Bool) → p.present ≡ b → is_open p ≡ false → MarksOn p (let next : PortRegisters = record p { control = 0 } in (if b then met next else record next { status = 0 }))
    by_present true there is = record { marks = λ h. marks_x (bit_or p.error bit_n); opens = λ h. refl; changes_are = λ h. absurd (true≢false (sym h ∙ is)); opening = λ h. inr (λ on. marks_x (bit_or p.error bit_n)) }
    by_present false there is = record { marks = λ h. h; opens = λ h. refl; changes_are = λ h. absurd (true≢false (sym h ∙ is)); opening = λ h. inr (λ on. absurd (true≢false (sym on ∙ there))) }

    by_open : (b : Bool) → is_open p ≡ b → MarksOn p (let next : PortRegisters = record p { control = 0 } in (if b then next else (if p.present then met next else record next { status = 0 })))
    by_open true is = record { marks = λ h. h; opens = λ h. refl; changes_are = λ h. inr refl; opening = λ h. inl is }
    by_open false is = by_present p.present refl is

-- its errors are cleared
cleared_shut : (p : PortRegisters) → IsShut p → IsShut (port_written p 1 changes)
cleared_shut p h = record { small = h.small; shut = λ marked. absurd (true≢false (sym marked ∙ unmarked p.error)); shows = h.shows }

-- ---- the registers of all ports

abbrev pub AreShut : RegisterMap → Type 0
AreShut m = (n : ℕ) → IsShut (port_at m n)

abbrev pub AllMarkOn : RegisterMap → RegisterMap → Type 0
AllMarkOn m r = (n : ℕ) → MarksOn (port_at m n) (port_at r n)

pub all_same : (m r : RegisterMap) → r.bank ≡ m.bank → AllMarkOn m r
all_same m r same n = marks_same (port_at m n) (port_at r n) (ap (λ (b : List PortRegisters). slice_index_or b n opening_port) same)

pub shut_same : (m r : RegisterMap) → r.bank ≡ m.bank → AreShut m → AreShut r
shut_same m r same h n = subst (λ (b : List PortRegisters). IsShut (slice_index_or b n opening_port)) (sym same) (h n)

each_set : (P : ℕ → PortRegisters → Type 0) (bank : List PortRegisters) (n : ℕ) (p d : PortRegisters) → P n p → ((k : ℕ) → P k (slice_index_or bank k d)) → (k : ℕ) → P k (slice_index_or (slice_set bank n p) k d)
each_set P [] n p d is all k = all k
each_set P (q ∷ bank) zero p d is all zero = is
each_set P (q ∷ bank) zero p d is all (suc k) = all (suc k)
each_set P (q ∷ bank) (suc n) p d is all zero = all zero
each_set P (q ∷ bank) (suc n) p d is all (suc k) = each_set (λ (j : ℕ). P (suc j)) bank n p d is (λ j. all (suc j)) k

module _ (m : RegisterMap) (k : ℕ) (p : PortRegisters) where
  set_shut : IsShut p → AreShut m → AreShut (settled (summary m) (with_port m k p))
  set_shut is h = each_set (λ n q. IsShut q) m.bank k p opening_port is h

  set_marks : MarksOn (port_at m k) p → AllMarkOn m (settled (summary m) (with_port m k p))
  set_marks is = each_set (λ n q. MarksOn (port_at m n) q) m.bank k p opening_port is (λ n. marks_same (port_at m n) (port_at m n) refl)

-- a device comes or goes
pub insert_shut : (m : RegisterMap) (n : ℕ) → AreShut m → AreShut (after_insert m n)
insert_shut m n h = set_shut m n (inserted (port_at m n)) (inserted_shut (port_at m n) (h n)) h

pub insert_marks : (m : RegisterMap) (n : ℕ) → AllMarkOn m (after_insert m n)
insert_marks m n = set_marks m n (inserted (port_at m n)) (inserted_marks (port_at m n))

pub remove_shut : (m : RegisterMap) (n : ℕ) → AreShut m → AreShut (after_remove m n)
remove_shut m n h = set_shut m n (removed (port_at m n)) (removed_shut (port_at m n) (h n)) h

pub remove_marks : (m : RegisterMap) (n : ℕ) → AllMarkOn m (after_remove m n)
remove_marks m n = set_marks m n (removed (port_at m n)) (removed_marks (port_at m n))

-- ---- a command of the driver

-- register 1 or 2 of a port is written, or nothing changes but whether a notification is due
module _ (m : RegisterMap) (k register value : ℕ) (none : control_written m register value ≡ m) (P : RegisterMap → Type 0) where
  put_is : P (settled (summary m) (with_port m k (port_written (port_at m k) register value))) → P (settled (summary m) m) → P m → P (after_write m k register value)
  put_is made noted left =
      either P (is_some (register_at m k register)) (settled (summary m) (written m k register value)) m
      (either (λ (r : RegisterMap). P (settled (summary m) r)) (k == 15) (control_written m register value) (with_port m k (port_written (port_at m k) register value)) (subst (λ (r : RegisterMap). P (settled (summary m) r)) (sym none) noted) made)
      left

-- the four bits that a FIS has for the port
abbrev low : ℕ → ℕ
low port = (port % 2 ^ 8 + 2 ^ 8 * 0) % 16

pub wish_shut : (m : RegisterMap) (o : Order) → AreShut m → AreShut (after_wish m o)
wish_shut m SetMask h = h
wish_shut m Enable h = h
wish_shut m (Open k) h =
    put_is m (low k) 2 0 refl AreShut (set_shut m (low k) (port_written (port_at m (low k)) 2 0) (opened_shut (port_at m (low k)) (h (low k))) h) h h
wish_shut m (Clear k) h =
    put_is m (low k) 1 changes refl AreShut (set_shut m (low k) (port_written (port_at m (low k)) 1 changes) (cleared_shut (port_at m (low k)) (h (low k))) h) h h
wish_shut m o h = h

-- but for an order to clear a port, marks stay
pub wish_marks : (m : RegisterMap) (o : Order) → ((k : ℕ) → o ≢ Clear k) → AllMarkOn m (after_wish m o)
wish_marks m SetMask other = all_same m (after_wish m SetMask) refl
wish_marks m Enable other = all_same m (after_wish m Enable) refl
wish_marks m (Open k) other =
    put_is m (low k) 2 0 refl (AllMarkOn m) (set_marks m (low k) (port_written (port_at m (low k)) 2 0) (opened_marks (port_at m (low k)))) (all_same m (settled (summary m) m) refl) (all_same m m refl)
wish_marks m (Clear k) other = absurd (other k refl)
wish_marks m o other = all_same m (after_wish m o) refl

-- and such an order leaves the other ports, and whether the port is open and has a device
pub record ClearsOne (m r : RegisterMap) (k : ℕ) : Type 0 where
  pub opens : is_open (port_at r k) ≡ is_open (port_at m k)
  pub present : (port_at r k).present ≡ (port_at m k).present
  pub others : (n : ℕ) → n ≢ k → port_at r n ≡ port_at m n

clears_same : (m r : RegisterMap) (k : ℕ) → r.bank ≡ m.bank → ClearsOne m r k
clears_same m r k same =
    let at : (n : ℕ) → port_at r n ≡ port_at m n = λ n. ap (λ (b : List PortRegisters). slice_index_or b n opening_port) same in
    record { opens = ap is_open (at k); present = ap (λ (p : PortRegisters). p.present) (at k); others = λ n other. at n }

pub wish_clears : (m : RegisterMap) (k : ℕ) → k < 15 → length m.bank ≡ 15 → ClearsOne m (after_wish m (Clear k)) k
wish_clears m k low long =
    subst (λ (r : RegisterMap). ClearsOne m r k) (sym (clears_as m k low)) (put_is m k 1 changes refl (λ r. ClearsOne m r k) made (clears_same m (settled (summary m) m) k refl) (clears_same m m k refl))
  where
    here : slice_index_or (slice_set m.bank k (port_written (port_at m k) 1 changes)) k opening_port ≡ port_written (port_at m k) 1 changes
    here = get_or-set_same m.bank k (port_written (port_at m k) 1 changes) opening_port (omega (arith, low, long))

    made : ClearsOne m (settled (summary m) (with_port m k (port_written (port_at m k) 1 changes))) k
    made = record {
      opens = ap is_open here;
      present = ap (λ (q : PortRegisters). q.present) here;
      others = λ n other. get_or-set_other m.bank k n (port_written (port_at m k) 1 changes) opening_port other;
    }
