-- For `rested_ports_are_open`. Which ports ask for attention, as GSCR[32] tells it, and when a notification becomes due.
use Rattle.std.proofs.Common.{◌≡◌, ◌≢◌, ◌⊎◌, ℕ, zero, suc, ◌+◌, ◌-◌, ◌*◌, ◌%◌, ◌^◌, ◌<◌, ◌≤◌, ◌==◌, ◌&&◌, min, Bool, true, false, not, bit_and}
use Rattle.std.proofs.Common.{if◌then◌else◌, length, refl, sym, ap, subst, ◌∙◌, inl, inr, Option, None, arith, get_or-set_same, get_or-set_other}
use Rattle.std.proofs.{Math.Pow.pow_mono, lemmas.Bool.{and_from, cases_Bool, cases_eq, cases_lt, eqb-true, le-ltb, lt-ltb, ne_eqb, not-false}}
use Rattle.std.proofs.lemmas.{Bool.{or_left, or_right, true≢false}, Nat.{and_assoc, Bits.{bit_at_and, bit_at_cat_high, bit_at_cat_low}}}
use Rattle.std.proofs.lemmas.Nat.Bits.{bit_at_lowest, bit_at-lt, bit_at_xor, bit_at-zero, same_from_bits}
use Rattle.std.specs.{Prelude.{is_some, nat_lt}, Int.{bit_at, Bits.and_zero_l}}
use Rattle.slots.specs.Slots.{has_bit}
use Rattle.pm_registers.specs.{Bits.{bits_where, rises, shares, without}, Port.{bit_n, bit_x, inserted, opening_port, port_written, pscr, removed}}
use Rattle.pm_registers.specs.RegisterMap.{RegisterMap, after_insert, after_remove, after_write, asks, control_written, gscr, notifies, port_at}
use Rattle.pm_registers.specs.{RegisterMap.{register_at, settled, summary, with_port, written}, declared.port.PortRegisters.PortRegisters}
use Rattle.pm_registers.proofs.Door.{bits_where_fits}
use Rattle.hba_driver.specs.Orders.{changes}

-- ---- the bits of GSCR[32]

abbrev one_if : Bool → ℕ
one_if b = if b then 1 else 0

bit_of_test : (test : ℕ → Bool) (n k : ℕ) → k < n → bit_at (bits_where test n) k ≡ one_if (test k)
unfolding bits_where
bit_of_test test zero k h = absurd (omega arith)
bit_of_test test (suc n) k h =
    let one : ℕ = one_if (test n) in
    let sum : bits_where test n + (if test n then 2 ^ n else 0) ≡ one * 2 ^ n + bits_where test n =
    elim (test n) as (λ b. bits_where test n + (if b then 2 ^ n else 0) ≡ one_if b * 2 ^ n + bits_where test n) [ true ↦ omega arith | false ↦ omega arith ] in
    ap (λ (x : ℕ). bit_at x k) sum ∙ elim (cases_lt k n) [
      | inl below ↦ bit_at_cat_low one n (bits_where test n) k below ∙ bit_of_test test n k below
      | inr at_top ↦
          let e : k ≡ n = omega arith in
          let zero_left : k - n ≡ 0 = omega arith in
          bit_at_cat_high one n (bits_where test n) k (bits_where_fits test n) at_top ∙ ap (bit_at one) zero_left ∙ bit_at_lowest one
          ∙ elim (test n) as (λ b. one_if b % 2 ≡ one_if b) [ true ↦ refl | false ↦ refl ] ∙ ap (λ (j : ℕ). one_if (test j)) (sym e)
    ]

-- it has the bit of a port that asks
pub names_asking : (m : RegisterMap) (n : ℕ) → n < m.ports → asks m n ≡ true → has_bit (summary m) n ≡ true
names_asking m n low is = ap (λ (k : ℕ). k == 1) (bit_of_test (asks m) m.ports n low ∙ ap one_if is)

pub summary_small : (m : RegisterMap) → m.ports ≤ 15 → summary m < 2 ^ 15
summary_small m most =
    let fits : summary m < 2 ^ m.ports = bits_where_fits (asks m) m.ports in
    let more : 2 ^ m.ports ≤ 2 ^ 15 = pow_mono most in
    omega (arith, fits, more)

bit_rises : (old new k : ℕ) → bit_at old k ≡ 0 → bit_at new k ≡ 1 → rises old new ≡ true
bit_rises old new k h g = ap not (ne_eqb (without new old) 0 some)
  where
    left : bit_at (without new old) k ≡ (bit_at new k + min (bit_at new k) (bit_at old k)) % 2
    left = bit_at_xor new (bit_and new old) k ∙ ap (λ (b : ℕ). (bit_at new k + b) % 2) (bit_at_and new old k)

    set : bit_at (without new old) k ≡ 1
    set = left ∙ ap (λ (a : ℕ). (a + min a (bit_at old k)) % 2) g ∙ ap (λ (b : ℕ). (1 + min 1 b) % 2) h

    some : without new old ≢ 0
    some e = absurd (let zero_bit : bit_at (without new old) k ≡ 0 = ap (λ (z : ℕ). bit_at z k) e ∙ bit_at-zero k in omega (arith, set, zero_bit))

-- ---- when a notification becomes due

-- what was due stays due, and a port that begins to ask makes one due
pub record AsksOn (m r : RegisterMap) : Type 0 where
  pub ports : r.ports ≡ m.ports
  pub due : m.due ≡ true → r.due ≡ true
  pub asks_on : (n : ℕ) → n < m.ports → asks r n ≡ true → (asks m n ≡ true) ⊎ (r.due ≡ true)

begins_due : (m next : RegisterMap) (n : ℕ) → n < m.ports → next.ports ≡ m.ports → notifies next ≡ true → asks m n ≡ false → asks next n ≡ true → (settled (summary m) next).due ≡ true
begins_due m next n low same on was is =
    let before : bit_at (summary m) n ≡ 0 = bit_of_test (asks m) m.ports n low ∙ ap one_if was in
    let after : bit_at (summary next) n ≡ 1 = bit_of_test (asks next) next.ports n (subst (λ (p : ℕ). n < p) (sym same) low) ∙ ap one_if is in
    or_right next.due (notifies next && rises (summary m) (summary next)) (and_from (notifies next) (rises (summary m) (summary next)) on (bit_rises (summary m) (summary next) n before after))

port_asks : (m : RegisterMap) (k : ℕ) (p : PortRegisters) → notifies m ≡ true → AsksOn m (settled (summary m) (with_port m k p))
port_asks m k p on = record {
  ports = refl;
  due = λ d. or_left m.due (notifies m && rises (summary m) (summary (with_port m k p))) d;
  asks_on = λ n low is. elim (cases_Bool (asks m n)) [ inl was ↦ inl was | inr none ↦ inr (begins_due m (with_port m k p) n low refl on none is) ];
}

-- a device comes or goes
pub insert_asks : (m : RegisterMap) (n : ℕ) → notifies m ≡ true → AsksOn m (after_insert m n)
insert_asks m n on = port_asks m n (inserted (port_at m n)) on

pub remove_asks : (m : RegisterMap) (n : ℕ) → notifies m ≡ true → AsksOn m (after_remove m n)
remove_asks m n on = port_asks m n (removed (port_at m n)) on

pub asks_same : (m r : RegisterMap) → r ≡ m → AsksOn m r
asks_same m r same = record {
  ports = ap (λ (x : RegisterMap). x.ports) same;
  due = λ d. ap (λ (x : RegisterMap). x.due) same ∙ d;
  asks_on = λ n low is. inl (ap (λ (x : RegisterMap). asks x n) (sym same) ∙ is);
}

-- ---- the errors of a port are cleared

left_bit : (a b : ℕ) → a < 2 → b < 2 → min ((a + min a b) % 2) b ≡ 0
left_bit a b small other = omega arith

without_none : (x y : ℕ) → bit_and (without x y) y ≡ 0
without_none x y = same_from_bits (bit_and (without x y) y) 0 (λ i.
    bit_at_and (without x y) y i
    ∙ ap (λ (b : ℕ). min b (bit_at y i)) (bit_at_xor x (bit_and x y) i ∙ ap (λ (b : ℕ). (bit_at x i + b) % 2) (bit_at_and x y i))
    ∙ left_bit (bit_at x i) (bit_at y i) (bit_at-lt x i) (bit_at-lt y i) ∙ sym (bit_at-zero i))

-- PSCR[1] of a port is written so that bits N and X are cleared: the port does not ask, and no other begins to
module _ (m : RegisterMap) (k : ℕ) (below : k < 15) (most : m.ports ≤ 15) (bank : length m.bank ≡ 15) (masked : m.mask ≡ changes) where
  abbrev cleared : PortRegisters
  cleared = port_written (port_at m k) 1 changes

  other : (k == 15) ≡ false
  other = ne_eqb k 15 (λ same. absurd (omega (arith, below, same)))

  register_is : (b : Bool) → nat_lt k m.ports ≡ b → register_at m k 1 ≡ (if b then pscr (port_at m k) 1 else None)
  register_is b is =
      ap (λ (c : Bool). if c then gscr m 1 else (if nat_lt k m.ports then pscr (port_at m k) 1 else None)) other
      ∙ ap (λ (c : Bool). if c then pscr (port_at m k) 1 else None) is

  after_is : (b : Bool) → nat_lt k m.ports ≡ b → after_write m k 1 changes ≡ (if b then settled (summary m) (with_port m k cleared) else m)
  after_is b is =
      ap (λ (o : Option ℕ). if is_some o then settled (summary m) (written m k 1 changes) else m) (register_is b is)
      ∙ elim b as (λ c. (if is_some (if c then pscr (port_at m k) 1 else None) then settled (summary m) (written m k 1 changes) else m) ≡ (if c then settled (summary m) (with_port m k cleared) else m))
      [ true ↦ ap (λ (c : Bool). settled (summary m) (if c then control_written m 1 changes else with_port m k cleared)) other | false ↦ refl ]

  asks_none : shares cleared.error m.mask ≡ false
  asks_none = ap (λ (x : ℕ). shares cleared.error x) masked ∙ ap (λ (z : ℕ). not (z == 0)) (without_none (port_at m k).error changes)

  made_asks : k < m.ports → (n : ℕ) → asks (with_port m k cleared) n ≡ true → (n ≢ k) × (asks m n ≡ true)
  made_asks low n is = elim (cases_eq n k) [
    | inl same ↦
        let here : asks (with_port m k cleared) k ≡ false = ap (λ (p : PortRegisters). shares p.error m.mask) (get_or-set_same m.bank k cleared opening_port (omega (arith, below, bank))) ∙ asks_none in
        absurd (true≢false (sym is ∙ ap (asks (with_port m k cleared)) same ∙ here))
    | inr apart ↦ (apart, ap (λ (p : PortRegisters). shares p.error m.mask) (sym (get_or-set_other m.bank k n cleared opening_port apart)) ∙ is)
  ]

  pub clear_asks : (n : ℕ) → n < m.ports → asks (after_write m k 1 changes) n ≡ true → (n ≢ k) × (asks m n ≡ true)
  clear_asks n within is = elim (cases_lt k m.ports) [
    | inl low ↦ made_asks low n (ap (λ (r : RegisterMap). asks r n) (sym (after_is true (lt-ltb k m.ports low))) ∙ is)
    | inr past ↦
        ((λ same. absurd (omega (arith, within, past, same))), ap (λ (r : RegisterMap). asks r n) (sym (after_is false (le-ltb k m.ports past))) ∙ is)
  ]

  pub clear_due : m.due ≡ true → (after_write m k 1 changes).due ≡ true
  clear_due d = elim (cases_lt k m.ports) [
    | inl low ↦ ap (λ (r : RegisterMap). r.due) (after_is true (lt-ltb k m.ports low)) ∙ or_left m.due (notifies m && rises (summary m) (summary (with_port m k cleared))) d
    | inr past ↦ ap (λ (r : RegisterMap). r.due) (after_is false (le-ltb k m.ports past)) ∙ d
  ]

-- ---- a port that does not ask

part_none : (x part : ℕ) → bit_and changes part ≡ part → bit_and x changes ≡ 0 → bit_and x part ≡ 0
part_none x part inside none = ap (bit_and x) (sym inside) ∙ sym (and_assoc part x changes) ∙ ap (λ (z : ℕ). bit_and z part) none ∙ and_zero_l part

-- neither N nor X is set in its SError
pub errors_none : (m : RegisterMap) (n : ℕ) → m.mask ≡ changes → asks m n ≡ false → (bit_and (port_at m n).error bit_n ≡ 0) × (bit_and (port_at m n).error bit_x ≡ 0)
errors_none m n masked is =
    let e : ℕ = (port_at m n).error in
    let none : bit_and e changes ≡ 0 = eqb-true (bit_and e changes) 0 (not-false (bit_and e changes == 0) (ap (λ (x : ℕ). shares e x) (sym masked) ∙ is)) in
    (part_none e bit_n refl none, part_none e bit_x refl none)
