-- Bits of masks of slots.
use Rattle.std.proofs.Common.{◌≡◌, ◌≢◌, ℕ, zero, suc, ◌-◌, ◌+◌, ◌*◌, ◌<◌, ◌≤◌, ◌^◌, min, max, Bool, true, false, refl, sym, ap, subst, ◌∙◌, inl, inr}
use Rattle.std.proofs.{Common.{arith, w32, bit_or}, lemmas.{Bool.{cases_Bool, cases_eq, eq-eqb, eqb-true, true≢false, false≢true}, Nat.pow_below}}
use Rattle.std.proofs.lemmas.Nat.Bits.{bit_at-lt, bit_at-pow_other, bit_at-pow_same, bit_at-zero, bit_at_and, bit_at_not, bit_at_or}
use Rattle.std.specs.{Prelude.{◌==◌}, Int.bit_at}
use Rattle.slots.specs.Slots.{has_bit}
use Rattle.hba_fbs.specs.Bits.{without}

-- ---- one bit

is_one : (n : ℕ) → (n == 1) ≡ true → n ≡ 1
is_one n h = eqb-true n 1 h

not_one : (n : ℕ) → n < 2 → (n == 1) ≡ false → n ≡ 0
not_one n small h = elim (cases_eq n 1) [
  | inl one ↦ absurd (true≢false (sym (eq-eqb n 1 one) ∙ h))
  | inr other ↦ below_two n small other
]
  where
    below_two : (k : ℕ) → k < 2 → k ≢ 1 → k ≡ 0
    below_two zero lt ne = refl
    below_two (suc zero) lt ne = absurd (ne refl)
    below_two (suc (suc k)) lt ne = omega (arith, lt)

pub set : (x k : ℕ) → has_bit x k ≡ true → bit_at x k ≡ 1
set x k h = is_one (bit_at x k) h

pub unset : (x k : ℕ) → has_bit x k ≡ false → bit_at x k ≡ 0
unset x k h = not_one (bit_at x k) (bit_at-lt x k) h

pub is_set : (x k : ℕ) → bit_at x k ≡ 1 → has_bit x k ≡ true
is_set x k h = ap (λ (n : ℕ). n == 1) h

pub is_unset : (x k : ℕ) → bit_at x k ≡ 0 → has_bit x k ≡ false
is_unset x k h = ap (λ (n : ℕ). n == 1) h

pub none_set : (k : ℕ) → has_bit 0 k ≡ false
none_set k = is_unset 0 k (bit_at-zero k)

-- ---- both

pub or_left : (a b k : ℕ) → has_bit a k ≡ true → has_bit (bit_or a b) k ≡ true
or_left a b k h =
    let one = set a k h in
    let both = bit_at_or a b k in
    let small = bit_at-lt b k in
    is_set (bit_or a b) k (omega (arith, one, both, small))

pub or_right : (a b k : ℕ) → has_bit b k ≡ true → has_bit (bit_or a b) k ≡ true
or_right a b k h =
    let one = set b k h in
    let both = bit_at_or a b k in
    let small = bit_at-lt a k in
    is_set (bit_or a b) k (omega (arith, one, both, small))

pub or_none : (a b k : ℕ) → has_bit a k ≡ false → has_bit b k ≡ false → has_bit (bit_or a b) k ≡ false
or_none a b k h j =
    let one = unset a k h in
    let two = unset b k j in
    let both = bit_at_or a b k in
    is_unset (bit_or a b) k (omega (arith, one, two, both))

pub or_other : (a b k : ℕ) → has_bit (bit_or a b) k ≡ true → has_bit a k ≡ false → has_bit b k ≡ true
or_other a b k h none = elim (cases_Bool (has_bit b k)) [
  | inl here ↦ here
  | inr gone ↦ absurd (true≢false (sym h ∙ or_none a b k none gone))
]

pub or_rest : (a b k : ℕ) → has_bit (bit_or a b) k ≡ false → has_bit a k ≡ false
or_rest a b k h = elim (cases_Bool (has_bit a k)) [
  | inl here ↦ absurd (false≢true (sym h ∙ or_left a b k here))
  | inr gone ↦ gone
]

-- ---- one slot

pub pow_same : (slot : ℕ) → has_bit (2 ^ slot) slot ≡ true
pow_same slot = is_set (2 ^ slot) slot (bit_at-pow_same slot)

pub pow_other : (slot s : ℕ) → s ≢ slot → has_bit (2 ^ slot) s ≡ false
pow_other slot s ne = is_unset (2 ^ slot) s (bit_at-pow_other slot s ne)

-- ---- what is left

left_bit : (x y k : ℕ) → y < 2 ^ 32 → k < 32 → bit_at (without x y) k ≡ min (bit_at x k) (1 - bit_at y k)
left_bit x y k fits below = bit_at_and x (4294967295 - y) k ∙ ap (λ (n : ℕ). min (bit_at x k) n) (bit_at_not w32 y k fits below)

pub left_was : (x y k : ℕ) → has_bit (without x y) k ≡ true → has_bit x k ≡ true
left_was x y k h =
    let one = set (without x y) k h in
    let both = bit_at_and x (4294967295 - y) k in
    let small = bit_at-lt x k in
    is_set x k (omega (arith, one, both, small))

pub left_none : (x y k : ℕ) → has_bit x k ≡ false → has_bit (without x y) k ≡ false
left_none x y k h = elim (cases_Bool (has_bit (without x y) k)) [
  | inl here ↦ absurd (false≢true (sym h ∙ left_was x y k here))
  | inr gone ↦ gone
]

-- a bit that is taken is gone
pub taken : (x y k : ℕ) → y < 2 ^ 32 → k < 32 → has_bit y k ≡ true → has_bit (without x y) k ≡ false
taken x y k fits below h =
    let one = set y k h in
    let both = left_bit x y k fits below in
    is_unset (without x y) k (omega (arith, one, both))

-- one that is not taken stays
pub stays : (x y k : ℕ) → y < 2 ^ 32 → k < 32 → has_bit y k ≡ false → has_bit x k ≡ true → has_bit (without x y) k ≡ true
stays x y k fits below none h =
    let one = set x k h in
    let two = unset y k none in
    let both = left_bit x y k fits below in
    is_set (without x y) k (omega (arith, one, two, both))

pub pow_fits : (slot : ℕ) → slot < 32 → 2 ^ slot < 2 ^ 32
pow_fits slot below = pow_below slot 32 below

pub slot_taken : (x slot : ℕ) → slot < 32 → has_bit (without x (2 ^ slot)) slot ≡ false
slot_taken x slot below = taken x (2 ^ slot) slot (pow_fits slot below) below (pow_same slot)

pub other_stays : (x slot s : ℕ) → slot < 32 → s < 32 → s ≢ slot → has_bit (without x (2 ^ slot)) s ≡ false → has_bit x s ≡ false
other_stays x slot s below lt ne h = elim (cases_Bool (has_bit x s)) [
  | inl here ↦ absurd (false≢true (sym h ∙ stays x (2 ^ slot) s (pow_fits slot below) lt (pow_other slot s ne) here))
  | inr gone ↦ gone
]

pub none_left : (y : ℕ) → without 0 y ≡ 0
none_left y = refl
