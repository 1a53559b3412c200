-- For the functions of mask.rt and taken.rt. Masks of slots, and the entries that they stand for.
use Rattle.std.proofs.Common.{◌≡◌, ◌≢◌, ◌<◌, ◌≤◌, ◌-◌, ◌*◌, ◌%◌, ◌^◌, ℕ, rules, zero, suc, Bool, true, false, not, ◌&&◌, min, nat_eq, cond, List, length, replicate, set, refl, ap, sym, ◌∙◌, arith, inl, inr, w32, bit_and, bit_or, Option, Some, None}
use Rattle.std.specs.{Int.{bit_not, trailing_zeros, bit_at}, Prelude.IfSome}
use Rattle.std.proofs.lemmas.{Bool.{cases_eq, cases_lt, eq-eqb, ne_eqb, true≢false}, List.{get_or_past, get_or-replicate, length-replicate}}
use Rattle.std.proofs.lemmas.Nat.Bits.{bit_at-lt, bit_at-zero, bit_at_and, bit_at_not, bit_at_ones, bit_at_set_same, bit_at_set_other}
use Rattle.std.proofs.lemmas.Nat.Bits.{bit_at_clear_same, bit_at_clear_other, bit_at-trailing_zeros}
use Rattle.slots.proofs.Door.{lowest_found, lowest_none}
use Rattle.slots.specs.Slots.{has_bit, lowest_below}
use Rattle.hba_driver.specs.{declared.slot.Head.Head, Drivers.{Entry, entry_at, has_ended, holds, is_issued, waits}}
use Rattle.hba_driver.specs.{Masks.{AreMasks, IsLowestBit, IsMask, NoneAt, SetsBit}, Requests.is_free, Ticks.is_done}

-- ---- bits

-- the bit of the slot, and each other bit
sets_bit : (slot : ℕ) (set : Bool) (old new : ℕ) → has_bit new slot ≡ set → ((k : ℕ) → k < 32 → k ≢ slot → has_bit new k ≡ has_bit old k) → SetsBit slot set old new
sets_bit slot set old new here other k below = elim (cases_eq k slot) [
  | inl e ↦ ap (has_bit new) e ∙ here ∙ sym (ap (λ (b : Bool). cond b set (has_bit old k)) (eq-eqb k slot e))
  | inr ne ↦ other k below ne ∙ sym (ap (λ (b : Bool). cond b set (has_bit old k)) (ne_eqb k slot ne))
]

pub bit_set : (mask slot : ℕ) (set : Bool) → slot < 32 → set ≡ true → SetsBit slot set mask (bit_or mask (1 * 2 ^ slot % 2 ^ 32))
bit_set mask slot set within is =
    sets_bit slot set mask _ (eq-eqb _ _ (bit_at_set_same w32 mask slot within) ∙ sym is) (λ k below ne. ap (λ (b : ℕ). nat_eq b 1) (bit_at_set_other w32 mask slot within k ne))

pub bit_cleared : (mask slot : ℕ) (set : Bool) → slot < 32 → set ≡ false → SetsBit slot set mask (bit_and mask (bit_not w32 (1 * 2 ^ slot % 2 ^ 32)))
bit_cleared mask slot set within is =
    sets_bit slot set mask _ (ap (λ (b : ℕ). nat_eq b 1) (bit_at_clear_same w32 mask slot within) ∙ sym is) (λ k below ne. ap (λ (b : ℕ). nat_eq b 1) (bit_at_clear_other w32 mask slot within k below ne))

pub bit_lowest : (mask : ℕ) → 0 < mask → mask < 2 ^ 32 → IsLowestBit mask (Some (trailing_zeros w32 mask))
bit_lowest mask some fits =
    let t = bit_at-trailing_zeros w32 mask some fits in
    (t.0, eq-eqb _ _ t.1, λ k below. ap (λ (b : ℕ). nat_eq b 1) (t.2 k below))

and_not : (x y : ℕ) → x < 2 → y < 2 → nat_eq (min x (1 - y)) 1 ≡ (nat_eq x 1 && not (nat_eq y 1))
and_not zero zero hx hy = refl
and_not zero (suc zero) hx hy = refl
and_not zero (suc (suc y)) hx hy = absurd (omega arith)
and_not (suc zero) zero hx hy = refl
and_not (suc zero) (suc zero) hx hy = refl
and_not (suc zero) (suc (suc y)) hx hy = absurd (omega arith)
and_not (suc (suc x)) y hx hy = absurd (omega arith)

-- the bits of a mask that are not in another one
bits_without : (mask other k : ℕ) → other < 2 ^ 32 → k < 32 → has_bit (bit_and mask (bit_not w32 other)) k ≡ (has_bit mask k && not (has_bit other k))
bits_without mask other k fits below =
    ap (λ (b : ℕ). nat_eq b 1) (bit_at_and mask (bit_not w32 other) k ∙ ap (λ (b : ℕ). min (bit_at mask k) b) (bit_at_not w32 other k fits below))
    ∙ and_not (bit_at mask k) (bit_at other k) (bit_at-lt mask k) (bit_at-lt other k)

-- ---- the lowest

-- the lowest bit of a mask is the lowest slot that passes the test
pub lowest_of : (test : ℕ → Bool) (mask : ℕ) (o : Option ℕ) → ((k : ℕ) → k < 32 → has_bit mask k ≡ test k) → ((k : ℕ) → 30 ≤ k → test k ≡ false) → IsLowestBit mask o → o ≡ lowest_below test 30
lowest_of test mask None same past low = sym (lowest_none test 30 (λ k lt. sym (same k (omega arith)) ∙ low k (omega arith)))
lowest_of test mask (Some s) same past low = elim (cases_lt s 30) [
  | inl below ↦ sym (lowest_found test 30 s below (sym (same s low.0) ∙ low.1) (λ k lt. sym (same k (omega arith)) ∙ low.2 k lt))
  | inr beyond ↦ absurd (true≢false (sym low.1 ∙ same s low.0 ∙ past s beyond))
]

pub lowest_inside : (test : ℕ → Bool) (mask : ℕ) (o : Option ℕ) → ((k : ℕ) → k < 32 → has_bit mask k ≡ test k) → ((k : ℕ) → 30 ≤ k → test k ≡ false) → IsLowestBit mask o → IfSome o (λ slot. slot < 30)
lowest_inside test mask None same past low = search rules
lowest_inside test mask (Some s) same past low = elim (cases_lt s 30) [
  | inl below ↦ below
  | inr beyond ↦ absurd (true≢false (sym low.1 ∙ same s low.0 ∙ past s beyond))
]

pub past_none : (entries : List (Option Entry)) (k : ℕ) → length entries ≡ 30 → 30 ≤ k → entry_at entries k ≡ None
past_none entries k long past = get_or_past entries k None (omega arith)

-- ---- masks and entries

abbrev no_entry : Option Entry
no_entry = None

empty_at : (n k : ℕ) (entries : List (Option Entry)) → entries ≡ replicate n no_entry → entry_at entries k ≡ None
empty_at n k entries is = ap (λ (l : List (Option Entry)). entry_at l k) is ∙ elim (cases_lt k n) [
  | inl below ↦ get_or-replicate n k None None below
  | inr past ↦ get_or_past (replicate n no_entry) k None (rw (length-replicate n no_entry) past)
]

-- each slot is free
pub no_masks : (n : ℕ) (entries : List (Option Entry)) → entries ≡ replicate n no_entry → AreMasks (record { waits = 0; issued = 0; ended = 0; free = 4294967295 }) entries
no_masks n entries is = record {
  waits = record { bits = λ k lt. ap (λ (b : ℕ). nat_eq b 1) (bit_at-zero k) ∙ sym (ap (holds waits) (empty_at n k entries is)) };
  issued = record { bits = λ k lt. ap (λ (b : ℕ). nat_eq b 1) (bit_at-zero k) ∙ sym (ap (holds is_issued) (empty_at n k entries is)) };
  ended = record { bits = λ k lt. ap (λ (b : ℕ). nat_eq b 1) (bit_at-zero k) ∙ sym (ap (holds has_ended) (empty_at n k entries is)) };
  free = record { bits = λ k lt. eq-eqb _ _ (bit_at_ones 32 k lt) ∙ sym (ap is_free (empty_at n k entries is)) };
}

-- a mask of 0 has no slot
pub none_at : (test : Option Entry → Bool) (mask : ℕ) (entries : List (Option Entry)) → IsMask test mask entries → mask ≡ 0 → NoneAt test entries
none_at test mask entries m is = record { none = λ k lt. sym (m.bits k lt) ∙ ap (λ (x : ℕ). has_bit x k) is ∙ ap (λ (b : ℕ). nat_eq b 1) (bit_at-zero k) }

done_is : (issued k : ℕ) (e : Option Entry) → (holds is_issued e && not (has_bit issued k)) ≡ holds (is_done issued k) e
done_is issued k None = refl
done_is issued k (Some e) = refl

-- the slots that are issued and whose bits are not among these
pub done_bits : (mask issued : ℕ) (entries : List (Option Entry)) → issued < 2 ^ 32 → IsMask (holds is_issued) mask entries → (k : ℕ) → k < 32 → has_bit (bit_and mask (bit_not w32 issued)) k ≡ holds (is_done issued k) (entry_at entries k)
done_bits mask issued entries fits m k below =
    bits_without mask issued k fits below ∙ ap (λ (b : Bool). b && not (has_bit issued k)) (m.bits k below) ∙ done_is issued k (entry_at entries k)

-- what is not issued is not done, and what is free passes no test
pub not_done : (issued k : ℕ) (e : Option Entry) → holds is_issued e ≡ false → holds (is_done issued k) e ≡ false
not_done issued k e h = sym (done_is issued k e) ∙ ap (λ (b : Bool). b && not (has_bit issued k)) h

-- what does not wait passes no test of those that wait
pub not_waiting : (ready : Head → Bool) (e : Option Entry) → holds waits e ≡ false → holds (λ head. waits head && ready head) e ≡ false
not_waiting ready None h = refl
not_waiting ready (Some e) h = ap (λ (b : Bool). b && ready e.head) h
