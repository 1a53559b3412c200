-- Sets of slots: the lowest one, and the number of a set.
use Rattle.std.proofs.Common.{◌≡◌, ◌≢◌, ℕ, zero, suc, ◌+◌, ◌*◌, ◌%◌, ◌^◌, ◌<◌, ◌≤◌, Bool, true, false, nat_eq, nat_lt, cond, List, get_or, length}
use Rattle.std.proofs.{Common.{refl, sym, ◌∙◌, ap, arith, inl, inr, Option, Some, None, w32, bit_or}, lemmas.Bool.{cases_eq, cases_Bool, eq-eqb}}
use Rattle.std.proofs.lemmas.{Bool.{lt-ltb, le-ltb, ltb-false}, List.{get_or-map, get_or_default, Sums.{sum_by_push, position_or_len_is}}}
use Rattle.std.proofs.lemmas.List.{Sums.fails_before_first, Quantifiers.{position-Some}, FromFn.{length-range_with_len, get_or-range_with_len}}
use Rattle.std.proofs.lemmas.{List.FromFn.{length-map-range_with_len, get_or-map-range_with_len, fill_by_all}, Nat.{or_comm, or_shifted, one_shl}}
use Rattle.std.proofs.lemmas.Nat.Bits.{bit_at_set_same, bit_at_set_other, bit_at-zero}
use Rattle.std.specs.{List.{range_with_len, sum_by, position_or_len}, Option.{is_some, option_map}}
use Rattle.slots.specs.{Commands.is_any, Issued.issued_of, Slots.{Issue, has_bit, holds, issues_unless, lowest_below, mask_below, owned_by, own_of}}
use Rattle.slots.specs.{Slots.own_issue, Between.{IsLowest, MaskBelow}}
use Rattle.slots.proofs.ByteLemmas.{range_more}

-- ---- the lowest

pub lowest_found : (test : ℕ → Bool) (n s : ℕ) → s < n → test s ≡ true → ((k : ℕ) → k < s → test k ≡ false) → lowest_below test n ≡ Some s
unfolding lowest_below
lowest_found test n s lt here low =
    let xs : List ℕ = range_with_len 0 n in
    let lr = length-range_with_len 0 n in
    let at : (k : ℕ) → k < n → get_or xs k 0 ≡ k = λ k below. get_or-range_with_len 0 n k 0 below ∙ omega arith in
    let is : position_or_len test xs ≡ s = position_or_len_is test xs s 0 (omega (arith, lr)) (λ k below. ap test (at k (omega arith)) ∙ low k below) (λ h. ap test (at s lt) ∙ here) in
    let found : nat_lt s (length xs) ≡ true = lt-ltb s (length xs) (omega (arith, lr)) in
    ap (λ (i : ℕ). cond (nat_lt i (length xs)) (Some i) None) is ∙ ap (λ (b : Bool). cond b (Some s) None) found

pub lowest_none : (test : ℕ → Bool) (n : ℕ) → ((k : ℕ) → k < n → test k ≡ false) → lowest_below test n ≡ None
unfolding lowest_below
lowest_none test n none =
    let xs : List ℕ = range_with_len 0 n in
    let lr = length-range_with_len 0 n in
    let at : (k : ℕ) → k < n → get_or xs k 0 ≡ k = λ k below. get_or-range_with_len 0 n k 0 below ∙ omega arith in
    let is : position_or_len test xs ≡ n = position_or_len_is test xs n 0 (omega (arith, lr)) (λ k below. ap test (at k below) ∙ none k below) (λ h. absurd (omega (arith, lr))) in
    let past : nat_lt n (length xs) ≡ false = le-ltb n (length xs) (omega (arith, lr)) in
    ap (λ (i : ℕ). cond (nat_lt i (length xs)) (Some i) None) is ∙ ap (λ (b : Bool). cond b (Some n) None) past

pub lowest_is : (test : ℕ → Bool) (n s : ℕ) → lowest_below test n ≡ Some s → IsLowest test n s
unfolding lowest_below
lowest_is test n s h =
    let xs : List ℕ = range_with_len 0 n in
    let lr = length-range_with_len 0 n in
    let p = position-Some test xs s 0 h in
    let below : s < n = omega (arith, lr, p.0) in
    let at : get_or xs s 0 ≡ s = get_or-range_with_len 0 n s 0 below ∙ omega arith in
    record { below = below; passes = ap test (sym at) ∙ p.1 }

pub lowest_before : (test : ℕ → Bool) (n s k : ℕ) → lowest_below test n ≡ Some s → k < s → test k ≡ false
unfolding lowest_below
lowest_before test n s k h lt =
    let xs : List ℕ = range_with_len 0 n in
    let lr = length-range_with_len 0 n in
    let p = position-Some test xs s 0 h in
    let at : get_or xs k 0 ≡ k = get_or-range_with_len 0 n k 0 (omega (arith, lr, p.0)) ∙ omega arith in
    ap test (sym at) ∙ p.2 k lt

abbrev no_number : Option ℕ
no_number = None

none_found : (i n : ℕ) (b : Bool) → nat_lt i n ≡ b → cond b (Some i) no_number ≡ no_number → nat_lt i n ≡ false
none_found i n true e h = cc
none_found i n false e h = e

pub none_below : (test : ℕ → Bool) (n : ℕ) → lowest_below test n ≡ None → (k : ℕ) → k < n → test k ≡ false
unfolding lowest_below
none_below test n h k lt =
    let xs : List ℕ = range_with_len 0 n in
    let lr = length-range_with_len 0 n in
    let p : ℕ = position_or_len test xs in
    let past : nat_lt p (length xs) ≡ false = none_found p (length xs) (nat_lt p (length xs)) refl h in
    let long : length xs ≤ p = ltb-false p (length xs) past in
    let at : get_or xs k 0 ≡ k = get_or-range_with_len 0 n k 0 lt ∙ omega arith in
    ap test (sym at) ∙ fails_before_first test xs k 0 (omega (arith, lr))

-- ---- the number

pub mask_none : (test : ℕ → Bool) → mask_below test 0 ≡ 0
unfolding mask_below
mask_none test = refl

mask_suc : (test : ℕ → Bool) (n : ℕ) → mask_below test (suc n) ≡ mask_below test n + cond (test n) (2 ^ n) 0
unfolding mask_below
mask_suc test n =
    let f : ℕ → ℕ = λ k. cond (test k) (2 ^ k) 0 in
    let e : 0 + n ≡ n = omega arith in
    ap (sum_by f) (range_more 0 n) ∙ sum_by_push f (range_with_len 0 n) (0 + n) ∙ ap (λ (m : ℕ). sum_by f (range_with_len 0 n) + f m) e

mask_step : (test : ℕ → Bool) (n : ℕ) (b : Bool) → test n ≡ b → mask_below test (n + 1) ≡ mask_below test n + cond b (2 ^ n) 0
mask_step test n b is =
    let more : n + 1 ≡ suc n = omega arith in
    ap (mask_below test) more ∙ mask_suc test n ∙ ap (λ (c : Bool). mask_below test n + cond c (2 ^ n) 0) is

mask_fits_by : (test : ℕ → Bool) (n : ℕ) (b : Bool) → mask_below test n < 2 ^ n → mask_below test n + cond b (2 ^ n) 0 < 2 ^ suc n
mask_fits_by test n true h = omega arith
mask_fits_by test n false h = omega arith

pub mask_fits : (test : ℕ → Bool) (n : ℕ) → mask_below test n < 2 ^ n
mask_fits test zero = rw (mask_none test) (omega arith)
mask_fits test (suc n) = rw (mask_suc test n) (mask_fits_by test n (test n) (mask_fits test n))

pub mask_set : (test : ℕ → Bool) (n bits : ℕ) → n < 32 → bits ≡ mask_below test n → test n ≡ true → bit_or bits (1 * 2 ^ n % 2 ^ 32) ≡ mask_below test (n + 1)
mask_set test n bits small is passes =
    let fits : bits < 2 ^ n = omega (arith, mask_fits test n) in
    let joined : bit_or (1 * 2 ^ n) bits ≡ 1 * 2 ^ n + bits = or_shifted 1 n bits fits in
    let one : 1 * 2 ^ n ≡ 2 ^ n = omega arith in
    let next : mask_below test (n + 1) ≡ mask_below test n + 2 ^ n = mask_step test n true passes in
    ap (λ (x : ℕ). bit_or bits x) (one_shl n 32 small ∙ sym one) ∙ or_comm bits (1 * 2 ^ n) ∙ joined ∙ omega arith ∙ sym next

pub mask_same : (test : ℕ → Bool) (n bits : ℕ) → bits ≡ mask_below test n → test n ≡ false → bits ≡ mask_below test (n + 1)
mask_same test n bits is fails =
    let next : mask_below test (n + 1) ≡ mask_below test n + 0 = mask_step test n false fails in
    is ∙ omega arith ∙ sym next

bits_none : (test : ℕ → Bool) → MaskBelow test 0 0
bits_none test = record { below = λ s h. absurd (omega arith); above = λ s h. ap (λ b. nat_eq b 1) (bit_at-zero s) }

bits_same : (test : ℕ → Bool) (mask i : ℕ) → test i ≡ false → MaskBelow test mask i → MaskBelow test mask (i + 1)
bits_same test mask i h m = record {
  below = λ s lt. elim (cases_eq s i) [ inl e ↦ m.above s (omega arith) ∙ sym (ap test e ∙ h) | inr ne ↦ m.below s (omega arith) ];
  above = λ s le. m.above s (omega arith);
}

bits_more : (test : ℕ → Bool) (mask i : ℕ) → i < 32 → test i ≡ true → MaskBelow test mask i → MaskBelow test (bit_or mask (1 * 2 ^ i % 2 ^ 32)) (i + 1)
bits_more test mask i within h m =
    let other : (s : ℕ) → s ≢ i → has_bit (bit_or mask (1 * 2 ^ i % 2 ^ 32)) s ≡ has_bit mask s = λ s ne. ap (λ b. nat_eq b 1) (bit_at_set_other w32 mask i within s ne) in
    record {
      below = λ s lt. elim (cases_eq s i) [
        | inl e ↦ ap (has_bit (bit_or mask (1 * 2 ^ i % 2 ^ 32))) e ∙ eq-eqb _ _ (bit_at_set_same w32 mask i within) ∙ sym (ap test e ∙ h)
        | inr ne ↦ other s ne ∙ m.below s (omega arith)
      ];
      above = λ s le. let ne : s ≢ i = λ e. omega arith in other s ne ∙ m.above s (omega arith);
    }

mask_bits : (test : ℕ → Bool) (n : ℕ) → n ≤ 32 → MaskBelow test (mask_below test n) n
mask_bits test zero h = rw (mask_none test) (bits_none test)
mask_bits test (suc n) h =
    let more : suc n ≡ n + 1 = omega arith in
    let before : MaskBelow test (mask_below test n) n = mask_bits test n (omega arith) in
    rw more (elim (cases_Bool (test n)) [
      | inl passes ↦ rw (← mask_set test n (mask_below test n) (omega arith) refl passes) (bits_more test (mask_below test n) n (omega arith) passes before)
      | inr fails ↦ rw (← mask_same test n (mask_below test n) refl fails) (bits_same test (mask_below test n) n fails before)
    ])

pub has_bit_below : (test : ℕ → Bool) (n s : ℕ) → n ≤ 32 → s < n → has_bit (mask_below test n) s ≡ test s
has_bit_below test n s most h = (mask_bits test n most).below s h

pub has_bit_mask : (test : ℕ → Bool) (s : ℕ) → s < 32 → has_bit (mask_below test 32) s ≡ test s
has_bit_mask test s h = (mask_bits test 32 (omega arith)).below s h

-- ---- a device's slots, read one by one

pub own_read : (dev : ℕ) (issues : List (Option Issue)) (s : ℕ) (d : Option Issue) → s < length issues → owned_by dev (get_or issues s d) ≡ own_issue (own_of dev issues) s
own_read dev issues s d lt = sym (get_or-map (owned_by dev) issues s d None lt)

-- the same, whatever its device
pub slot_read : (issues : List (Option Issue)) (s : ℕ) (d : Option Issue) → s < length issues → get_or issues s d ≡ get_or issues s None
slot_read issues s d lt = get_or_default issues s d None lt

pub any_issued : (o : Option Issue) → is_some (option_map issued_of o) ≡ holds is_any o
any_issued None = refl
any_issued (Some issue) = refl

-- ---- slots that are freed

pub length-unless : (test : ℕ → Bool) (issues : List (Option Issue)) → length (issues_unless test issues) ≡ length issues
unfolding issues_unless
length-unless test issues = length-map-range_with_len (λ slot. cond (test slot) None (get_or issues slot None)) 0 (length issues)

pub get-unless : (test : ℕ → Bool) (issues : List (Option Issue)) (s : ℕ) (d : Option Issue) → s < length issues → get_or (issues_unless test issues) s d ≡ cond (test s) None (get_or issues s None)
unfolding issues_unless
get-unless test issues s d h = get_or-map-range_with_len (λ slot. cond (test slot) None (get_or issues slot None)) 0 (length issues) s s d h (omega arith)

-- the slots below i are freed if the test says so, and the others are as they were
pub record FreedBelow (test : ℕ → Bool) (old new : List (Option Issue)) (i : ℕ) : Type 0 where
  pub long : length new ≡ length old
  pub below : (s : ℕ) → s < i → get_or new s None ≡ cond (test s) None (get_or old s None)
  pub above : (s : ℕ) → i ≤ s → get_or new s None ≡ get_or old s None

pub freed_all : (test : ℕ → Bool) (old new : List (Option Issue)) (i : ℕ) → length old ≤ i → FreedBelow test old new i → new ≡ issues_unless test old
unfolding issues_unless
freed_all test old new i h f = fill_by_all (λ s. cond (test s) None (get_or old s None)) new (length old) None f.long (λ s lt. f.below s (omega arith))
