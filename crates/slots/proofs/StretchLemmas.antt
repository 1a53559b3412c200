-- Bytes that are transferred where none were. They begin at most one stretch, and what is left of them was
-- not transferred.
use Rattle.std.proofs.Common.{◌≡◌, ◌≢◌, ℕ, zero, suc, ◌+◌, ◌-◌, ◌*◌, ◌%◌, ◌<◌, ◌≤◌, Bool, true, false, not, ◌&&◌, ◌||◌, nat_eq, nat_lt, nat_le, cond}
use Rattle.std.proofs.{Common.{List, length, refl, sym, ◌∙◌, ap, arith, inl, inr, count_by, subst, Option, Some, None}, lemmas.Bool.cases_Bool}
use Rattle.std.proofs.lemmas.Bool.{cases_eq, cases_lt, and_parts, eqb-true, le-leb, lt-leb, lt-ltb, le-ltb, not-true, or_cases, or_right, false≢true}
use Rattle.std.proofs.lemmas.{Bool.false_from_ne_true, List.{FromFn.{length-range_with_len, get_or-range_with_len}, Folds.{Any-from_list_any}}}
use Rattle.std.specs.{Prelude.{IsSome, is_some}, Option.ForSome, List.{range_with_len, list_any}}
use Rattle.slots.specs.{declared.slot.Issued.Issued, Issued.{HasRoom, issue_in, with_flags}, Slots.Issue, Bytes.{any_over, begins, ends_at, is_over}}
use Rattle.slots.specs.Bytes.{is_within, none_over, stretches_of, with_bytes}
use Rattle.slots.proofs.ByteLemmas.{any_at, count_more, marked_with_bytes, over_none, over_with_bytes, whole_dwords}

-- ---- counts

cond_le : (x y : Bool) → (y ≡ true → x ≡ true) → cond y 1 0 ≤ cond x 1 0
cond_le true true h = omega arith
cond_le true false h = omega arith
cond_le false true h = absurd (false≢true (h refl))
cond_le false false h = omega arith

cond_one : (y : Bool) → cond y 1 0 ≤ 1
cond_one true = omega arith
cond_one false = omega arith

count_le : (p q : ℕ → Bool) (n : ℕ) → ((b : ℕ) → b < n → q b ≡ true → p b ≡ true) → count_by q (range_with_len 0 n) ≤ count_by p (range_with_len 0 n)
count_le p q zero h = omega arith
count_le p q (suc n) h =
    let before = count_le p q n (λ b lt. h b (omega arith)) in
    let here = cond_le (p n) (q n) (h n (omega arith)) in
    omega (arith, count_more p n, count_more q n)

-- but for one number
count_but : (p q : ℕ → Bool) (o n : ℕ) → ((b : ℕ) → b < n → b ≢ o → q b ≡ true → p b ≡ true) → count_by q (range_with_len 0 n) ≤ count_by p (range_with_len 0 n) + 1
count_but p q o zero h = omega arith
count_but p q o (suc n) h = elim (cases_eq n o) [
  | inl same ↦
      let before = count_le p q n (λ b lt. h b (omega arith) (omega arith)) in
      let here = cond_one (q n) in
      omega (arith, count_more p n, count_more q n)
  | inr other ↦
      let before = count_but p q o n (λ b lt. h b (omega arith)) in
      let here = cond_le (p n) (q n) (h n (omega arith) other) in
      omega (arith, count_more p n, count_more q n)
]

-- ---- bytes

within_yes : (o n b : ℕ) → o ≤ b → b < o + n → is_within o n b ≡ true
within_yes o n b low high = ap (λ (x : Bool). x && nat_lt b (o + n)) (le-leb o b low) ∙ lt-ltb b (o + n) high

or_false : (x y : Bool) → (x || y) ≡ false → (x ≡ false) × (y ≡ false)
or_false true y h = absurd (false≢true (sym h))
or_false false y h = (refl, h)

within_is : (o n b : ℕ) → is_within o n b ≡ true → (o ≤ b) × (b < o + n)
within_is o n b h = elim (cases_lt b o) [
  | inl low ↦ absurd (false≢true (sym (ap (λ (x : Bool). x && nat_lt b (o + n)) (lt-leb o b low)) ∙ h))
  | inr above ↦ elim (cases_lt b (o + n)) [
    | inl high ↦ (above, high)
    | inr past ↦ absurd (false≢true (sym (le-ltb b (o + n) past) ∙ (and_parts (nat_le o b) (nat_lt b (o + n)) h).1))
  ]
]

-- a byte outside is as it was
over_outside : (over : List Bool) (o n b : ℕ) → o % 4 ≡ 0 → n % 4 ≡ 0 → b < 4 * length over → is_over (with_bytes over o n) b ≡ true → (is_within o n b ≡ true → ⊥) → is_over over b ≡ true
over_outside over o n b o4 n4 lt h out = elim (or_cases (is_over over b) (is_within o n b) (sym (over_with_bytes over o n b o4 n4 lt) ∙ h)) [
  | inl was ↦ was
  | inr within ↦ absurd (out within)
]

-- a byte inside is transferred
over_inside : (over : List Bool) (o n b : ℕ) → o % 4 ≡ 0 → n % 4 ≡ 0 → b < 4 * length over → o ≤ b → b < o + n → is_over (with_bytes over o n) b ≡ true
over_inside over o n b o4 n4 lt low high = over_with_bytes over o n b o4 n4 lt ∙ or_right (is_over over b) (is_within o n b) (within_yes o n b low high)

-- ---- stretches

first_or : (b : ℕ) (x : Bool) → (nat_eq b 0 || x) ≡ true → 0 < b → x ≡ true
first_or b x h some = elim (or_cases (nat_eq b 0) x h) [
  | inl first ↦ let e = eqb-true b 0 first in absurd (omega arith)
  | inr there ↦ there
]

begins_from : (over : List Bool) (b : ℕ) → is_over over b ≡ true → (0 < b → is_over over (b - 1) ≡ false) → begins over b ≡ true
begins_from over b here before = elim (cases_lt 0 b) [
  | inl some ↦ ap (λ (x : Bool). x && (nat_eq b 0 || not (is_over over (b - 1)))) here ∙ ap (λ (x : Bool). nat_eq b 0 || not x) (before some) ∙ or_right (nat_eq b 0) true refl
  | inr none ↦ let e : b ≡ 0 = omega arith in ap (λ (x : Bool). x && (nat_eq b 0 || not (is_over over (b - 1)))) here ∙ ap (λ (k : ℕ). nat_eq k 0 || not (is_over over (b - 1))) e
]

-- a stretch that begins behind the first of these bytes began there before
begins_before : (over : List Bool) (o n b : ℕ) → o % 4 ≡ 0 → n % 4 ≡ 0 → b < 4 * length over → b ≢ o → begins (with_bytes over o n) b ≡ true → begins over b ≡ true
begins_before over o n b o4 n4 lt other h =
    let new : List Bool = with_bytes over o n in
    let both = and_parts (is_over new b) (nat_eq b 0 || not (is_over new (b - 1))) h in
    let fresh : 0 < b → is_over new (b - 1) ≡ false = λ some. not-true (is_over new (b - 1)) (first_or b (not (is_over new (b - 1))) both.1 some) in
    let parts : 0 < b → (is_over over (b - 1) ≡ false) × (is_within o n (b - 1) ≡ false) = λ some.
    or_false (is_over over (b - 1)) (is_within o n (b - 1)) (sym (over_with_bytes over o n (b - 1) o4 n4 (omega arith)) ∙ fresh some) in
    let out : is_within o n b ≡ true → ⊥ = λ within.
    let at = within_is o n b within in
    let some : 0 < b = omega (arith, at.0) in
    false≢true (sym (parts some).1 ∙ within_yes o n (b - 1) (omega (arith, at.0)) (omega (arith, at.1))) in
    begins_from over b (over_outside over o n b o4 n4 lt both.0 out) (λ some. (parts some).0)

-- they go on where a stretch ends
ends_parts : (over : List Bool) (o : ℕ) → ends_at over o ≡ true → (0 < o) × (is_over over (o - 1) ≡ true)
ends_parts over o h =
    let both = and_parts (nat_lt 0 o && is_over over (o - 1)) (not (is_over over o)) h in
    let first = and_parts (nat_lt 0 o) (is_over over (o - 1)) both.0 in
    elim (cases_lt 0 o) [
      | inl some ↦ (some, first.1)
      | inr none ↦ absurd (false≢true (sym (le-ltb 0 o none) ∙ first.0))
    ]

goes_on : (over : List Bool) (o n : ℕ) → o % 4 ≡ 0 → n % 4 ≡ 0 → o < 4 * length over → ends_at over o ≡ true → begins (with_bytes over o n) o ≡ true → ⊥
goes_on over o n o4 n4 lt ends h =
    let new : List Bool = with_bytes over o n in
    let at = ends_parts over o ends in
    let both = and_parts (is_over new o) (nat_eq o 0 || not (is_over new (o - 1))) h in
    let fresh : is_over new (o - 1) ≡ false = not-true (is_over new (o - 1)) (first_or o (not (is_over new (o - 1))) both.1 at.0) in
    let was = or_false (is_over over (o - 1)) (is_within o n (o - 1)) (sym (over_with_bytes over o n (o - 1) o4 n4 (omega arith)) ∙ fresh) in
    false≢true (sym was.0 ∙ at.1)

full_ends : (s : ℕ) (e : Bool) → 64 ≤ s → (nat_le 64 s && not e) ≡ false → e ≡ true
full_ends s true full h = refl
full_ends s false full h = absurd (false≢true (sym h ∙ ap (λ (x : Bool). x && true) (le-leb 64 s full)))

-- if there is room for them, at most 64 stretches stay at most 64
pub few_then : (over : List Bool) (o n len : ℕ) → o % 4 ≡ 0 → n % 4 ≡ 0 → len ≤ 4 * length over → stretches_of over len ≤ 64 → (nat_le 64 (stretches_of over len) && not (ends_at over o)) ≡ false
    → stretches_of (with_bytes over o n) len ≤ 64
unfolding stretches_of
few_then over o n len o4 n4 inside few room =
    let p : ℕ → Bool = begins over in
    let q : ℕ → Bool = begins (with_bytes over o n) in
    elim (cases_lt (count_by p (range_with_len 0 len)) 64) [
      | inl less ↦
          let le = count_but p q o len (λ b lt other. begins_before over o n b o4 n4 (omega arith) other) in
          omega arith
      | inr full ↦
          let ends = full_ends (count_by p (range_with_len 0 len)) (ends_at over o) full room in
          let le = count_le p q len (λ b lt h. elim (cases_eq b o) [
            | inl same ↦ let here : begins (with_bytes over o n) o ≡ true = ap (begins (with_bytes over o n)) (sym same) ∙ h in absurd (goes_on over o n o4 n4 (omega (arith, same)) ends here)
            | inr other ↦ begins_before over o n b o4 n4 (omega arith) other h
          ]) in
          omega arith
    ]

count_nothing : (n : ℕ) → count_by (λ (b : ℕ). false) (range_with_len 0 n) ≡ 0
count_nothing zero = refl
count_nothing (suc n) = count_more (λ b. false) n ∙ omega (arith, count_nothing n)

-- where no byte was transferred there is no stretch
pub none_over_runs : (len : ℕ) → stretches_of (none_over len) len ≡ 0
unfolding stretches_of
none_over_runs len =
    let p : ℕ → Bool = λ b. false in
    let le = count_le p (begins (none_over len)) len (λ b lt h. absurd (false≢true (sym (over_none len b) ∙ (and_parts (is_over (none_over len) b) (nat_eq b 0 || not (is_over (none_over len) (b - 1))) h).0))) in
    let nothing = count_nothing len in
    omega arith

pub few_first : (len : ℕ) → stretches_of (none_over len) len ≤ 64
few_first len = let none = none_over_runs len in omega arith

-- ---- what is left

none_at : (over : List Bool) (o n k : ℕ) → any_over over o n ≡ false → k < n → is_over over (o + k) ≡ false
none_at over o n k h lt = elim (cases_Bool (is_over over (o + k))) [
  | inl went ↦ absurd (false≢true (sym h ∙ any_at over o n k lt went))
  | inr not_yet ↦ not_yet
]

none_from : (over : List Bool) (o n : ℕ) → ((k : ℕ) → k < n → is_over over (o + k) ≡ true → ⊥) → any_over over o n ≡ false
unfolding any_over
none_from over o n free = false_from_ne_true (list_any (is_over over) (range_with_len o n)) (λ h.
    let at = Any-from_list_any (is_over over) (range_with_len o n) h in
    let k = at.0 in
    let lr = length-range_with_len o n in
    let below : k < n = omega (arith, at.2, lr) in
    let is : o + k ≡ at.1 = sym (get_or-range_with_len o n k at.1 below) ∙ at.3 in
    free k below (ap (is_over over) is ∙ at.4))

-- none was transferred
pub none_over_any : (len : ℕ) → any_over (none_over len) 0 len ≡ false
none_over_any len = none_from (none_over len) 0 len (λ k lt h. absurd (false≢true (sym (over_none len (0 + k)) ∙ h)))

-- the first n of these bytes were transferred, and the others were not
pub fresh_then : (over : List Bool) (o n left : ℕ) → o % 4 ≡ 0 → n % 4 ≡ 0 → n ≤ left → o + left ≤ 4 * length over → any_over over o left ≡ false → any_over (with_bytes over o n) (o + n) (left - n) ≡ false
fresh_then over o n left o4 n4 within inside fresh = none_from (with_bytes over o n) (o + n) (left - n) (λ k lt h.
    let e : o + n + k ≡ o + (n + k) = omega arith in
    let was : is_over over (o + n + k) ≡ true = over_outside over o n (o + n + k) o4 n4 (omega arith) h (λ in_it. let at = within_is o n (o + n + k) in_it in omega (arith, at.1)) in
    false≢true (sym (none_at over o left (n + k) fresh (omega arith)) ∙ ap (is_over over) (sym e) ∙ was))

-- 0 bytes add none
pub with_none : (over : List Bool) (o : ℕ) → o % 4 ≡ 0 → with_bytes over o 0 ≡ over
with_none over o o4 = sym (marked_with_bytes over over o 0 o4 refl (record { long = refl; set = λ j low high. absurd (omega arith); kept = λ j apart. refl }))

ends_then : (over : List Bool) (o n left : ℕ) → o % 4 ≡ 0 → n % 4 ≡ 0 → 0 < n → n < left → o + left ≤ 4 * length over → any_over over o left ≡ false → ends_at (with_bytes over o n) (o + n) ≡ true
ends_then over o n left o4 n4 some less inside fresh =
    let new : List Bool = with_bytes over o n in
    let first : nat_lt 0 (o + n) ≡ true = lt-ltb 0 (o + n) (omega arith) in
    let last : is_over new (o + n - 1) ≡ true = over_inside over o n (o + n - 1) o4 n4 (omega arith) (omega arith) (omega arith) in
    let next : is_over new (o + n) ≡ false = elim (cases_Bool (is_over new (o + n))) [
      | inl went ↦ absurd (false≢true (sym (none_at over o left n fresh less) ∙ over_outside over o n (o + n) o4 n4 (omega arith) went (λ in_it. let at = within_is o n (o + n) in_it in omega (arith, at.1))))
      | inr not_yet ↦ not_yet
    ] in
    ap (λ (x : Bool). x && is_over new (o + n - 1) && not (is_over new (o + n))) first ∙ ap (λ (x : Bool). x && not (is_over new (o + n))) last ∙ ap not next

and_no : (x : Bool) → (x && false) ≡ false
and_no true = refl
and_no false = refl

-- what is left of them has room, as they had
pub room_then : (over : List Bool) (o n left len : ℕ) → o % 4 ≡ 0 → n % 4 ≡ 0 → n ≤ left → o + left ≤ 4 * length over → any_over over o left ≡ false → (0 < left → (nat_le 64 (stretches_of over len) && not (ends_at over o)) ≡ false)
    → 0 < left - n → (nat_le 64 (stretches_of (with_bytes over o n) len) && not (ends_at (with_bytes over o n) (o + n))) ≡ false
room_then over o n left len o4 n4 within inside fresh room some = elim (cases_lt 0 n) [
  | inl more ↦ ap (λ (x : Bool). nat_le 64 (stretches_of (with_bytes over o n) len) && not x) (ends_then over o n left o4 n4 more (omega arith) inside fresh) ∙ and_no (nat_le 64 (stretches_of (with_bytes over o n) len))
  | inr none ↦
      let e : n ≡ 0 = omega arith in
      let at : o + n ≡ o = omega arith in
      let same : with_bytes over o n ≡ over = ap (with_bytes over o) e ∙ with_none over o o4 in
      ap (λ (x : List Bool). nat_le 64 (stretches_of x len) && not (ends_at x (o + n))) same ∙ ap (λ (x : ℕ). nat_le 64 (stretches_of over len) && not (ends_at over x)) at ∙ room (omega arith)
]

-- the flags of an issue have at most 64 stretches if the issue has
pub few_flags : (issued : Option Issued) (over : List Bool) (o n : ℕ) (now : Option Issue) → issue_in issued over ≡ now → IsSome now → HasRoom issued over
    → ForSome now (λ issue. stretches_of (with_bytes issue.over o n) issue.work.len ≤ 64) → stretches_of (with_bytes over o n) (4 * length over) ≤ 64
few_flags None over o n now is some room few = absurd (false≢true (ap is_some is ∙ some))
few_flags (Some i) over o n now is some room few =
    subst (λ (m : ℕ). stretches_of (with_bytes over o n) m ≤ 64) (sym (whole_dwords over i.work.len room.0 room.1.0)) (few (with_flags i over) (sym is))
