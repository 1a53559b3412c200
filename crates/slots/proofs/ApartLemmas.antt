-- Stretches that lie apart: which dwords they have, how many, and where they begin.
use Rattle.std.proofs.Common.{◌≡◌, ℕ, zero, suc, ◌+◌, ◌-◌, ◌*◌, ◌/◌, ◌<◌, ◌≤◌, max, Bool, true, false, not, ◌&&◌, ◌||◌, nat_eq, nat_lt, cond, List, [], ◌∷◌, get_or, length, refl, sym, ◌∙◌, ap, arith, inl, inr, count_by}
use Rattle.std.specs.List.{range_with_len, list_any, list_all}
use Rattle.std.proofs.lemmas.Bool.{cases_Bool, cases_eq, cases_lt, or_cases, and_from, and_left, and_right, and_parts, or_from, or_left, or_right, or_parts, not_from_true, not_from_false, eq-eqb, ne_eqb, eqb-true, lt-ltb, le-ltb, ltb-true, false≢true, false_from_ne_true}
use Rattle.std.proofs.lemmas.List.Sums.{sum_by-cons, count_by-le-length}
use Rattle.std.proofs.lemmas.List.FromFn.{length-range_with_len}
use Rattle.slots.specs.declared.moved.Stretch.{Stretch}
use Rattle.slots.specs.Bytes.{any_over, came_of, is_over, is_whole, stretches_of}
use Rattle.slots.specs.Stretches.{AreApart, dwords_of, has, in_one, meets, over_of}
use Rattle.slots.proofs.ByteLemmas.{any_found, any_none, before, came_more, came_none, count_more, no_stretches, stretches_more}
use Rattle.slots.proofs.FlagLemmas.{get-over, length-over}
pub use Rattle.slots.specs.RunLaws.{has_high, has_is, has_low, has_yes, lower, none_below, wider}

-- ---- counts

count_none : (n : ℕ) → count_by (λ (b : ℕ). false) (range_with_len 0 n) ≡ 0
count_none zero = refl
count_none (suc n) = count_more (λ b. false) n ∙ omega (arith, count_none n)

count_same : (p q : ℕ → Bool) (n : ℕ) → ((b : ℕ) → b < n → p b ≡ q b) → count_by p (range_with_len 0 n) ≡ count_by q (range_with_len 0 n)
count_same p q zero h = refl
count_same p q (suc n) h =
    count_more p n ∙ ap (λ (x : ℕ). x + cond (p n) 1 0) (count_same p q n (λ b lt. h b (omega arith))) ∙ ap (λ (x : Bool). count_by q (range_with_len 0 n) + cond x 1 0) (h n (omega arith))
    ∙ sym (count_more q n)

cond_yes : (b : Bool) → b ≡ true → cond b 1 0 + 0 ≡ 1
cond_yes true h = refl
cond_yes false h = absurd (false≢true h)

cond_no : (b : Bool) → b ≡ false → cond b 1 0 ≤ 0
cond_no true h = absurd (false≢true (sym h))
cond_no false h = omega arith

cond_or : (x y : Bool) → (x ≡ true → y ≡ false) → cond (x || y) 1 0 ≡ cond x 1 0 + cond y 1 0
cond_or true true h = absurd (false≢true (sym (h refl)))
cond_or true false h = refl
cond_or false true h = refl
cond_or false false h = refl

count_or : (p q : ℕ → Bool) (n : ℕ) → ((b : ℕ) → b < n → p b ≡ true → q b ≡ false)
    → count_by (λ b. p b || q b) (range_with_len 0 n) ≡ count_by p (range_with_len 0 n) + count_by q (range_with_len 0 n)
count_or p q zero h = refl
count_or p q (suc n) h =
    let before_it = count_or p q n (λ b lt. h b (omega arith)) in
    let here = cond_or (p n) (q n) (h n (omega arith)) in
    let all = count_more (λ (b : ℕ). p b || q b) n in
    omega (arith, count_more p n, count_more q n)

count_has : (s : Stretch) (n : ℕ) → s.start ≤ s.end → count_by (λ b. has b s) (range_with_len 0 n) ≡ n - s.start - (n - s.end)
count_has s zero le = omega arith
count_has s (suc n) le =
    let all = count_more (λ (b : ℕ). has b s) n in
    let before_it = count_has s n le in
    elim (cases_lt n s.start) [
      | inl low ↦ let e = cond_no (has n s) (has_low n s low) in omega arith
      | inr above ↦ elim (cases_lt n s.end) [
        | inl within ↦ let e = cond_yes (has n s) (has_yes n s above within) in omega arith
        | inr past ↦ let e = cond_no (has n s) (has_high n s past) in omega arith
      ]
    ]

count_is : (a n : ℕ) → count_by (λ b. nat_eq b a) (range_with_len 0 n) ≡ n - a - (n - (a + 1))
count_is a zero = omega arith
count_is a (suc n) =
    let all = count_more (λ (b : ℕ). nat_eq b a) n in
    let before_it = count_is a n in
    elim (cases_eq n a) [
      | inl same ↦ let e = cond_yes (nat_eq n a) (eq-eqb n a same) in omega arith
      | inr other ↦ let e = cond_no (nat_eq n a) (ne_eqb n a other) in omega arith
    ]

-- ---- how many dwords

dwords_count : (low n : ℕ) (ss : List Stretch) → AreApart low n ss → count_by (in_one ss) (range_with_len 0 n) ≡ dwords_of ss
dwords_count low n [] h = count_none n
dwords_count low n (s ∷ ss) h =
    let rest = dwords_count (s.end + 1) n ss h.3 in
    let both = count_or (λ b. has b s) (in_one ss) n (λ b lt here. none_below (s.end + 1) n ss b h.3 (omega (arith, (has_is b s here).1))) in
    let one = count_has s n (omega (arith, h.1)) in
    let e : count_by (λ b. has b s) (range_with_len 0 n) + count_by (in_one ss) (range_with_len 0 n) ≡ s.end - s.start + dwords_of ss = omega (arith, h.1, h.2) in
    both ∙ e

pub dwords_few : (low n : ℕ) (ss : List Stretch) → AreApart low n ss → dwords_of ss ≤ n - low
dwords_few low n [] h = omega arith
dwords_few low n (s ∷ ss) h =
    let rest = dwords_few (s.end + 1) n ss h.3 in
    omega (arith, h.0, h.1, h.2)

four_cond : (b : Bool) → cond b 4 0 ≡ 4 * cond b 1 0
four_cond true = refl
four_cond false = refl

came_dwords : (over : List Bool) (k : ℕ) → came_of over (4 * k) ≡ 4 * count_by (λ j. get_or over j false) (range_with_len 0 k)
came_dwords over zero = came_none over
came_dwords over (suc k) =
    let e : suc k ≡ k + 1 = omega arith in
    let b : Bool = get_or over k false in
    let more : came_of over (4 * suc k) ≡ came_of over (4 * k) + cond b 4 0 = ap (λ (m : ℕ). came_of over (4 * m)) e ∙ came_more over k b refl in
    let before_it = came_dwords over k in
    let here = four_cond b in
    let all = count_more (λ (j : ℕ). get_or over j false) k in
    omega arith

pub came_total : (n : ℕ) (ss : List Stretch) → AreApart 0 n ss → came_of (over_of n ss) (4 * n) ≡ 4 * dwords_of ss
came_total n ss h =
    came_dwords (over_of n ss) n ∙ ap (λ (x : ℕ). 4 * x) (count_same (λ j. get_or (over_of n ss) j false) (in_one ss) n (λ j lt. get-over n ss j false lt) ∙ dwords_count 0 n ss h)

-- all pass if as many pass as there are
all_count : (p : ℕ → Bool) (xs : List ℕ) → list_all p xs ≡ nat_eq (count_by p xs) (length xs)
all_count p [] = refl
all_count p (x ∷ xs) =
    let cons : count_by p (x ∷ xs) ≡ cond (p x) 1 0 + count_by p xs = sum_by-cons (λ (y : ℕ). cond (p y) 1 0) x xs in
    let long : length (x ∷ xs) ≡ suc (length xs) = refl in
    let few : count_by p xs ≤ length xs = count_by-le-length p xs in
    elim (cases_Bool (p x)) [
      | inl does ↦
          let one = cond_yes (p x) does in
          let same : nat_eq (count_by p xs) (length xs) ≡ nat_eq (count_by p (x ∷ xs)) (length (x ∷ xs)) = elim (cases_eq (count_by p xs) (length xs)) [
            | inl e ↦ eq-eqb (count_by p xs) (length xs) e ∙ sym (eq-eqb (count_by p (x ∷ xs)) (length (x ∷ xs)) (omega arith))
            | inr ne ↦ ne_eqb (count_by p xs) (length xs) ne ∙ sym (ne_eqb (count_by p (x ∷ xs)) (length (x ∷ xs)) (λ f. ne (omega arith)))
          ] in
          ap (λ (b : Bool). b && list_all p xs) does ∙ all_count p xs ∙ same
      | inr does_not ↦
          let none = cond_no (p x) does_not in
          ap (λ (b : Bool). b && list_all p xs) does_not ∙ sym (ne_eqb (count_by p (x ∷ xs)) (length (x ∷ xs)) (λ f. omega arith))
    ]

pub whole_count : (over : List Bool) (len : ℕ) → is_whole over len ≡ nat_eq (came_of over len) len
unfolding is_whole came_of
whole_count over len = all_count (is_over over) (range_with_len 0 len) ∙ ap (λ (l : ℕ). nat_eq (count_by (is_over over) (range_with_len 0 len)) l) (length-range_with_len 0 len)

-- ---- where they begin

-- dword k is the first of the stretch
abbrev pub starts : ℕ → Stretch → Bool
starts k s = nat_eq k s.start

-- dword k is in one of them, and the dword before it is in none
abbrev pub first_in : List Stretch → ℕ → Bool
first_in ss k = in_one ss k && not (nat_lt 0 k && in_one ss (k - 1))

none_starts : (low n : ℕ) (ss : List Stretch) (k : ℕ) → AreApart low n ss → k < low → list_any (starts k) ss ≡ false
none_starts low n [] k h lt = refl
none_starts low n (s ∷ ss) k h lt =
    or_from (starts k s) (list_any (starts k) ss) (ne_eqb k s.start (λ e. omega (arith, h.0))) (none_starts (s.end + 1) n ss k h.3 (omega (arith, h.0, h.1)))

first_at : (low n : ℕ) (ss : List Stretch) (k : ℕ) → AreApart low n ss → first_in ss k ≡ list_any (starts k) ss
first_at low n [] k h = refl
first_at low n (s ∷ ss) k h =
    let here : AreApart s.start n (s ∷ ss) = (omega arith, h.1, h.2, h.3) in
    let went : Bool = nat_lt 0 k && in_one (s ∷ ss) (k - 1) in
    elim (cases_lt k s.start) [
      | inl low_k ↦ and_left (in_one (s ∷ ss) k) (not went) (none_below s.start n (s ∷ ss) k here low_k) ∙ sym (none_starts s.start n (s ∷ ss) k here low_k)
      | inr above ↦ elim (cases_eq k s.start) [
        | inl same ↦
            let in_it : in_one (s ∷ ss) k ≡ true = or_left (has k s) (in_one ss k) (has_yes k s above (omega (arith, h.1))) in
            let fresh : went ≡ false = elim (cases_lt 0 k) [
              | inl some ↦ and_right (nat_lt 0 k) (in_one (s ∷ ss) (k - 1)) (none_below s.start n (s ∷ ss) (k - 1) here (omega arith))
              | inr none ↦ and_left (nat_lt 0 k) (in_one (s ∷ ss) (k - 1)) (le-ltb 0 k none)
            ] in
            and_from (in_one (s ∷ ss) k) (not went) in_it (not_from_false went fresh) ∙ sym (or_left (starts k s) (list_any (starts k) ss) (eq-eqb k s.start same))
        | inr other ↦ elim (cases_lt k s.end) [
          | inl within ↦
              let in_it : in_one (s ∷ ss) (k - 1) ≡ true = or_left (has (k - 1) s) (in_one ss (k - 1)) (has_yes (k - 1) s (omega arith) (omega arith)) in
              let both : went ≡ true = and_from (nat_lt 0 k) (in_one (s ∷ ss) (k - 1)) (lt-ltb 0 k (omega arith)) in_it in
              and_right (in_one (s ∷ ss) k) (not went) (not_from_true went both)
              ∙ sym (or_from (starts k s) (list_any (starts k) ss) (ne_eqb k s.start other) (none_starts (s.end + 1) n ss k h.3 (omega arith)))
          | inr past ↦ elim (cases_eq k s.end) [
            | inl edge ↦
                and_left (in_one (s ∷ ss) k) (not went) (or_from (has k s) (in_one ss k) (has_high k s past) (none_below (s.end + 1) n ss k h.3 (omega arith)))
                ∙ sym (or_from (starts k s) (list_any (starts k) ss) (ne_eqb k s.start other) (none_starts (s.end + 1) n ss k h.3 (omega arith)))
            | inr behind ↦
                let now : in_one (s ∷ ss) k ≡ in_one ss k = ap (λ (x : Bool). x || in_one ss k) (has_high k s past) in
                let was : in_one (s ∷ ss) (k - 1) ≡ in_one ss (k - 1) = ap (λ (x : Bool). x || in_one ss (k - 1)) (has_high (k - 1) s (omega arith)) in
                ap (λ (x : Bool). x && not went) now ∙ ap (λ (x : Bool). in_one ss k && not (nat_lt 0 k && x)) was ∙ first_at (s.end + 1) n ss k h.3
                ∙ sym (ap (λ (x : Bool). x || list_any (starts k) ss) (ne_eqb k s.start other))
          ]
        ]
      ]
    ]

count_starts : (low n : ℕ) (ss : List Stretch) → AreApart low n ss → count_by (λ k. list_any (starts k) ss) (range_with_len 0 n) ≡ length ss
count_starts low n [] h = count_none n
count_starts low n (s ∷ ss) h =
    let rest = count_starts (s.end + 1) n ss h.3 in
    let both = count_or (λ b. starts b s) (λ b. list_any (starts b) ss) n (λ b lt here. let e = eqb-true b s.start here in none_starts (s.end + 1) n ss b h.3 (omega (arith, h.1))) in
    let one = count_is s.start n in
    let e : count_by (λ b. starts b s) (range_with_len 0 n) + count_by (λ b. list_any (starts b) ss) (range_with_len 0 n) ≡ suc (length ss) = omega (arith, h.1, h.2) in
    both ∙ e

stretches_dwords : (over : List Bool) (k : ℕ) → stretches_of over (4 * k) ≡ count_by (λ j. get_or over j false && not (before over j)) (range_with_len 0 k)
stretches_dwords over zero = no_stretches over
stretches_dwords over (suc k) =
    let e : suc k ≡ k + 1 = omega arith in
    let p : ℕ → Bool = λ j. get_or over j false && not (before over j) in
    ap (λ (m : ℕ). stretches_of over (4 * m)) e ∙ stretches_more over k ∙ ap (λ (x : ℕ). x + cond (p k) 1 0) (stretches_dwords over k) ∙ sym (count_more p k)

first_over : (n : ℕ) (ss : List Stretch) (j : ℕ) → j < n → (get_or (over_of n ss) j false && not (before (over_of n ss) j)) ≡ first_in ss j
first_over n ss j lt =
    ap (λ (x : Bool). x && not (before (over_of n ss) j)) (get-over n ss j false lt)
    ∙ ap (λ (x : Bool). in_one ss j && not (nat_lt 0 j && x)) (get-over n ss (j - 1) false (omega arith))

-- there are as many stretches as the list has entries
pub stretch_count : (n : ℕ) (ss : List Stretch) → AreApart 0 n ss → stretches_of (over_of n ss) (4 * n) ≡ length ss
stretch_count n ss h =
    let over : List Bool = over_of n ss in
    stretches_dwords over n ∙ count_same (λ j. get_or over j false && not (before over j)) (λ k. list_any (starts k) ss) n (λ j lt. first_over n ss j lt ∙ first_at 0 n ss j h) ∙ count_starts 0 n ss h

-- ---- dwords from a on, below b

record Common (a b n : ℕ) (ss : List Stretch) : Type 0 where
  pub at : ℕ
  pub low : a ≤ at
  pub high : at < b
  pub below : at < n
  pub is : in_one ss at ≡ true

common : (low n a b : ℕ) (ss : List Stretch) → a < b → AreApart low n ss → list_any (meets a b) ss ≡ true → Common a b n ss
common low n a b [] lt h m = absurd (false≢true m)
common low n a b (s ∷ ss) lt h m = elim (or_cases (meets a b s) (list_any (meets a b) ss) m) [
  | inl here ↦
      let both = and_parts (nat_lt s.start b) (nat_lt a s.end) here in
      let p = ltb-true s.start b both.0 in
      let q = ltb-true a s.end both.1 in
      let d : ℕ = max a s.start in
      record { at = d; low = omega arith; high = omega arith; below = omega (arith, h.1, h.2); is = or_left (has d s) (in_one ss d) (has_yes d s (omega arith) (omega (arith, h.1))) }
  | inr there ↦
      let f = common (s.end + 1) n a b ss lt h.3 there in
      record { at = f.at; low = f.low; high = f.high; below = f.below; is = or_right (has f.at s) (in_one ss f.at) f.is }
]

none_common : (a b d : ℕ) (ss : List Stretch) → list_any (meets a b) ss ≡ false → a ≤ d → d < b → in_one ss d ≡ false
none_common a b d [] m low high = refl
none_common a b d (s ∷ ss) m low high =
    let parts = or_parts (meets a b s) (list_any (meets a b) ss) m in
    or_from (has d s) (in_one ss d)
    (false_from_ne_true (has d s) (λ h. let at = has_is d s h in
    false≢true (sym parts.0 ∙ and_from (nat_lt s.start b) (nat_lt a s.end) (lt-ltb s.start b (omega (arith, at.0))) (lt-ltb a s.end (omega (arith, at.1))))))
    (none_common a b d ss parts.1 low high)

pub any_meets : (n offset count : ℕ) (ss : List Stretch) → AreApart 0 n ss → 0 < count → offset + count ≤ 4 * n
    → list_any (meets (offset / 4) ((offset + count - 1) / 4 + 1)) ss ≡ any_over (over_of n ss) offset count
any_meets n offset count ss h some within =
    let a : ℕ = offset / 4 in
    let b : ℕ = (offset + count - 1) / 4 + 1 in
    elim (cases_Bool (list_any (meets a b) ss)) [
      | inl found ↦
          let f = common 0 n a b ss (omega arith) h found in
          found ∙ sym (any_found (over_of n ss) offset count f.at some f.low f.high (get-over n ss f.at false f.below ∙ f.is))
      | inr nowhere ↦ nowhere ∙ sym (any_none (over_of n ss) offset count some (λ d low high. get-over n ss d false (omega arith) ∙ none_common a b d ss nowhere low high))
    ]

-- ---- the flags that are seen

pub count_seen : (n : ℕ) (ss : List Stretch) (over : List Bool) → over_of n ss ≡ over → AreApart 0 n ss → length ss ≡ stretches_of over (4 * length over)
count_seen n ss over is h =
    sym (ap (λ (l : List Bool). stretches_of l (4 * length l)) (sym is) ∙ ap (λ (m : ℕ). stretches_of (over_of n ss) (4 * m)) (length-over n ss) ∙ stretch_count n ss h)

pub total_seen : (n : ℕ) (ss : List Stretch) (over : List Bool) → over_of n ss ≡ over → AreApart 0 n ss → 4 * dwords_of ss ≡ came_of over (4 * length over)
total_seen n ss over is h =
    sym (ap (λ (l : List Bool). came_of l (4 * length l)) (sym is) ∙ ap (λ (m : ℕ). came_of (over_of n ss) (4 * m)) (length-over n ss) ∙ came_total n ss h)
