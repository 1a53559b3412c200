-- For the calls of a disk. The lowest bad sector that a fold over the bad ones finds is the command's first bad
-- sector.
use Rattle.std.proofs.Common.{◌≡◌, ℕ, zero, suc, ◌+◌, ◌-◌, ◌≤◌, ◌<◌, ◌==◌, ◌&&◌, ◌||◌, ◌⊎◌, min, Bool, true, false, cond, List, [], ◌∷◌, Option, Some}
use Rattle.std.proofs.{Common.{None, refl, sym, ap, ◌∙◌, arith, inl, inr}, Math.{Bool.{or-false, or_assoc}, Nat.{min-le_left, min-le_right}}}
use Rattle.std.proofs.{Math.Nat.{min-eq_left, min-eq_right}, lemmas.Bool.{cases_Bool, cases_eq, eq-eqb, eqb-true, le-leb, leb-false, leb-true}}
use Rattle.std.proofs.lemmas.Bool.{lt-ltb, ltb-true, or_cases, or_from}
use Rattle.std.specs.{Prelude.{fold, nat_le, nat_lt}, List.{find, range_with_len}}
use Rattle.disk_model.specs.{declared.request.Command.Command, Chunks.{is_bad, first_bad}, Insides.{is_of, lower_bad, lower_of}}

-- what was found is the lowest of count numbers, from from on, for which the test holds
record IsLowest (test : ℕ → Bool) (from count : ℕ) (found : Option ℕ) : Type 0 where
  pub inside : (r : ℕ) → found ≡ Some r → (from ≤ r) × (r < from + count) × (test r ≡ true)
  pub first : (r q : ℕ) → found ≡ Some r → from ≤ q → test q ≡ true → r ≤ q
  pub none : (q : ℕ) → found ≡ None → from ≤ q → q < from + count → test q ≡ false

same_or_more : (from q : ℕ) → from ≤ q → (from ≡ q) ⊎ (from + 1 ≤ q)
same_or_more from q le = elim (cases_eq from q) [ inl e ↦ inl e | inr ne ↦ inr (omega arith) ]

found_by : (test : ℕ → Bool) (from n : ℕ) (b : Bool) → test from ≡ b
    → IsLowest test (from + 1) n (find test (range_with_len (from + 1) n))
    → IsLowest test from (suc n) (cond b (Some from) (find test (range_with_len (from + 1) n)))
found_by test from n true is rest = record {
  inside = λ r e. let s : from ≡ r = cc in (omega arith, omega arith, sym (ap test s) ∙ is);
  first = λ r q e le t. let s : from ≡ r = cc in omega arith;
  none = λ q e le lt. absurd cc;
}
found_by test from n false is rest = record {
  inside = λ r e. let k = rest.inside r e in (omega (arith, k.0), omega (arith, k.1), k.2);
  first = λ r q e le t. elim (same_or_more from q le) [ inl same ↦ absurd (let x : test from ≡ true = ap test same ∙ t in cc) | inr more ↦ rest.first r q e more t ];
  none = λ q e le lt. elim (same_or_more from q le) [ inl same ↦ sym (ap test same) ∙ is | inr more ↦ rest.none q e more (omega arith) ];
}

-- a search through consecutive numbers finds it
search_finds : (test : ℕ → Bool) (from count : ℕ) → IsLowest test from count (find test (range_with_len from count))
search_finds test from zero = record {
  inside = λ r e. absurd cc;
  first = λ r q e le t. absurd cc;
  none = λ q e le lt. absurd (omega arith);
}
search_finds test from (suc n) = found_by test from n (test from) refl (search_finds test (from + 1) n)

-- there is only one
one_lowest : (test : ℕ → Bool) (from count : ℕ) (a b : Option ℕ) → IsLowest test from count a → IsLowest test from count b
    → a ≡ b
one_lowest test from count None None f g = refl
one_lowest test from count None (Some r) f g = let k = g.inside r refl in absurd (let no = f.none r refl k.0 k.1 in let yes = k.2 in cc)
one_lowest test from count (Some r) None f g = let k = f.inside r refl in absurd (let no = g.none r refl k.0 k.1 in let yes = k.2 in cc)
one_lowest test from count (Some r) (Some s) f g =
    let k = f.inside r refl in
    let m = g.inside s refl in
    let a : r ≤ s = f.first r s refl m.0 m.2 in
    let b : s ≤ r = g.first s r refl k.0 k.2 in
    let e : r ≡ s = omega (arith, a, b) in
    ap (λ (x : ℕ). Some x) e

-- the same for a test with the same results
same_test : (test other : ℕ → Bool) (from count : ℕ) (found : Option ℕ) → ((q : ℕ) → test q ≡ other q)
    → IsLowest test from count found → IsLowest other from count found
same_test test other from count found same f = record {
  inside = λ r e. let k = f.inside r e in (k.0, k.1, sym (same r) ∙ k.2);
  first = λ r q e le t. f.first r q e le (same q ∙ t);
  none = λ q e le lt. sym (same q) ∙ f.none q e le lt;
}

-- ---- one more bad sector

abbrev or_this : (test : ℕ → Bool) (bad : ℕ) → ℕ → Bool
or_this test bad q = test q || bad == q

is_there : (test : ℕ → Bool) (bad q : ℕ) → or_this test bad q ≡ true → (test q ≡ true) ⊎ (bad ≡ q)
is_there test bad q t = elim (or_cases (test q) (bad == q) t) [ inl a ↦ inl a | inr b ↦ inr (eqb-true bad q b) ]

by_test : (test : ℕ → Bool) (bad r : ℕ) → test r ≡ true → or_this test bad r ≡ true
by_test test bad r t = rw t refl

by_bad : (test : ℕ → Bool) (bad r : ℕ) → bad ≡ r → or_this test bad r ≡ true
by_bad test bad r e = in_case (test r) (eq-eqb bad r e)
  where
    in_case : (b : Bool) {c : Bool} → c ≡ true → (b || c) ≡ true
    in_case true h = refl
    in_case false h = h

is_inside : (c : Command) (bad : ℕ) → is_of c bad ≡ true → (c.lba ≤ bad) × (bad < c.lba + c.count)
is_inside c bad t = both (nat_le c.lba bad) (nat_lt (bad - c.lba) c.count) refl refl t
  where
    both : (a b : Bool) → nat_le c.lba bad ≡ a → nat_lt (bad - c.lba) c.count ≡ b → (a && b) ≡ true → (c.lba ≤ bad) × (bad < c.lba + c.count)
    both true true e f t = let x : c.lba ≤ bad = leb-true c.lba bad e in let y : bad - c.lba < c.count = ltb-true (bad - c.lba) c.count f in (x, omega (arith, x, y))
    both true false e f t = absurd cc
    both false b e f t = absurd cc

is_outside : (c : Command) (bad : ℕ) → is_of c bad ≡ false → c.lba ≤ bad → bad < c.lba + c.count → ⊥
is_outside c bad t a b =
    let x : nat_le c.lba bad ≡ true = le-leb c.lba bad a in
    let y : nat_lt (bad - c.lba) c.count ≡ true = lt-ltb (bad - c.lba) c.count (omega arith) in
    let z : is_of c bad ≡ true = rw (x, y) refl in
    cc

-- the lower of two numbers
taken : (test : ℕ → Bool) (c : Command) (m bad : ℕ) → is_of c bad ≡ true → IsLowest test c.lba c.count (Some m) → (low : ℕ)
    → (low ≡ m) ⊎ (low ≡ bad) → low ≤ m → low ≤ bad → IsLowest (or_this test bad) c.lba c.count (Some low)
taken test c m bad here f low which a b =
    let k = f.inside m refl in
    let i = is_inside c bad here in
    record {
      inside = λ r e. let s : low ≡ r = cc in elim which [
        | inl is ↦ (let w : m ≡ r = sym is ∙ s in (omega (arith, k.0, w), omega (arith, k.1, w), by_test test bad r (ap test (sym w) ∙ k.2)))
        | inr is ↦ (let w : bad ≡ r = sym is ∙ s in (omega (arith, i.0, w), omega (arith, i.1, w), by_bad test bad r w))
      ];
      first = λ r q e le t. let s : low ≡ r = cc in elim (is_there test bad q t) [
        | inl here ↦ (let n : m ≤ q = f.first m q refl le here in omega (arith, n, a, s))
        | inr is ↦ omega (arith, b, is, s)
      ];
      none = λ q e le lt. absurd cc;
    }

taken_first : (test : ℕ → Bool) (c : Command) (bad : ℕ) → is_of c bad ≡ true → IsLowest test c.lba c.count None
    → IsLowest (or_this test bad) c.lba c.count (Some bad)
taken_first test c bad here f =
    let i = is_inside c bad here in
    record {
      inside = λ r e. let s : bad ≡ r = cc in (omega (arith, i.0, s), omega (arith, i.1, s), by_bad test bad r s);
      first = λ r q e le t. let s : bad ≡ r = cc in elim (cases_eq bad q) [
        | inl is ↦ omega arith
        | inr ne ↦ elim (is_there test bad q t) [
          | inl here ↦ elim (cases_Bool (nat_le r q)) [
            | inl low ↦ leb-true r q low
            | inr high ↦ (let lt : q < r = leb-false r q high in absurd (let none = f.none q refl le (omega (arith, lt, s, i.1)) in cc))
          ]
          | inr is ↦ absurd (ne is)
        ]
      ];
      none = λ q e le lt. absurd cc;
    }

left_out : (test : ℕ → Bool) (c : Command) (bad : ℕ) (found : Option ℕ) → is_of c bad ≡ false
    → IsLowest test c.lba c.count found → IsLowest (or_this test bad) c.lba c.count found
left_out test c bad found out f = record {
  inside = λ r e. let k = f.inside r e in (k.0, k.1, by_test test bad r k.2);
  first = λ r q e le t. let k = f.inside r e in elim (is_there test bad q t) [
    | inl here ↦ f.first r q e le here
    | inr is ↦ elim (cases_Bool (nat_le r q)) [
      | inl low ↦ leb-true r q low
      | inr high ↦ (let lt : q < r = leb-false r q high in absurd (is_outside c bad out (omega (arith, le, is)) (omega (arith, lt, is, k.1))))
    ]
  ];
  none = λ q e le lt. or_from (test q) (bad == q) (f.none q e le lt) (elim (cases_Bool (bad == q)) [
    | inl low ↦ (let is : bad ≡ q = eqb-true bad q low in absurd (is_outside c bad out (omega (arith, le, is)) (omega (arith, lt, is))))
    | inr high ↦ high
  ]);
}

one_more_in : (test : ℕ → Bool) (c : Command) (bad : ℕ) (found : Option ℕ) → is_of c bad ≡ true
    → IsLowest test c.lba c.count found → IsLowest (or_this test bad) c.lba c.count (Some (lower_of found bad))
one_more_in test c bad None here f = taken_first test c bad here f
one_more_in test c bad (Some m) here f = elim (cases_Bool (nat_le m bad)) [
  | inl low ↦ (let le : m ≤ bad = leb-true m bad low in taken test c m bad here f (min m bad) (inl (min-eq_left le)) (min-le_left m bad) (min-le_right m bad))
  | inr high ↦ (let lt : bad < m = leb-false m bad high in let le : bad ≤ m = omega (arith, lt) in taken test c m bad here f (min m bad) (inr (min-eq_right le)) (min-le_left m bad) (min-le_right m bad))
]

one_more : (test : ℕ → Bool) (c : Command) (bad : ℕ) (found : Option ℕ) → IsLowest test c.lba c.count found
    → IsLowest (or_this test bad) c.lba c.count (lower_bad c found bad)
one_more test c bad found f = by_place (is_of c bad) refl
  where
    by_place : (b : Bool) → is_of c bad ≡ b → IsLowest (or_this test bad) c.lba c.count (cond b (Some (lower_of found bad)) found)
    by_place true e = one_more_in test c bad found e f
    by_place false e = left_out test c bad found e f

folds : (test : ℕ → Bool) (c : Command) (found : Option ℕ) (bads : List ℕ) → IsLowest test c.lba c.count found
    → IsLowest (λ q. test q || is_bad bads q) c.lba c.count (fold (lower_bad c) found bads)
folds test c found [] f = same_test test (λ q. test q || is_bad [] q) c.lba c.count found (λ q. sym (or-false (test q))) f
folds test c found (bad ∷ bads) f =
    same_test (λ q. or_this test bad q || is_bad bads q) (λ q. test q || is_bad (bad ∷ bads) q) c.lba c.count _ (λ q. or_assoc (test q) (bad == q) (is_bad bads q))
    (folds (or_this test bad) c (lower_bad c found bad) bads (one_more test c bad found f))

abbrev no_test : ℕ → Bool
no_test q = false

starts : (c : Command) → IsLowest no_test c.lba c.count None
starts c = record {
  inside = λ r e. absurd cc;
  first = λ r q e le t. absurd cc;
  none = λ q e le lt. refl;
}

pub lowest_is_first : (c : Command) (bads : List ℕ) → fold (lower_bad c) None bads ≡ first_bad c bads
unfolding first_bad
lowest_is_first c bads = one_lowest (is_bad bads) c.lba c.count _ _ (folds no_test c None bads (starts c)) (search_finds (is_bad bads) c.lba c.count)
