-- The arbiter's law, over the definitions alone.
use Rattle.std.proofs.Common.{◌≡◌, ◌≢◌, ℕ, zero, suc, ◌+◌, ◌-◌, ◌<◌, ◌≤◌, Bool, true, false, cond, IsTrue, List, [], ◌∷◌, ◌++◌, All, length, Option}
use Rattle.std.proofs.{Common.{Some, None, refl, arith, ◌⊎◌, inl, inr, ◌∙◌, sym, ap}, lemmas.List.Folds.{find-append}}
use Rattle.std.specs.{List.{range_with_len, find}, Option.option_or}
use Rattle.multiplier.specs.Arbiter.{control_port, circle_after, next_served, IsServedInTurn, StaysReady, IsPassedOver}

more_or_not : (m n : ℕ) → (m ≤ n) ⊎ (n < m)
more_or_not zero n = inl (omega arith)
more_or_not (suc m) zero = inr (omega arith)
more_or_not (suc m) (suc n) = elim (more_or_not m n) [ inl h ↦ inl (omega arith) | inr h ↦ inr (omega arith) ]

pub different : (m n : ℕ) → m ≤ n → m ≢ n → m < n
different m n le ne = elim (more_or_not n m) [ inl h ↦ absurd (ne (omega arith)) | inr h ↦ h ]

-- what a search through neighbouring places finds is one of them, and not past a place that passes
pub record IsFound (test : ℕ → Bool) (from count : ℕ) (found : Option ℕ) : Type 0 where
  pub inside : (r : ℕ) → found ≡ Some r → (from ≤ r) × (r < from + count)
  pub first : (r q : ℕ) → found ≡ Some r → from ≤ q → test q ≡ true → r ≤ q
  pub none : (q : ℕ) → found ≡ None → from ≤ q → q < from + count → test q ≢ true

-- a number at least as large is the same or larger
same_or_more : (m n : ℕ) → m ≤ n → (m ≡ n) ⊎ (m + 1 ≤ n)
same_or_more zero zero h = inl refl
same_or_more zero (suc n) h = inr (omega arith)
same_or_more (suc m) zero h = absurd (omega arith)
same_or_more (suc m) (suc n) h = elim (same_or_more m n (omega arith)) [ inl e ↦ inl (omega arith) | inr k ↦ inr (omega arith) ]

found_by : (test : ℕ → Bool) (from n : ℕ) (b : Bool) → test from ≡ b → IsFound test (from + 1) n (find test (range_with_len (from + 1) n))
    → IsFound test from (suc n) (cond b (Some from) (find test (range_with_len (from + 1) n)))
found_by test from n true is rest = record {
  inside = λ r e. let s : from ≡ r = cc in (omega arith, omega arith);
  first = λ r q e le t. let s : from ≡ r = cc in omega arith;
  none = λ q e le lt t. absurd cc;
}
found_by test from n false is rest = record {
  inside = λ r e. let k : (from + 1 ≤ r) × (r < from + 1 + n) = rest.inside r e in (omega arith, omega arith);
  first = λ r q e le t. elim (same_or_more from q le) [ inl same ↦ absurd (let x : test from ≡ true = ap test same ∙ t in cc) | inr more ↦ rest.first r q e more t ];
  none = λ q e le lt t. elim (same_or_more from q le) [ inl same ↦ (let x : test from ≡ true = ap test same ∙ t in cc) | inr more ↦ rest.none q e more (omega arith) t ];
}

found : (test : ℕ → Bool) (from count : ℕ) → IsFound test from count (find test (range_with_len from count))
found test from zero = record {
  inside = λ r e. absurd cc;
  first = λ r q e le t. absurd cc;
  none = λ q e le lt t. absurd (omega arith);
}
found test from (suc n) = found_by test from n (test from) refl (found test (from + 1) n)

-- so many turns of others can pass before the place is served
abbrev pub WaitsAtMost : ℕ → ℕ → ℕ → Type 0
WaitsAtMost last place k = ((last < place) × (place ≡ last + 1 + k)) ⊎ ((place ≤ last) × (place + 15 ≡ last + k))

pub waits_some : (last place : ℕ) → last ≤ 15 → place ≤ 15 → (k : ℕ) × WaitsAtMost last place k × (k ≤ 15)
waits_some last place a b =
    elim (more_or_not place last) [ inl le ↦ (place + 15 - last, inr (le, omega arith), omega arith) | inr lt ↦ (place - last - 1, inl (lt, omega arith), omega arith) ]

-- a turn at which another place is served
abbrev pub Nearer : ℕ → ℕ → ℕ → Type 0
Nearer served place k = (j : ℕ) × (j < k) × WaitsAtMost served place j × (served ≤ 15)

step_up : (test : ℕ → Bool) (last place k r : ℕ) (hi : Option ℕ) → IsFound test (last + 1) (15 - last) hi → last ≤ 15 → place ≤ 15
    → WaitsAtMost last place k → hi ≡ Some r → test place ≡ true → r ≢ place → Nearer r place k
step_up test last place k r hi f a b w e t ne =
    let i : (last + 1 ≤ r) × (r < last + 1 + (15 - last)) = f.inside r e in
    elim w [
      | inl h ↦ (let le : r ≤ place = f.first r place e (omega arith) t in
          let lt : r < place = different r place le ne in (place - r - 1, omega arith, inl (lt, omega arith), omega arith))
      | inr h ↦ (place + 15 - r, omega arith, inr (omega arith, omega arith), omega arith)
    ]

step_round : (test : ℕ → Bool) (last place k r : ℕ) (hi lo : Option ℕ) → IsFound test (last + 1) (15 - last) hi → IsFound test 0 (last + 1) lo
    → last ≤ 15 → place ≤ 15 → WaitsAtMost last place k → hi ≡ None → lo ≡ Some r → test place ≡ true → r ≢ place → Nearer r place k
step_round test last place k r hi lo f g a b w none e t ne =
    let i : (0 ≤ r) × (r < 0 + (last + 1)) = g.inside r e in
    elim w [
      | inl h ↦ absurd (f.none place none (omega arith) (omega arith) t)
      | inr h ↦ (let le : r ≤ place = g.first r place e (omega arith) t in
          let lt : r < place = different r place le ne in (place - r - 1, omega arith, inl (lt, omega arith), omega arith))
    ]

step_by : (test : ℕ → Bool) (last place k r : ℕ) (hi lo : Option ℕ) → IsFound test (last + 1) (15 - last) hi → IsFound test 0 (last + 1) lo
    → last ≤ 15 → place ≤ 15 → WaitsAtMost last place k → option_or hi lo ≡ Some r → test place ≡ true → r ≢ place → Nearer r place k
step_by test last place k r (Some x) lo f g a b w e t ne = step_up test last place k r (Some x) f a b w e t ne
step_by test last place k r None lo f g a b w e t ne = step_round test last place k r None lo f g a b w refl e t ne

pub nearer : (test : ℕ → Bool) (last place k r : ℕ) → last ≤ 15 → place ≤ 15 → WaitsAtMost last place k → next_served last test ≡ Some r
    → test place ≡ true → r ≢ place → Nearer r place k
nearer test last place k r a b w e t ne =
    let split : find test (range_with_len (last + 1) (15 - last) ++ range_with_len 0 (last + 1))
    ≡ option_or (find test (range_with_len (last + 1) (15 - last))) (find test (range_with_len 0 (last + 1))) = find-append test _ _ in
    step_by test last place k r _ _ (found test (last + 1) (15 - last)) (found test 0 (last + 1)) a b w (sym split ∙ e) t ne

all_first : {X : Type 0} (P : X → Type 0) (x : X) (xs : List X) → All P (x ∷ xs) → P x
all_first P x xs all = all 0 x (omega arith)

all_rest : {X : Type 0} (P : X → Type 0) (x : X) (xs : List X) → All P (x ∷ xs) → All P xs
all_rest P x xs all = λ k d h. all (suc k) d (omega arith)

passed_over : (turns : List (ℕ → Bool)) (served : List ℕ) (last place k : ℕ) → last ≤ 15 → place ≤ 15 → WaitsAtMost last place k
    → IsServedInTurn last turns served → StaysReady place turns → IsPassedOver place served → length served ≤ k
unfolding IsServedInTurn
passed_over [] [] last place k a b w run ready others = omega arith
passed_over [] (r ∷ served) last place k a b w run ready others = absurd run
passed_over (test ∷ turns) [] last place k a b w run ready others = absurd run
passed_over (test ∷ turns) (r ∷ served) last place k a b w run ready others =
    let t : test place ≡ true = all_first (λ (f : ℕ → Bool). IsTrue (f place)) test turns ready in
    let ne : r ≢ place = all_first (λ (other : ℕ). other ≢ place) r served others in
    let n : Nearer r place k = nearer test last place k r a b w run.0 t ne in
    let rest : length served ≤ n.0 =
    passed_over turns served r place n.0 n.3 b n.2 run.1 (all_rest (λ (f : ℕ → Bool). IsTrue (f place)) test turns ready)
    (all_rest (λ (other : ℕ). other ≢ place) r served others) in
    let less : n.0 < k = n.1 in
    omega arith

-- a place that stays ready is passed over at most 15 times
pub passes_fifteen : (last place : ℕ) (turns : List (ℕ → Bool)) (served : List ℕ) → last ≤ control_port → place ≤ control_port
    → IsServedInTurn last turns served → StaysReady place turns → IsPassedOver place served → length served ≤ 15
passes_fifteen last place turns served a b run ready others =
    let w : (k : ℕ) × WaitsAtMost last place k × (k ≤ 15) = waits_some last place a b in
    let n : length served ≤ w.0 = passed_over turns served last place w.0 a b w.1 run ready others in
    omega arith

below_by : (test : ℕ → Bool) (last r : ℕ) (hi lo : Option ℕ) → IsFound test (last + 1) (15 - last) hi → IsFound test 0 (last + 1) lo
    → last ≤ 15 → option_or hi lo ≡ Some r → r < 16
below_by test last r (Some x) lo f g a e = let i : (last + 1 ≤ r) × (r < last + 1 + (15 - last)) = f.inside r e in omega arith
below_by test last r None lo f g a e = let i : (0 ≤ r) × (r < 0 + (last + 1)) = g.inside r e in omega arith

-- the place that is served is one of the circle
pub served_below : (test : ℕ → Bool) (last r : ℕ) → last ≤ 15 → next_served last test ≡ Some r → r < 16
served_below test last r a e =
    let split : find test (range_with_len (last + 1) (15 - last) ++ range_with_len 0 (last + 1))
    ≡ option_or (find test (range_with_len (last + 1) (15 - last))) (find test (range_with_len 0 (last + 1))) = find-append test _ _ in
    below_by test last r _ _ (found test (last + 1) (15 - last)) (found test 0 (last + 1)) a (sym split ∙ e)

passes_by : (test : ℕ → Bool) (x r : ℕ) (rest : Option ℕ) (b : Bool) → test x ≡ b → cond b (Some x) rest ≡ Some r → (rest ≡ Some r → test r ≡ true)
    → test r ≡ true
passes_by test x r rest true is e h = let s : x ≡ r = cc in sym (ap test s) ∙ is
passes_by test x r rest false is e h = h e

passes_test : (test : ℕ → Bool) (places : List ℕ) (r : ℕ) → find test places ≡ Some r → test r ≡ true
passes_test test [] r e = absurd cc
passes_test test (x ∷ places) r e = passes_by test x r (find test places) (test x) refl e (passes_test test places r)

-- and it is ready
pub served_is_ready : (test : ℕ → Bool) (last r : ℕ) → next_served last test ≡ Some r → test r ≡ true
served_is_ready test last r e = passes_test test (circle_after last) r e
