-- A scatter is single bytes, written one after another. For the crates above too.
use Rattle.std.proofs.Common.{◌≡◌, ◌≢◌, ℕ, zero, suc, ◌+◌, ◌-◌, ◌<◌, ◌≤◌, ◌↔◌, ◌⊎◌, true, false, eqb, List, [], ◌∷◌, length, set, Some, refl, sym, ap}
use Rattle.std.proofs.{Common.{subst, ◌∙◌, arith, inl, inr, get_or-set_same, get_or-set_other, length-set}, lemmas.Bool.{cases_lt, cases_eq, eq-eqb}}
use Rattle.std.proofs.lemmas.{Bool.ne_eqb, List.ext_get_or, Option.{same_Some, slice_get-get_or}}
use Rattle.std.specs.Prelude.{slice_get, slice_index}
use Rattle.host_memory.specs.{declared.table.Prd.Prd, Memory.client_start, Place.{total_of, place, AreInside, AreApart, Scatters, one_by_one}}
use Rattle.host_memory.specs.Place.{written}
use Rattle.host_memory.proofs.PlaceLemmas.{place_inside, place_injective}

-- ---- the byte whose place an address is

-- its number among n from one on, or that there is none
pub search_place : (prds : List Prd) (from n at : ℕ) → ((j : ℕ) × (j < n) × (place prds (from + j) ≡ at)) ⊎ ((j : ℕ) → j < n → at ≢ place prds (from + j))
search_place prds from zero at = inr (λ j lt e. absurd (omega arith))
search_place prds from (suc n) at =
    elim (search_place prds from n at) [
      | inl found ↦ inl (found.0, omega (arith, found.1), found.2)
      | inr none ↦ elim (cases_eq (place prds (from + n)) at) [
        | inl e ↦ inl (n, omega arith, e)
        | inr ne ↦ inr (λ j lt e. elim (cases_lt j n) [
          | inl below ↦ none j below e
          | inr ge ↦ ne (let same : j ≡ n = omega arith in ap (λ i. place prds (from + i)) (sym same) ∙ sym e)
        ])
      ]
    ]

-- ---- as a function of addresses

-- a byte that is at no place of these stays
pub written_elsewhere : (prds : List Prd) (from : ℕ) (bytes : List ℕ) (old : ℕ → ℕ) (at : ℕ) → ((j : ℕ) → j < length bytes → at ≢ place prds (from + j)) → written prds from bytes old at ≡ old at
written_elsewhere prds from [] old at apart = refl
written_elsewhere prds from (b ∷ bytes) old at apart =
    let here : at ≢ place prds from = λ e. apart 0 (omega arith) (e ∙ ap (place prds) (let z : from ≡ from + 0 = omega arith in z)) in
    let off : eqb at (place prds from) ≡ false = ne_eqb at (place prds from) here in
    rw off (written_elsewhere prds (from + 1) bytes old at (λ j lt e. apart (j + 1) (omega arith) (e ∙ ap (place prds) (let z : from + 1 + j ≡ from + (j + 1) = omega arith in z))))

-- at its place stands each of these
pub written_at : (prds : List Prd) (from : ℕ) (bytes : List ℕ) (old : ℕ → ℕ) (j b : ℕ) → ((i : ℕ) → i < j → place prds (from + j) ≢ place prds (from + i)) → slice_get bytes j ≡ Some b → written prds from bytes old (place prds (from + j)) ≡ b
written_at prds from [] old j b apart e = cc
written_at prds from (x ∷ bytes) old zero b apart e =
    let z : from + 0 ≡ from = omega arith in
    let on : eqb (place prds (from + 0)) (place prds from) ≡ true = eq-eqb (place prds (from + 0)) (place prds from) (ap (place prds) z) in
    rw on (same_Some x b e)
written_at prds from (x ∷ bytes) old (suc j) b apart e =
    let z : from ≡ from + 0 = omega arith in
    let off : eqb (place prds (from + suc j)) (place prds from) ≡ false = ne_eqb (place prds (from + suc j)) (place prds from) (λ is. apart 0 (omega arith) (is ∙ ap (place prds) z)) in
    let next : from + suc j ≡ from + 1 + j = omega arith in
    rw off (rw next (written_at prds (from + 1) bytes old j b
    (λ i lt is. apart (i + 1) (omega arith) (ap (place prds) next ∙ is ∙ ap (place prds) (let q : from + 1 + i ≡ from + (i + 1) = omega arith in q))) e))

-- what is scattered to the places is what is written at them
pub scattered : (prds : List Prd) (from : ℕ) (bytes old new : List ℕ) (before : ℕ → ℕ) → AreInside (length old) prds → AreApart prds → from + length bytes ≤ total_of prds
    → Scatters prds from bytes old new → ((k : ℕ) → k < length old → slice_index old k ≡ before (client_start + k))
    → (k : ℕ) → k < length old → slice_index new k ≡ written prds from bytes before (client_start + k)
scattered prds from bytes old new before inside apart fits s same k lt =
    elim (search_place prds from (length bytes) (client_start + k)) [
      | inl found ↦
          let j : ℕ = found.0 in
          let j_lt : j < length bytes = found.1 in
          let at : place prds (from + j) - client_start ≡ k = omega (arith, found.2) in
          let new_is : slice_index new k ≡ slice_index bytes j = ap (slice_index new) (sym at) ∙ s.written j j_lt in
          let once : (i : ℕ) → i < j → place prds (from + j) ≢ place prds (from + i) = λ i i_lt e.
          let number : from + j ≡ from + i = place_injective prds (from + j) (from + i) apart (omega arith) (omega arith) e in absurd (omega arith) in
          new_is ∙ sym (ap (written prds from bytes before) (sym found.2) ∙ written_at prds from bytes before j (slice_index bytes j) once (slice_get-get_or bytes j 0 j_lt))
      | inr none ↦
          s.others k (λ j j_lt e. none j j_lt (sym e)) ∙ same k lt ∙ sym (written_elsewhere prds from bytes before (client_start + k) none)
    ]

-- ---- as a list

-- a scatter of bytes is the first byte, and then a scatter of the others
scatters_first : (prds : List Prd) (from b : ℕ) (bytes old new : List ℕ) → AreInside (length old) prds → AreApart prds → from + suc (length bytes) ≤ total_of prds
    → Scatters prds (from + 1) bytes (set old (place prds from - client_start) b) new → Scatters prds from (b ∷ bytes) old new
scatters_first prds from b bytes old new inside apart fits s =
    let at = place prds from - client_start in
    let here = place_inside (length old) prds from inside (omega arith) in
    record {
      written = λ k h. written_in k h;
      others = λ a ne.
          let first : a ≢ at = λ e. ne 0 (omega arith) (let z : from + 0 ≡ from = omega arith in ap (place prds) z ∙ (let r : place prds from ≡ client_start + a = omega (arith, here.0, e) in r)) in
          s.others a (λ k h e. ne (suc k) (omega arith) (let q : from + suc k ≡ from + 1 + k = omega arith in ap (place prds) q ∙ e)) ∙ get_or-set_other old at a b 0 first;
      as_long = s.as_long ∙ length-set old at b;
    }
  where
    written_in : (k : ℕ) → k < suc (length bytes) → slice_index new (place prds (from + k) - client_start) ≡ slice_index (b ∷ bytes) k
    written_in zero h =
        let at = place prds from - client_start in
        let here = place_inside (length old) prds from inside (omega arith) in
        let z : from + 0 ≡ from = omega arith in
        let apart_from : (k : ℕ) → k < length bytes → place prds (from + 1 + k) ≢ client_start + at = λ k lt e.
        let same : place prds (from + 1 + k) ≡ place prds from = omega (arith, here.0, e) in
        let number = place_injective prds (from + 1 + k) from apart (omega arith) (omega arith) same in absurd (omega (arith, number)) in
        rw z (s.others at apart_from ∙ get_or-set_same old at b 0 (omega (arith, here.0, here.1)))
    written_in (suc k) h = let q : from + suc k ≡ from + 1 + k = omega arith in rw q (s.written k (omega arith))

inside_same : (n m : ℕ) (prds : List Prd) → n ≡ m → AreInside n prds → AreInside m prds
inside_same n m prds e h = subst (λ (k : ℕ). AreInside k prds) e h

-- single writes, one after another, are a scatter
pub one_by_one_scatters : (prds : List Prd) (from : ℕ) (bytes old : List ℕ) → AreInside (length old) prds → AreApart prds → from + length bytes ≤ total_of prds → Scatters prds from bytes old (one_by_one prds from bytes old)
one_by_one_scatters prds from [] old inside apart fits = record { written = λ k h. absurd (omega arith); others = λ at h. refl; as_long = refl }
one_by_one_scatters prds from (b ∷ bytes) old inside apart fits =
    let next = set old (place prds from - client_start) b in
    let long : length next ≡ length old = length-set old (place prds from - client_start) b in
    scatters_first prds from b bytes old (one_by_one prds (from + 1) bytes next) inside apart fits
    (one_by_one_scatters prds (from + 1) bytes next (inside_same (length old) (length next) prds (sym long) inside) apart (omega arith))

-- and a scatter leaves one list alone
pub scatters_once : (prds : List Prd) (from : ℕ) (bytes old new other : List ℕ) → Scatters prds from bytes old new → Scatters prds from bytes old other → new ≡ other
scatters_once prds from bytes old new other s t = ext_get_or 0 new other (s.as_long ∙ sym t.as_long) same
  where
    same : (k : ℕ) → k < length new → slice_index new k ≡ slice_index other k
    same k lt =
        elim (search_place prds from (length bytes) (client_start + k)) [
          | inl found ↦
              let at : place prds (from + found.0) - client_start ≡ k = omega (arith, found.2) in
              ap (slice_index new) (sym at) ∙ s.written found.0 found.1 ∙ sym (ap (slice_index other) (sym at) ∙ t.written found.0 found.1)
          | inr none ↦ s.others k (λ j h e. none j h (sym e)) ∙ sym (t.others k (λ j h e. none j h (sym e)))
        ]

pub scatters_one_by_one : (prds : List Prd) (from : ℕ) (bytes old new : List ℕ) → AreInside (length old) prds → AreApart prds → from + length bytes ≤ total_of prds
    → Scatters prds from bytes old new ↔ (new ≡ one_by_one prds from bytes old)
scatters_one_by_one prds from bytes old new inside apart fits =
    let all = one_by_one_scatters prds from bytes old inside apart fits in
    (λ s. scatters_once prds from bytes old new (one_by_one prds from bytes old) s all, λ e. subst (λ (xs : List ℕ). Scatters prds from bytes old xs) (sym e) all)
