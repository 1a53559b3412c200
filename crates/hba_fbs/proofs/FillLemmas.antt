-- A list that a loop fills from its start.
use Rattle.std.proofs.{Common.{◌≡◌, ◌≢◌, ℕ, ◌+◌, ◌<◌, ◌≤◌, List, length, get_or, set, map, refl, ◌∙◌, subst, inl, inr, arith}, lemmas.Bool.cases_lt}
use Rattle.std.proofs.lemmas.List.{get_or-set_same, get_or-set_other, length-set, FromFn.fill_by_all}
use Rattle.std.specs.List.{range_with_len}
use Rattle.hba_fbs.specs.Between.{FilledTo}

pub filled_none : {A : Type 0} (f : ℕ → A) (d : A) (old : List A) → FilledTo 0 f d old old
filled_none f d old = record { long = refl; filled = λ k below. absurd (omega (arith, below)); rest = λ k past. refl }

pub filled_same : {A : Type 0} (n : ℕ) (f : ℕ → A) (d : A) (old new : List A) → FilledTo n f d old new → get_or old n d ≡ f n → FilledTo (n + 1) f d old new
filled_same n f d old new h here = record {
  long = h.long;
  filled = λ k below. elim (cases_lt k n) [
    | inl less ↦ h.filled k less
    | inr past ↦ let e : n ≡ k = omega (arith, below, past) in subst (λ (i : ℕ). get_or new i d ≡ f i) e (h.rest n (omega arith) ∙ here)
  ];
  rest = λ k past. h.rest k (omega (arith, past));
}

pub filled_set : {A : Type 0} (n : ℕ) (f : ℕ → A) (d : A) (old new : List A) (x : A) → FilledTo n f d old new → n < length old → x ≡ f n → FilledTo (n + 1) f d old (set new n x)
filled_set n f d old new x h inside is = record {
  long = length-set new n x ∙ h.long;
  filled = λ k below. elim (cases_lt k n) [
    | inl less ↦ let ne : k ≢ n = omega (arith, less) in get_or-set_other new n k x d ne ∙ h.filled k less
    | inr past ↦
        let e : n ≡ k = omega (arith, below, past) in
        subst (λ (i : ℕ). get_or (set new n x) i d ≡ f i) e (get_or-set_same new n x d (omega (arith, h.long)) ∙ is)
  ];
  rest = λ k past. let ne : k ≢ n = omega (arith, past) in get_or-set_other new n k x d ne ∙ h.rest k (omega (arith, past));
}

pub filled_all : {A : Type 0} (n : ℕ) (f : ℕ → A) (d : A) (old new : List A) → FilledTo n f d old new → length old ≤ n → new ≡ map f (range_with_len 0 (length old))
filled_all n f d old new h past = fill_by_all f new (length old) d h.long (λ k below. h.filled k (omega (arith, past, below)))
