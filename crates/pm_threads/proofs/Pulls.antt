-- The pulls of one port, with one more.
use Rattle.std.proofs.Common.{◌≡◌, ℕ, suc, ◌+◌, ◌<◌, ◌==◌, List, [], ◌∷◌, ◌++◌, length, get_or, take, Bool, true, false, refl, ap, ◌∙◌, arith}
use Rattle.std.proofs.{lemmas.List.{map-append, Elements.{filter-append}}, Math.Seq.{take-suc}}
use Rattle.std.specs.Prelude.{filter, if◌then◌else◌, map}
use Rattle.pm_threads.specs.Setups.{pulls_at}

one : (n : ℕ) (pull : ℕ × ℕ) (b : Bool) → (pull.0 == n) ≡ b → pulls_at n (pull ∷ []) ≡ (if b then pull.1 ∷ [] else [])
one n pull b is = ap (λ (t : Bool). map (λ (p : ℕ × ℕ). p.1) (if t then pull ∷ [] else [])) is ∙ by b
  where
    by : (b : Bool) → map (λ (p : ℕ × ℕ). p.1) (if b then pull ∷ [] else []) ≡ (if b then pull.1 ∷ [] else [])
    by true = refl
    by false = refl

pub pulls_more : (n : ℕ) (pulls : List (ℕ × ℕ)) (i : ℕ) (other pull : ℕ × ℕ) (b : Bool) → i < length pulls → get_or pulls i other ≡ pull
    → (pull.0 == n) ≡ b → pulls_at n (take (i + 1) pulls) ≡ pulls_at n (take i pulls) ++ (if b then pull.1 ∷ [] else [])
pulls_more n pulls i other pull b lt is test =
    let next : i + 1 ≡ suc i = omega arith in
    let step : take (i + 1) pulls ≡ take i pulls ++ pull ∷ [] =
    ap (λ (k : ℕ). take k pulls) next ∙ take-suc pulls i other lt ∙ ap (λ p. take i pulls ++ p ∷ []) is in
    ap (pulls_at n) step
    ∙ ap (map (λ (p : ℕ × ℕ). p.1)) (filter-append (λ (p : ℕ × ℕ). p.0 == n) (take i pulls) (pull ∷ []))
    ∙ map-append (λ (p : ℕ × ℕ). p.1) (filter (λ (p : ℕ × ℕ). p.0 == n) (take i pulls)) (filter (λ (p : ℕ × ℕ). p.0 == n) (pull ∷ []))
    ∙ ap (λ l. pulls_at n (take i pulls) ++ l) (one n pull b test)
