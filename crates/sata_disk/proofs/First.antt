-- The first place that passes a test.
use Rattle.std.proofs.{Common.{◌≡◌, ℕ, zero, suc, ◌+◌, ◌<◌, true, false, Some, None, refl, sym, ap, ◌∙◌, arith, inl, inr}, lemmas.Bool.cases_eq}
use Rattle.std.specs.Prelude.{Option, Bool, ◌||◌, if◌then◌else◌}
use Rattle.block_queue.specs.Line.{any_below, first_below, or_this}

first_here : (n : ℕ) (x : Option ℕ) (b : Bool) → x ≡ None → b ≡ true → or_this x (if b then Some n else None) ≡ Some n
first_here n None true e f = refl
first_here n None false e f = absurd (cc)
first_here n (Some k) b e f = absurd (cc)

first_stays : (x : Option ℕ) (k : ℕ) (y : Option ℕ) → x ≡ Some k → or_this x y ≡ Some k
first_stays None k y e = absurd (cc)
first_stays (Some j) k y e = e

pub first_found : (test : ℕ → Bool) (n k : ℕ) → k < n → first_below test k ≡ None → test k ≡ true → first_below test n ≡ Some k
unfolding first_below
first_found test zero k low none e = absurd (omega (arith, low))
first_found test (suc n) k low none e = elim (cases_eq k n) [
  | inl same ↦ let none' = ap (first_below test) (sym same) ∙ none in
      first_here n _ _ none' (ap test (sym same) ∙ e) ∙ ap Some (sym same)
  | inr apart ↦ first_stays _ k _ (first_found test n k (omega (arith, low, apart)) none e)
]

none_here : (n : ℕ) (x : Option ℕ) (b : Bool) → x ≡ None → b ≡ false → or_this x (if b then Some n else None) ≡ None
none_here n None false e f = refl
none_here n None true e f = absurd (cc)
none_here n (Some k) b e f = absurd (cc)

pub first_none : (test : ℕ → Bool) → None ≡ first_below test 0
unfolding first_below
first_none test = refl

pub first_more : (test : ℕ → Bool) (n : ℕ) → first_below test n ≡ None → test n ≡ false → first_below test (n + 1) ≡ None
unfolding first_below
first_more test n none e = let more : n + 1 ≡ suc n = omega arith in ap (first_below test) more ∙ none_here n _ _ none e

-- ## No place passes a test

pub any_first : (test : ℕ → Bool) → any_below test 0 ≡ false
unfolding any_below
any_first test = refl

both_false : (a b : Bool) → a ≡ false → b ≡ false → (a || b) ≡ false
both_false true b e f = absurd (cc)
both_false false b e f = f

pub any_more : (test : ℕ → Bool) (n : ℕ) → any_below test n ≡ false → test n ≡ false → any_below test (n + 1) ≡ false
unfolding any_below
any_more test n none e = let more : n + 1 ≡ suc n = omega arith in ap (any_below test) more ∙ both_false (test n) (any_below test n) e none
