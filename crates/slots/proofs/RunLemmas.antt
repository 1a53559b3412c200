-- Stretches that lie apart are the runs of their flags.
use Rattle.std.proofs.Common.{◌≡◌, ℕ, zero, suc, ◌+◌, ◌<◌, ◌≤◌, Bool, true, false, List, [], ◌∷◌, refl, sym, ◌∙◌, ap, arith, inl, inr, Some, None}
use Rattle.std.proofs.lemmas.Bool.{cases_lt, or_from, or_left}
use Rattle.slots.specs.{declared.moved.Stretch.Stretch, Stretches.{AreApart, has, in_one, over_of}, Runs.{runs_from, runs_of}, RunLaws.flags}
use Rattle.slots.specs.RunLaws.{flags_past, has_high, has_yes, none_below}

-- for n flags: from dword k on, and within a stretch that began before
record Runs (n : ℕ) : Type 0 where
  outside : (k m : ℕ) (ss : List Stretch) → k + n ≡ m → AreApart k m ss → runs_from None k (flags k n ss) ≡ ss
  within : (k m : ℕ) (s : Stretch) (ss : List Stretch) → k + n ≡ m → s.start < k → k ≤ s.end → s.end ≤ m → AreApart (s.end + 1) m ss
      → runs_from (Some s.start) k (flags k n (s ∷ ss)) ≡ s ∷ ss

no_more : (low m : ℕ) (ss : List Stretch) → m ≤ low → AreApart low m ss → ss ≡ []
no_more low m [] le h = refl
no_more low m (s ∷ ss) le h = absurd (omega (arith, h.0, h.1, h.2))

outside_more : (n k m : ℕ) (ss : List Stretch) → Runs n → k + suc n ≡ m → AreApart k m ss → runs_from None k (flags k (suc n) ss) ≡ ss
outside_more n k m [] before e h = before.outside (k + 1) m [] (omega (arith, e)) tt
outside_more n k m (s ∷ ss) before e h = elim (cases_lt k s.start) [
  | inl low ↦
      let here : in_one (s ∷ ss) k ≡ false = none_below s.start m (s ∷ ss) k (omega arith, h.1, h.2, h.3) low in
      ap (λ (b : Bool). runs_from None k (b ∷ flags (k + 1) n (s ∷ ss))) here
      ∙ before.outside (k + 1) m (s ∷ ss) (omega (arith, e)) (omega arith, h.1, h.2, h.3)
  | inr above ↦
      let same : k ≡ s.start = omega (arith, h.0) in
      let here : in_one (s ∷ ss) k ≡ true = or_left (has k s) (in_one ss k) (has_yes k s above (omega (arith, h.1))) in
      ap (λ (b : Bool). runs_from None k (b ∷ flags (k + 1) n (s ∷ ss))) here
      ∙ ap (λ (j : ℕ). runs_from (Some j) (k + 1) (flags (k + 1) n (s ∷ ss))) same
      ∙ before.within (k + 1) m s ss (omega (arith, e)) (omega arith) (omega (arith, h.1)) h.2 h.3
]

within_more : (n k m : ℕ) (s : Stretch) (ss : List Stretch) → Runs n → k + suc n ≡ m → s.start < k → k ≤ s.end → s.end ≤ m → AreApart (s.end + 1) m ss
    → runs_from (Some s.start) k (flags k (suc n) (s ∷ ss)) ≡ s ∷ ss
within_more n k m s ss before e low high inside h = elim (cases_lt k s.end) [
  | inl lt ↦
      let here : in_one (s ∷ ss) k ≡ true = or_left (has k s) (in_one ss k) (has_yes k s (omega (arith, low)) lt) in
      ap (λ (b : Bool). runs_from (Some s.start) k (b ∷ flags (k + 1) n (s ∷ ss))) here
      ∙ before.within (k + 1) m s ss (omega (arith, e)) (omega (arith, low)) (omega arith) inside h
  | inr past ↦
      let same : k ≡ s.end = omega (arith, high) in
      let here : in_one (s ∷ ss) k ≡ false = or_from (has k s) (in_one ss k) (has_high k s past) (none_below (s.end + 1) m ss k h (omega arith)) in
      let rest : runs_from None (k + 1) (flags (k + 1) n (s ∷ ss)) ≡ ss =
      ap (runs_from None (k + 1)) (flags_past (k + 1) n s ss (omega arith)) ∙ before.outside (k + 1) m ss (omega (arith, e)) (rw same h) in
      ap (λ (b : Bool). runs_from (Some s.start) k (b ∷ flags (k + 1) n (s ∷ ss))) here
      ∙ ap (λ (j : ℕ). record { start = s.start; end = j } ∷ runs_from None (k + 1) (flags (k + 1) n (s ∷ ss))) same
      ∙ ap (λ (l : List Stretch). s ∷ l) rest
]

runs : (n : ℕ) → Runs n
runs zero = record {
  outside = λ k m ss e h. sym (no_more k m ss (omega (arith, e)) h);
  within = λ k m s ss e low high inside h.
      let same : k ≡ s.end = omega (arith, e, high, inside) in
      let none : ss ≡ [] = no_more (s.end + 1) m ss (omega (arith, e, high)) h in
      ap (λ (j : ℕ). record { start = s.start; end = j } ∷ []) same ∙ ap (λ (l : List Stretch). s ∷ l) (sym none);
}
runs (suc n) = record {
  outside = λ k m ss e h. outside_more n k m ss (runs n) e h;
  within = λ k m s ss e low high inside h. within_more n k m s ss (runs n) e low high inside h;
}

pub runs_over : (n : ℕ) (ss : List Stretch) → AreApart 0 n ss → runs_of (over_of n ss) ≡ ss
runs_over n ss h = (runs n).outside 0 n ss (omega arith) h
