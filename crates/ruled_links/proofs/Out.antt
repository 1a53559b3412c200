-- A pass while a slot is out with it.
use Rattle.std.proofs.Common.{◌≡◌, ◌≢◌, ℕ, ◌+◌, ◌-◌, ◌%◌, ◌≤◌, true, List, [], ◌∷◌, length, get_or, sym, refl, ap, ◌∙◌, arith, Option, Some, None}
use Rattle.atomic_table.specs.Table.{rest}
use Rattle.ruled_links.specs.{declared.rule.View.View, Rule.Sight}

pub not_full : (tail head room : ℕ) {sent slots : ℕ} → head ≤ sent → tail ≡ sent → slots ≡ room → ¬ (tail - head ≡ room) → sent ≢ head + slots
not_full tail head room below at size other e = other (omega arith)

pub full_now : (tail head room : ℕ) {sent slots : ℕ} → head ≤ sent → tail ≡ sent → slots ≡ room → tail - head ≡ room → sent ≡ head + slots
full_now tail head room below at size e = omega arith

module _ {T : Type 0} where
  -- the value that a seat finds in the slot that it took last
  pub found : (k j : ℕ) (x y : Option T) (xs ys zs : List (ℕ × Option T)) → zs ≡ (k, x) ∷ xs → zs ≡ (j, y) ∷ ys → x ≡ y
  found k j x y xs ys zs a b = ap (λ (l : List (ℕ × Option T)). (get_or l 0 (0, None)).1) (sym a ∙ b)

  -- the slot is out
  pub out : (n slot at : ℕ) (x : Option T) (v : View T) (before looked : Sight T) → slot ≡ at % n → looked ≡ (v, (at % n, x) ∷ before.1)
      → looked.1 ≡ (slot, x) ∷ rest looked.1
  out n slot at x v before looked place is =
      ap (λ m. m.1) is ∙ ap (λ (j : ℕ). (j, x) ∷ before.1) (sym place) ∙ ap (λ m. (slot, x) ∷ rest m.1) (sym is)

  -- and holds another value
  pub holds : (n slot at : ℕ) (x y : Option T) (v : View T) (before looked now : Sight T) → before.1 ≡ [] → slot ≡ at % n
      → looked ≡ (v, (at % n, x) ∷ before.1) → now ≡ (looked.0, (slot, y) ∷ rest looked.1) → now ≡ (v, (at % n, y) ∷ [])
  holds n slot at x y v before looked now none place is change =
      change ∙ (λ i. ((is i).0, (place i, y) ∷ rest (is i).1)) ∙ (λ i. (v, (at % n, y) ∷ none i))
