-- The connections that came.
use Rattle.std.proofs.{Common.{◌≡◌, ◌==◌, ℕ, ◌+◌, List, [], ◌∷◌, ◌++◌, Bool, true, false, refl, ap, ◌∙◌, arith}, lemmas.Bool.Decides.nat_tests}
use Rattle.std.proofs.lemmas.List.Folds.{list_any-append}
use Rattle.std.specs.Prelude.{◌&&◌, ◌||◌, nat_le}
use Rattle.link_items.specs.declared.items.Presence.{Presence, TheVariants.{Came, Gone}}
use Rattle.disk_thread.specs.Runs.{AreTold, has_come, is_coming}

none_between : (c : ℕ) → false ≡ (nat_le 1 c && nat_le c 0)
none_between c = grind (arith, nat_tests)

one_more : (c conn : ℕ) → ((nat_le 1 c && nat_le c conn) || ((conn + 1) == c || false)) ≡ (nat_le 1 c && nat_le c (conn + 1))
one_more c conn = grind (arith, nat_tests)

no_more : (b : Bool) → (b || (false || false)) ≡ b
no_more true = refl
no_more false = refl

pub told_none : (told : List Presence) → told ≡ [] → AreTold told 0
told_none told e = record { each = λ c. ap (has_come c) e ∙ none_between c }

pub told_came : (told : List Presence) (conn : ℕ) → AreTold told conn → AreTold (told ++ Came (conn + 1) ∷ []) (conn + 1)
told_came told conn h = record {
  each = λ c. list_any-append (is_coming c) told (Came (conn + 1) ∷ [])
      ∙ ap (λ b. b || ((conn + 1) == c || false)) (h.each c) ∙ one_more c conn;
}

pub told_gone : (told : List Presence) (conn k : ℕ) → AreTold told conn → AreTold (told ++ Gone k ∷ []) conn
told_gone told conn k h = record {
  each = λ c. list_any-append (is_coming c) told (Gone k ∷ []) ∙ no_more (has_come c told) ∙ h.each c;
}
