-- Beginnings of lists.
use Rattle.std.proofs.Common.{◌≡◌, ◌≤◌, List, [], ◌∷◌, ◌++◌, drop, length, sym, refl, ap, ◌∙◌, inl, inr, append_assoc, append-nil, length-append, arith}
use Rattle.ruled_links.specs.Lists.{IsPrefixOf, Agree}

module _ {T : Type 0} where
  pub prefix_same : (xs ys : List T) → xs ≡ ys → IsPrefixOf xs ys
  prefix_same xs ys e = ([], append-nil xs ∙ e)

  pub prefix_more : (xs ys more : List T) → IsPrefixOf xs ys → IsPrefixOf xs (ys ++ more)
  prefix_more xs ys more h = (h.0 ++ more, sym (append_assoc xs h.0 more) ∙ ap (λ l. l ++ more) h.1)

  pub prefix_length : (xs ys : List T) → IsPrefixOf xs ys → length xs ≤ length ys
  prefix_length xs ys h = omega (arith, length-append xs h.0, ap length h.1)

  agree_cons : (x : T) (xs ys : List T) → Agree xs ys → Agree (x ∷ xs) (x ∷ ys)
  agree_cons x xs ys h =
      elim h [ inl p ↦ inl (p.0, ap (λ l. x ∷ l) p.1) | inr p ↦ inr (p.0, ap (λ l. x ∷ l) p.1) ]

  -- two beginnings of one list agree
  pub agree : (xs ys more rest : List T) → xs ++ more ≡ ys ++ rest → Agree xs ys
  agree [] ys more rest e = inl (ys, refl)
  agree (x ∷ xs) [] more rest e = inr (x ∷ xs, refl)
  agree (x ∷ xs) (y ∷ ys) more rest e =
      let tail : xs ++ more ≡ ys ++ rest = ap (drop 1) e in
      let head : x ≡ y = cc in
      rw (sym head) (agree_cons x xs ys (agree xs ys more rest tail))
