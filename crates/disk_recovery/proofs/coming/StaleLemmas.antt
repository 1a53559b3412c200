-- For `ends_go_on`. What comes next to the host is of before both began anew, or nothing of that is on its way any
-- more.
use Rattle.std.proofs.Common.{◌≡◌, ℕ, ◌⊎◌, List, [], ◌∷◌, ◌++◌, refl, sym, ap, inl, inr}

first_of : (x y : List ℕ) (xs ys : List (List ℕ)) → x ∷ xs ≡ y ∷ ys → (x ≡ y) × (xs ≡ ys)
first_of x y xs ys is = (cc, cc)

-- what comes next is of before
pub record IsStale (bytes : List ℕ) (up stale later : List (List ℕ)) : Type 0 where
  pub rest : List (List ℕ)
  pub is : stale ≡ bytes ∷ rest
  pub up_is : up ≡ rest ++ later

-- or nothing of before is on its way any more
pub by_stale : (bytes : List ℕ) (up stale later : List (List ℕ)) → bytes ∷ up ≡ stale ++ later
    → ((stale ≡ []) × (later ≡ bytes ∷ up)) ⊎ IsStale bytes up stale later
by_stale bytes up [] later is = inl (refl, sym is)
by_stale bytes up (x ∷ stale) later is =
    let parts = first_of bytes x up (stale ++ later) is in
    inr (record { rest = stale; is = ap (λ (y : List ℕ). y ∷ stale) (sym parts.0); up_is = parts.1 })
