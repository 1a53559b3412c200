-- A row of equal elements, one longer.
use Rattle.std.proofs.{Common.{◌≡◌, ℕ, ◌+◌, [], ◌∷◌, ◌++◌, sym}, lemmas.List.{replicate-append-replicate}}
use Rattle.std.specs.Prelude.{replicate}

pub replicate_push : {A : Type 0} (n : ℕ) (x : A) → replicate (n + 1) x ≡ replicate n x ++ x ∷ []
replicate_push n x = sym (replicate-append-replicate n 1 x)
