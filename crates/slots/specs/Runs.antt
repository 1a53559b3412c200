-- The flags of the dwords of a transfer as the runs in which they are set.
use Rattle.std.specs.Prelude.{ℕ, ◌+◌, Bool, true, false, List, [], ◌∷◌, Option, Some, None}
use Rattle.slots.specs.declared.moved.Stretch.{Stretch}

-- The runs of the flags of dword k and those behind it. Where one has begun before dword k, its start is given.
abbrev pub runs_from : Option ℕ → ℕ → List Bool → List Stretch
runs_from None k [] = []
runs_from (Some start) k [] = record { start = start; end = k } ∷ []
runs_from None k (false ∷ flags) = runs_from None (k + 1) flags
runs_from None k (true ∷ flags) = runs_from (Some k) (k + 1) flags
runs_from (Some start) k (true ∷ flags) = runs_from (Some start) (k + 1) flags
runs_from (Some start) k (false ∷ flags) = record { start = start; end = k } ∷ runs_from None (k + 1) flags

-- the runs of a transfer
abbrev pub runs_of : List Bool → List Stretch
runs_of flags = runs_from None 0 flags
