-- Prefixes of lists.
use Rattle.std.specs.Prelude.{◌≡◌, ◌⊎◌, List, ◌++◌}

module _ {T : Type 0} where
  abbrev pub IsPrefixOf : List T → List T → Type 0
  IsPrefixOf front whole = (rest : List T) × (front ++ rest ≡ whole)

  -- the lists are the same as far as both go
  abbrev pub Agree : List T → List T → Type 0
  Agree xs ys = IsPrefixOf xs ys ⊎ IsPrefixOf ys xs
