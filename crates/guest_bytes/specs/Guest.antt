-- What goes to a guest's memory, byte by byte.
use Rattle.std.specs.Prelude.{ℕ, ◌+◌, List, [], ◌∷◌}

-- a byte, and the address to which it goes
pub record Single : Type 0 where
  pub address : ℕ
  pub byte : ℕ

abbrev pub single : ℕ → ℕ → Single
single address byte = record { address = address; byte = byte }

-- these bytes one after another, from an address on
abbrev pub singles_from : ℕ → List ℕ → List Single
singles_from at [] = []
singles_from at (byte ∷ bytes) = single at byte ∷ singles_from (at + 1) bytes
