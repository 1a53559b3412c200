-- A guest's memory in one block. It follows no standard.
use Rattle.std.specs.Prelude.{◌≡◌, ℕ, ◌+◌, ◌-◌, ◌^◌, ◌≤◌, List, [], ◌∷◌, ◌++◌, length, take, drop, slice_set}
use Rattle.guest_bytes.specs.Guest.{Single}

-- bytes from an address on
pub record Block : Type 0 where
  pub base : ℕ
  pub bytes : List ℕ

-- what holds for every block: none of its bytes lies past the last address
abbrev pub IsBlock : Block → Type 0
IsBlock block = block.base + length block.bytes ≤ 2 ^ 64

-- all of this many bytes, from an address on, lie in it
abbrev pub LiesIn : Block → ℕ → ℕ → Type 0
LiesIn block at count = (block.base ≤ at) × (at + count ≤ block.base + length block.bytes)

-- a read gives the bytes that are there
abbrev pub MayRead : Block → ℕ → List ℕ → Type 0
MayRead block at bytes =
    LiesIn block at (length bytes) × (bytes ≡ take (length bytes) (drop (at - block.base) block.bytes))

-- a read is refused if some of its bytes do not lie in the block
abbrev pub MayMiss : Block → ℕ → ℕ → Type 0
MayMiss block at count = ¬ LiesIn block at count

-- the bytes of a block after these were written one after another, each at its address; a later one wins
abbrev pub written_by : ℕ → List Single → List ℕ → List ℕ
written_by base [] bytes = bytes
written_by base (s ∷ rest) bytes = written_by base rest (slice_set bytes (s.address - base) s.byte)

-- the list with these bytes over as many others, from a place on
abbrev pub overwritten : List ℕ → ℕ → List ℕ → List ℕ
overwritten old start bytes = take start old ++ bytes ++ drop (start + length bytes) old
