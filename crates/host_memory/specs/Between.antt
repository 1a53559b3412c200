-- The words in which lemmas are stated that proofs of other crates use (`proofs/Door.antt`), and the words that these need.
-- No clause says them.
use Rattle.std.specs.Prelude.{List, Some, slice_get, ℕ, ◌≡◌}
use Rattle.host_memory.specs.{declared.table.Prd.Prd, Place.IsByteOf}

-- the entry of a table that has this byte
pub record HasByte (ps : List Prd) (at : ℕ) : Type 0 where
  pub k : ℕ
  pub prd : Prd
  pub entry : slice_get ps k ≡ Some prd
  pub has : IsByteOf prd at
