-- The tables that a memory keeps as it read them.
use Rattle.std.specs.{Prelude.{◌≡◌, ℕ, ◌+◌, ◌*◌, ◌≤◌, List, length, Option, Some, None, is_none, if◌then◌else◌}, List.All}
use Rattle.host_memory.specs.{declared.kept.{Kept.Kept, Tables.Tables}, Ends.ends_from, Memory.IsHostMemory, Place.total_of, Reading.prds_at}
use Rattle.host_memory.specs.Reading.{read_fault}

-- It can be read in these areas, its entries end there, and it lies from one address on and before another.
pub record IsKept (structure : List ℕ) (client_len from to : ℕ) (kept : Kept) : Type 0 where
  pub sound : read_fault structure client_len kept.at kept.count ≡ None
  pub sums : kept.ends.items ≡ ends_from 0 (prds_at structure kept.at kept.count)
  pub low : from ≤ kept.at
  pub high : kept.at + 16 * kept.count ≤ to

-- so can all that are kept
abbrev pub AreKept : List ℕ → ℕ → Tables → Type 0
AreKept structure client_len tables =
    All (IsKept structure client_len tables.low tables.high) tables.kept.items

-- what a memory keeps of its two areas and of its tables
pub record IsKeeping (structure client : List ℕ) (tables : Tables) : Type 0 where
  pub areas : IsHostMemory (record { structure = structure; client = client })
  pub kept : AreKept structure (length client) tables

-- the length of a table's transfer, if the table can be read
abbrev pub readable_total : List ℕ → ℕ → ℕ → ℕ → Option ℕ
readable_total structure client_len at count = (if is_none (read_fault structure client_len at count)
    then Some (total_of (prds_at structure at count)) else None)
