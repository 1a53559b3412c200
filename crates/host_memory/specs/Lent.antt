-- What a borrower of an area leaves in memory after writing to it.
use Rattle.std.specs.{Prelude.{ℕ, List, ◌++◌, take, drop, length}, Borrow.{Lends, MutBor, Fml, Array, u8}}
use Rattle.host_memory.specs.{Memory.Memory, contracts.memory.HostMemory.the_row}

-- The area with these bytes left in it. A slice keeps its length, so bytes is as long as area, and is what is
-- left. The cut only defines it for lists of every length.
abbrev pub left_in : List ℕ → List ℕ → List ℕ
left_in area bytes = take (length area) (bytes ++ drop (length bytes) area)

-- the memory with these bytes left in its structure area, or in its client area
abbrev pub with_structure : Memory → List ℕ → Memory
with_structure m bytes = record m { structure = left_in m.structure bytes }

abbrev pub with_client : Memory → List ℕ → Memory
with_client m bytes = record m { client = left_in m.client bytes }

-- the structure area ends with the bytes last left in it; the client area stays
abbrev pub LendsStructure : MutBor Memory → MutBor (List ℕ) → Fml
LendsStructure s r = Lends the_row (Array u8 0) s r (with_structure s.now)

-- the client area ends with the bytes last left in it; the structure area stays
abbrev pub LendsClient : MutBor Memory → MutBor (List ℕ) → Fml
LendsClient s r = Lends the_row (Array u8 0) s r (with_client s.now)
