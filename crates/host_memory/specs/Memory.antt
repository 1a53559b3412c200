-- The memory that the driver and the host port share: one area for the structures of AHCI 1.3.1, section 4.2
-- (command list 4.2.2, command tables 4.2.3, received FISes 4.2.1), and one for the data of transfers. The
-- sizes are our own.
use Rattle.std.specs.Prelude.{◌≡◌, ℕ, ◌+◌, ◌-◌, ◌%◌, ◌≤◌, Bool, ◌&&◌, ◌==◌, nat_le, List, ◌++◌, length, take, drop, replicate}

-- the bytes of the two areas
pub record Memory : Type 0 where
  pub structure : List ℕ
  pub client : List ℕ

-- the address of the client area: 1 MiB
abbrev pub client_start : ℕ
client_start = 0x100000

-- a memory has 2 to 16 MiB and an even number of bytes
abbrev pub is_memory_size : ℕ → Bool
is_memory_size len = nat_le 0x200000 len && nat_le len 0x1000000 && (len % 2 == 0)

-- what every memory keeps: the sizes of its areas
pub record IsHostMemory (memory : Memory) : Type 0 where
  pub structure_len : length memory.structure ≡ 0x100000
  pub client_least : 0x100000 ≤ length memory.client
  pub client_most : length memory.client ≤ 15728640
  pub client_even : length memory.client % 2 ≡ 0

-- this many bytes, each of them 0
unfoldable pub zeros : ℕ → List ℕ
zeros count = replicate count 0

-- a memory of this many bytes, each of them 0
abbrev pub zeroed : ℕ → Memory
zeroed len = record { structure = zeros client_start; client = zeros (len - client_start) }

-- the list with these bytes written over it, starting at index at
abbrev pub overwritten : List ℕ → ℕ → List ℕ → List ℕ
overwritten old at bytes = take at old ++ bytes ++ drop (at + length bytes) old
