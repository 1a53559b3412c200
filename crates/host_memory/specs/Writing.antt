-- The bytes that are written for a table: AHCI 1.3.1, section 4.2.3.3.
use Rattle.std.specs.Prelude.{ℕ, ◌≡◌, ◌-◌, ◌%◌, ◌≤◌, List, [], ◌∷◌, ◌++◌}
use Rattle.byteorder.specs.Endian.{little_bytes}
use Rattle.host_memory.specs.{declared.table.Prd.Prd, Place.LiesInClient}

-- an entry that fits the field of 22 bits: 1 byte to 4 MiB
abbrev pub CanBeWritten : Prd → Type 0
CanBeWritten prd = (1 ≤ prd.bytes) × (prd.bytes ≤ 4194304)

-- DW0 is the address, DW1 and DW2 are 0, DW3 is the byte count less one
abbrev pub entry_bytes : Prd → List ℕ
entry_bytes prd =
    little_bytes 4 prd.address ++ (0 ∷ 0 ∷ 0 ∷ 0 ∷ 0 ∷ 0 ∷ 0 ∷ 0 ∷ []) ++ little_bytes 4 (prd.bytes - 1)

-- the entries, one after another
unfoldable pub table_bytes : List Prd → List ℕ
table_bytes [] = []
table_bytes (prd ∷ rest) = entry_bytes prd ++ table_bytes rest

-- a valid entry: its address and its count are even, and it lies in the client area
abbrev pub IsUsable : ℕ → Prd → Type 0
IsUsable client_len prd =
    (prd.address % 2 ≡ 0) × (prd.bytes % 2 ≡ 0) × LiesInClient client_len prd.address prd.bytes
