-- The entries of a command's table: AHCI 1.3.1, section 4.2.3.3, Physical Region Descriptor Table.
use Rattle.std.specs.Prelude.{◌≡◌, ℕ, ◌+◌, ◌-◌, ◌*◌, ◌/◌, ◌%◌, ◌^◌, ◌==◌, ◌<◌, ◌≤◌, if◌then◌else◌, nat_lt, List, [], ◌∷◌, drop, Option, Some, None}
use Rattle.std.specs.Prelude.{zero, suc}
use Rattle.byteorder.specs.Endian.{little_number}
use Rattle.guest_fetch.specs.declared.entry.{Entry.Entry, EntryFault.{EntryFault, TheVariants.{OddAddress, OddCount, PastEnd}}}
use Rattle.guest_fetch.specs.declared.entry.FaultyEntry.{FaultyEntry}

-- the dword at this place, least significant byte first
abbrev pub dword_at : List ℕ → ℕ → ℕ
dword_at raw at = little_number 4 (drop at raw)

-- the number in a field of a dword: its width in bits, from bit low on
abbrev pub bits_of : (dword low count : ℕ) → ℕ
bits_of dword low count = dword / 2 ^ low % 2 ^ count

-- The entry with these dwords. DW0 and DW1 are the address (DBA, DBAU). Of DW3, bits 21:0 are the byte count less
-- one (DBC), and bit 31 is I.
unfoldable pub entry_of_dwords : (dw0 dw1 dw3 : ℕ) → Entry
entry_of_dwords dw0 dw1 dw3 = record {
  address = dw0 + dw1 * 2 ^ 32;
  bytes = bits_of dw3 0 22 + 1;
  interrupt = bits_of dw3 31 1 == 1;
}

-- the entry in the 16 bytes at this place
abbrev pub entry_at : List ℕ → ℕ → Entry
entry_at raw at = entry_of_dwords (dword_at raw at) (dword_at raw (at + 4)) (dword_at raw (at + 12))

-- so many entries from this place on, 16 bytes each
abbrev pub entries_at : List ℕ → (at count : ℕ) → List Entry
entries_at raw at zero = []
entries_at raw at (suc n) = entry_at raw at ∷ entries_at raw (at + 16) n

-- What the standard forbids, in this order: bit 0 of the address is 0, and bit 0 of the count's field is 1. No byte
-- lies past the last address of 64 bits.
abbrev pub entry_fault : Entry → Option EntryFault
entry_fault e =
    if e.address % 2 == 1 then Some (OddAddress e.address)
    else if e.bytes % 2 == 1 then Some (OddCount e.bytes)
    else if nat_lt (2 ^ 64) (e.address + e.bytes) then Some (PastEnd e.address e.bytes) else None

-- an entry that may be kept
pub record IsEntry (e : Entry) : Type 0 where
  pub even : e.address % 2 ≡ 0
  pub whole : e.bytes % 2 ≡ 0
  pub some : 0 < e.bytes
  pub most : e.bytes ≤ 2 ^ 22
  pub inside : e.address + e.bytes ≤ 2 ^ 64

-- the entries that so many bytes reach: they fill the entries one after another
abbrev pub reached : ℕ → List Entry → List Entry
reached left [] = []
reached zero (e ∷ rest) = []
reached (suc n) (e ∷ rest) = e ∷ reached (suc n - e.bytes) rest

-- the first of them that is forbidden, by its index in the table; what lies behind the last byte does not count
abbrev pub fault_or : ℕ → Option EntryFault → Option FaultyEntry → Option FaultyEntry
fault_or index None rest = rest
fault_or index (Some fault) rest = Some (record { index = index; fault = fault })

abbrev pub first_fault : (index left : ℕ) → List Entry → Option FaultyEntry
first_fault index left [] = None
first_fault index zero (e ∷ rest) = None
first_fault index (suc n) (e ∷ rest) =
    fault_or index (entry_fault e) (first_fault (index + 1) (suc n - e.bytes) rest)
