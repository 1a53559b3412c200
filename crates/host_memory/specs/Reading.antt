-- The bytes of a table: AHCI 1.3.1, section 4.2.3.3, Physical Region Descriptor Table.
use Rattle.std.specs.Prelude.{◌≡◌, ℕ, ◌+◌, ◌*◌, ◌%◌, ◌^◌, ◌<◌, ◌≤◌, ◌⊎◌, ◌↔◌, min, max, Bool, true, false, not, ◌||◌, ◌==◌, nat_lt, if◌then◌else◌}
use Rattle.std.specs.{Prelude.{List, [], ◌∷◌, length, drop, slice_index, Option, Some, None, zero, suc}, List.list_any, Option.option_or}
use Rattle.byteorder.specs.Endian.{little_number}
use Rattle.host_memory.specs.declared.table.{Prd.Prd, Ends.{Ends, TheVariants.{Own, Kept}}, PrdError.{PrdError, TheVariants.OutsideStructure}}
use Rattle.host_memory.specs.{declared.table.PrdError.TheVariants.{BadEntry, OutsideClient, Overlap}, Ends.ends_from, Memory.client_start}
use Rattle.host_memory.specs.{Memory.overwritten, Place.{AreInside, AreApart}}

-- the dword at this index, the least significant byte first
abbrev pub dword_at : List ℕ → ℕ → ℕ
dword_at structure at = little_number 4 (drop at structure)

-- the entry at this index: DW0 is the address, bits 21:0 of DW3 are the byte count less one
abbrev pub prd_at : List ℕ → ℕ → Prd
prd_at structure at =
    record { address = dword_at structure at; bytes = dword_at structure (at + 12) % 2 ^ 22 + 1 }

-- the upper half of its address: DW1
abbrev pub upper_at : List ℕ → ℕ → ℕ
upper_at structure at = dword_at structure (at + 4)

-- this many entries, starting at this index
abbrev pub prds_at : List ℕ → ℕ → ℕ → List Prd
prds_at structure at zero = []
prds_at structure at (suc count) = prd_at structure at ∷ prds_at structure (at + 16) count

-- an odd address, an address above 32 bits, an odd byte count
abbrev pub is_bad : List ℕ → ℕ → Bool
is_bad structure at = let prd = prd_at structure at in (prd.address % 2 == 1)
    || not (upper_at structure at == 0) || (prd.bytes % 2 == 1)

-- some byte of it is outside a client area of client_len bytes
abbrev pub is_outside : ℕ → Prd → Bool
is_outside client_len prd =
    nat_lt prd.address client_start || nat_lt (client_start + client_len) (prd.address + prd.bytes)

-- the fault of one entry
abbrev pub entry_fault : List ℕ → ℕ → ℕ → Option PrdError
entry_fault structure client_len at = (if is_bad structure at then Some BadEntry
    else (if is_outside client_len (prd_at structure at) then Some OutsideClient else None))

-- the fault of the first entry that has one
abbrev pub first_fault : List ℕ → ℕ → ℕ → ℕ → Option PrdError
first_fault structure client_len at zero = None
first_fault structure client_len at (suc count) =
    option_or (entry_fault structure client_len at) (first_fault structure client_len (at + 16) count)

-- whether the two share a byte: the later start is before the earlier end
abbrev pub share_byte : Prd → Prd → Bool
share_byte p q = nat_lt (max p.address q.address) (min (p.address + p.bytes) (q.address + q.bytes))

-- whether the entry shares a byte with one of these
abbrev pub shares_with : Prd → List Prd → Bool
shares_with prd others = list_any (λ other. share_byte prd other) others

-- whether an entry shares a byte with one of the others
abbrev pub share_with : List Prd → List Prd → Bool
share_with prds others = list_any (λ prd. shares_with prd others) prds

-- whether two entries share a byte
abbrev pub have_overlap : List Prd → Bool
have_overlap [] = false
have_overlap (prd ∷ rest) = shares_with prd rest || have_overlap rest

-- whether each of these entries begins at or after the end of the one before it, and the first one at or
-- after this address
abbrev pub lie_in_order : ℕ → List Prd → Bool
lie_in_order end [] = true
lie_in_order end (prd ∷ rest) =
    (if nat_lt prd.address end then false else lie_in_order (prd.address + prd.bytes) rest)

-- why a table cannot be read: the first of these that applies
abbrev pub read_fault : List ℕ → ℕ → ℕ → ℕ → Option PrdError
read_fault structure client_len at count =
    (if nat_lt (length structure) (at + 16 * count) || nat_lt 248 count then Some OutsideStructure else
    option_or (first_fault structure client_len at count) (if have_overlap (prds_at structure at count)
    then Some Overlap else None))

-- where the entries of a table end, whoever keeps it
abbrev pub ends_in : Ends → List ℕ
ends_in (Own ends) = ends.items
ends_in (Kept ends) = ends.now

-- what every table keeps: it lies in the structure area, its entries lie in the client area and do not
-- overlap, and where they end
pub record IsPrdTable (structure : List ℕ) (client_len at count : ℕ) (ends : List ℕ) : Type 0 where
  pub lies : at + 16 * count ≤ length structure
  pub few : count ≤ 248
  pub inside : AreInside client_len (prds_at structure at count)
  pub apart : AreApart (prds_at structure at count)
  pub sums : ends ≡ ends_from 0 (prds_at structure at count)

-- the two areas have the same bytes at these addresses: count of them, starting at at
abbrev pub AgreeFrom : ℕ → ℕ → List ℕ → List ℕ → Type 0
AgreeFrom at count s t = (i : ℕ) → i < count → slice_index s (at + i) ≡ slice_index t (at + i)

-- the two runs of bytes, each given by its address and length, have nothing in common
abbrev pub LieApart : ℕ → ℕ → ℕ → ℕ → Type 0
LieApart at count other others = (at + count ≤ other) ⊎ (other + others ≤ at)

-- a table that lies in both areas has the same refusal and the same entries
pub record SaysTheSame (client_len at count : ℕ) (s t : List ℕ) : Type 0 where
  pub refusal : read_fault s client_len at count ≡ read_fault t client_len at count
  pub entries : prds_at s at count ≡ prds_at t at count

-- What a table says depends on its own 16 bytes an entry, whatever the rest of the area holds. The length of
-- the area matters only for whether the table lies in it.
abbrev pub TablesAreOfTheirBytes : Type 0
TablesAreOfTheirBytes =
    (client_len at count : ℕ) (s t : List ℕ) → AgreeFrom at (16 * count) s t
    → ((at + 16 * count ≤ length s) ↔ (at + 16 * count ≤ length t)) → SaysTheSame client_len at count s t

-- so bytes that are written elsewhere change nothing that it says
abbrev pub TablesStay : Type 0
TablesStay =
    (client_len at count place : ℕ) (bytes s : List ℕ) → place + length bytes ≤ length s
    → LieApart at (16 * count) place (length bytes)
    → SaysTheSame client_len at count s (overwritten s place bytes)
