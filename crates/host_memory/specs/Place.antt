-- Where the bytes of a transfer lie: AHCI 1.3.1, section 4.2.3.3, Physical Region Descriptor Table. The
-- entries of a table name runs of memory. The bytes of the transfer fill them in order, one after another.
use Rattle.std.specs.Prelude.{◌≡◌, ◌≢◌, ℕ, ◌+◌, ◌-◌, ◌<◌, ◌≤◌, ◌↔◌, ◌==◌, nat_lt, if◌then◌else◌, List, [], ◌∷◌, slice_get, slice_index, slice_set}
use Rattle.std.specs.Prelude.{length, Some}
use Rattle.host_memory.specs.{declared.table.Prd.Prd, Memory.client_start}

-- the length of a transfer: the sum of the entries' byte counts
abbrev pub total_of : List Prd → ℕ
total_of [] = 0
total_of (prd ∷ rest) = prd.bytes + total_of rest

-- The address of byte i of a transfer: in the first entry where i is below its count, otherwise that of byte
-- i less this count in the rest. Past the end its value has no meaning.
abbrev pub place : List Prd → ℕ → ℕ
place [] i = 0
place (prd ∷ rest) i = (if nat_lt i prd.bytes then prd.address + i else place rest (i - prd.bytes))

-- this many bytes, starting at this address, all lie in a client area of client_len bytes
abbrev pub LiesInClient : ℕ → ℕ → ℕ → Type 0
LiesInClient client_len address count =
    (client_start ≤ address) × (address + count ≤ client_start + client_len)

-- each entry lies in the client area
abbrev pub AreInside : ℕ → List Prd → Type 0
AreInside client_len [] = Unit {0}
AreInside client_len (prd ∷ rest) = LiesInClient client_len prd.address prd.bytes × AreInside client_len rest

-- the address is one of the entry's bytes
abbrev pub IsByteOf : Prd → ℕ → Type 0
IsByteOf prd at = (prd.address ≤ at) × (at < prd.address + prd.bytes)

-- both entries have some byte in common
pub record ShareByte (p q : Prd) : Type 0 where
  pub at : ℕ
  pub of_first : IsByteOf p at
  pub of_second : IsByteOf q at

-- two entries of the table share a byte
pub record HaveOverlap (prds : List Prd) : Type 0 where
  pub i : ℕ
  pub j : ℕ
  pub p : Prd
  pub q : Prd
  pub in_order : i < j
  pub first : slice_get prds i ≡ Some p
  pub second : slice_get prds j ≡ Some q
  pub shared : ShareByte p q

-- no two entries share a byte
abbrev pub AreApart : List Prd → Type 0
AreApart prds = ¬ HaveOverlap prds

-- The bytes are written to the places of the transfer's bytes from offset on, in a client area that begins at
-- client_start. Every other byte stays, and so does the length of the area.
pub record Scatters (prds : List Prd) (offset : ℕ) (bytes old new : List ℕ) : Type 0 where
  pub written : (k : ℕ) → k < length bytes → slice_index new (place prds (offset + k) - client_start)
      ≡ slice_index bytes k
  pub others : (at : ℕ) → ((k : ℕ) → k < length bytes → place prds (offset + k) ≢ client_start + at)
      → slice_index new at ≡ slice_index old at
  pub as_long : length new ≡ length old

-- the client area after the bytes are written one at a time, each at the place of its byte of the transfer
abbrev pub one_by_one : List Prd → ℕ → List ℕ → List ℕ → List ℕ
one_by_one prds offset [] client = client
one_by_one prds offset (byte ∷ bytes) client =
    one_by_one prds (offset + 1) bytes (slice_set client (place prds offset - client_start) byte)

-- the same for memory as a function of addresses: these bytes at their places, and every other byte as it was
abbrev pub written : List Prd → ℕ → List ℕ → (ℕ → ℕ) → ℕ → ℕ
written prds offset [] old at = old at
written prds offset (byte ∷ bytes) old at =
    (if at == place prds offset then byte else written prds (offset + 1) bytes old at)

-- For a sound table and a run that fits, a scatter leaves exactly what single writes leave, one after
-- another: as a list, and as a function of addresses.
abbrev pub ScattersOneByOne : Type 0
ScattersOneByOne =
    (prds : List Prd) (offset : ℕ) (bytes old new : List ℕ) → AreInside (length old) prds → AreApart prds
    → offset + length bytes ≤ total_of prds
    → Scatters prds offset bytes old new ↔ (new ≡ one_by_one prds offset bytes old)

abbrev pub ScattersAtPlaces : Type 0
ScattersAtPlaces =
    (prds : List Prd) (offset : ℕ) (bytes old new : List ℕ) (before : ℕ → ℕ) → AreInside (length old) prds
    → AreApart prds → offset + length bytes ≤ total_of prds
    → Scatters prds offset bytes old new
    → ((k : ℕ) → k < length old → slice_index old k ≡ before (client_start + k))
    → (k : ℕ) → k < length old → slice_index new k ≡ written prds offset bytes before (client_start + k)

-- a byte of one transfer and a byte of the other have the same place
pub record ShareAPlace (prds others : List Prd) : Type 0 where
  pub i : ℕ
  pub j : ℕ
  pub below : i < total_of prds
  pub below_other : j < total_of others
  pub one_place : place prds i ≡ place others j

-- each byte of a transfer has a place of its own in the client area
pub record HasOwnPlaces (client_len : ℕ) (prds : List Prd) : Type 0 where
  pub inside : (i : ℕ) → i < total_of prds → LiesInClient client_len (place prds i) 1
  pub own : (i j : ℕ) → i < total_of prds → j < total_of prds → i ≢ j → place prds i ≢ place prds j

-- what a caller sees of a table: its entries, and the length of the client area that they lie in
pub record Table : Type 0 where
  pub prds : List Prd
  pub client_len : ℕ
