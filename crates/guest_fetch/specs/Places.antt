-- Where the bytes of a command lie in a guest's memory: AHCI 1.3.1, section 4.2.3.3, Physical Region Descriptor Table.
-- The entries name runs of memory. The bytes of the command fill these one after another.
use Rattle.std.specs.Prelude.{◌≡◌, ℕ, ◌+◌, ◌-◌, ◌<◌, ◌≤◌, min, nat_lt, if◌then◌else◌, List, [], ◌∷◌, ◌++◌, length, take, drop, slice_get, Some}
use Rattle.guest_fetch.specs.declared.{moves.Move.Move, entry.Entry.Entry}

-- the table of a command as it was supplied, and how many bytes the command moves
pub record Places : Type 0 where
  pub entries : List Entry
  pub len : ℕ

-- the number of bytes that entries have
abbrev pub total_of : List Entry → ℕ
total_of [] = 0
total_of (e ∷ rest) = e.bytes + total_of rest

-- how many bytes of the command have a place: all of them, or as many as the table has
abbrev pub reach_of : Places → ℕ
reach_of table = min table.len (total_of table.entries)

-- The address of byte i of a command. If i is below the count of the first entry, the byte is in that entry;
-- otherwise it is byte i less this count of the rest. Past the end the address has no meaning.
abbrev pub place : List Entry → ℕ → ℕ
place [] i = 0
place (e ∷ rest) i = (if nat_lt i e.bytes then e.address + i else place rest (i - e.bytes))

-- a byte, and the address to which it goes
pub record Single : Type 0 where
  pub address : ℕ
  pub byte : ℕ

abbrev pub single : ℕ → ℕ → Single
single address byte = record { address = address; byte = byte }

-- these bytes one after another, from an address on
abbrev pub singles_from : ℕ → List ℕ → List Single
singles_from at [] = []
singles_from at (byte ∷ bytes) = single at byte ∷ singles_from (at + 1) bytes

-- the bytes that moves take out of a payload, each with the address to which it goes
abbrev pub singles : List ℕ → List Move → List Single
singles payload [] = []
singles payload (m ∷ rest) = singles_from m.at (take m.len (drop m.from payload)) ++ singles payload rest

-- these bytes of a command, from byte offset on, each at the place that the table names
abbrev pub named : List Entry → ℕ → List ℕ → List Single
named entries offset [] = []
named entries offset (byte ∷ bytes) = single (place entries offset) byte ∷ named entries (offset + 1) bytes

-- how many of len bytes from byte offset on have a place
abbrev pub room_at : Places → (offset len : ℕ) → ℕ
room_at table offset len = min len (reach_of table - offset)

-- Whatever the bytes of the payload are, the moves bring those that have a place there, in order, each once, and nothing
-- else.
abbrev pub Delivers : Places → (offset len : ℕ) → List Move → Type 0
Delivers table offset len moves = (payload : List ℕ) → length payload ≡ len
    → singles payload moves ≡ named table.entries offset (take (room_at table offset len) payload)

-- the address belongs to one of count bytes of the command, from byte offset on
pub record IsNamed (table : Places) (offset count at : ℕ) : Type 0 where
  pub byte : ℕ
  pub after : offset ≤ byte
  pub before : byte < offset + count
  pub inside : byte < reach_of table
  pub here : place table.entries byte ≡ at

-- So a byte from a device goes only to places that the command's table names, and none past the command's own bytes.
abbrev pub GoesOnlyToItsTable : Type 0
GoesOnlyToItsTable =
    (table : Places) (offset : ℕ) (payload : List ℕ) (moves : List Move)
    → Delivers table offset (length payload) moves
    → (k : ℕ) (s : Single) → slice_get (singles payload moves) k ≡ Some s
    → IsNamed table offset (length payload) s.address

-- Data one after another are moved as one: no byte of the command is left out between them, and none has two places.
abbrev pub DataAreOneTransfer : Type 0
DataAreOneTransfer =
    (table : Places) (offset : ℕ) (first second : List ℕ) (moves after : List Move)
    → Delivers table offset (length first) moves
    → Delivers table (offset + length first) (length second) after
    → singles first moves ++ singles second after
    ≡ named table.entries offset (take (room_at table offset (length first + length second)) (first ++ second))
