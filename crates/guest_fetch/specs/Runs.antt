-- One supply after another, and one Data FIS after another.
use Rattle.std.specs.Prelude.{◌≡◌, ℕ, ◌+◌, ◌/◌, min, List, [], ◌∷◌, ◌++◌, length}
use Rattle.guest_fetch.specs.declared.{command.Command.Command, entry.Entry.Entry, fetch.{Step.TheVariants.AtHeader, Supplied.Supplied}}
use Rattle.guest_fetch.specs.{declared.fetch.Supplied.TheVariants.{More, Whole, Refused, OutOfMemory}, Entries.{entries_at, reached}, Fetch.Fetching}
use Rattle.guest_fetch.specs.{Fetching.{supplied, want_of}, Headers.header_in, Heads.head_of, Places.{Places, reach_of, room_at}}

-- ---- supplies

-- The parts were supplied one after another, each as long as it was wanted, and with the last of them all of the command
-- had come. (A part for which memory was refused, and that was supplied again, stands once.)
abbrev pub Then : (Fetching → Type 0) → Command → List (List ℕ) → Supplied → Type 0
Then goes command rest (More f) = goes f
Then goes command rest (Whole whole) = (rest ≡ []) × (whole ≡ command)
Then goes command rest (Refused r) = ⊥
Then goes command rest (OutOfMemory f) = ⊥

abbrev pub Comes : Command → List (List ℕ) → Fetching → Type 0
Comes command [] f = ⊥
Comes command (raw ∷ rest) f = (length raw ≡ (want_of f).len) × Then (Comes command rest) command rest (supplied f raw)

-- the entries of parts, 16 bytes each
abbrev pub entries_of : List (List ℕ) → List Entry
entries_of [] = []
entries_of (raw ∷ rest) = entries_at raw 0 (length raw / 16) ++ entries_of rest

-- The command has the header and the FIS that were supplied, and of the entries that were supplied, one part after
-- another, those that its bytes reach. No byte of it was moved.
pub record IsSupplied (at : ℕ) (header fis : List ℕ) (parts : List (List ℕ)) (command : Command) : Type 0 where
  pub place : command.at ≡ at
  pub head : command.head ≡ head_of (header_in header) fis
  pub table : command.table
      ≡ record { entries = reached command.head.work.len (entries_of parts); len = command.head.work.len }
  pub moved : command.moved ≡ 0

-- So what was supplied is the command, and nothing else is in it.
abbrev pub CommandIsWhatWasSupplied : Type 0
CommandIsWhatWasSupplied =
    (at : ℕ) (header fis : List ℕ) (parts : List (List ℕ)) (command : Command)
    → Comes command (header ∷ fis ∷ parts) (record { at = at; step = AtHeader })
    → IsSupplied at header fis parts command

-- ---- Data

-- what a payload adds to the bytes that were moved
abbrev pub counted : Places → (moved offset len : ℕ) → ℕ
counted table moved offset len = min (reach_of table) (moved + room_at table offset len)

-- what payloads of these lengths add, each from the byte on at which the one before it ended
abbrev pub counted_all : Places → (moved offset : ℕ) → List ℕ → ℕ
counted_all table moved offset [] = moved
counted_all table moved offset (len ∷ rest) = counted_all table (counted table moved offset len) (offset + len) rest

abbrev pub sum_of : List ℕ → ℕ
sum_of [] = 0
sum_of (len ∷ rest) = len + sum_of rest

-- So after all Data of a command, one after another from its first byte on, PRDBC is the number of their bytes, but for
-- those that have no place.
abbrev pub CountIsOfBytes : Type 0
CountIsOfBytes = (table : Places) (lens : List ℕ) → counted_all table 0 0 lens ≡ min (reach_of table) (sum_of lens)
