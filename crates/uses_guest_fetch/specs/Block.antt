-- Memory in one block, from address 0 on, as a guest that writes nothing has it.
use Rattle.std.specs.Prelude.{◌≡◌, ℕ, ◌+◌, ◌≤◌, List, length, take, drop, slice_index}
use Rattle.guest_fetch.specs.{declared.{fetch.Supplied.{Supplied, TheVariants.{More, Whole, Refused, OutOfMemory}}, want.Want.Want}, Reading.Guest}
use Rattle.guest_fetch.specs.Reading.{command_at}

-- the bytes that are wanted
pub record IsPart (memory : List ℕ) (want : Want) (bytes : List ℕ) : Type 0 where
  pub long : length bytes ≡ want.len
  pub lies : want.at + want.len ≤ length memory
  pub is : bytes ≡ take want.len (drop want.at memory)

abbrev pub guest_of : List ℕ → Guest
guest_of memory = record {
  header = slice_index memory;
  fis = slice_index memory;
  entries = slice_index memory;
}

-- unless memory for entries was refused, the answer is that of all that lies there
abbrev pub IsFetched : List ℕ → ℕ → Supplied → Type 0
IsFetched memory at (OutOfMemory f) = Unit {0}
IsFetched memory at (More f) = More f ≡ command_at (guest_of memory) at
IsFetched memory at (Whole command) = Whole command ≡ command_at (guest_of memory) at
IsFetched memory at (Refused r) = Refused r ≡ command_at (guest_of memory) at
