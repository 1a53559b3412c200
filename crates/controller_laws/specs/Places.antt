-- What is written to the guest, and where: AHCI 1.3.1, sections 4.2.1 (Received FIS Structure), 4.2.2 (PRDBC) and 4.2.3.3
-- (Physical Region Descriptor Table).
use Rattle.std.specs.Prelude.{◌≡◌, ◌<◌, ◌≤◌, ℕ, ◌+◌, Some}
use Rattle.guest_fetch.specs.{Commands.Fetched, Places.{place, room_at}, declared.{command.ByteCount.ByteCount, moves.Move.Move}}
use Rattle.ahci_controller.specs.{Next.{Turns, counted_slot}, States.{ControllerState, kept}, declared.{next.Next.Next, wants.Carried.Carried}}
use Rattle.ahci_controller.specs.declared.next.Next.TheVariants as next_step

-- ---- one write

-- The move brings the next bytes that are to be written. Each goes to the place that the command's table names for it, as it
-- was supplied, and none past the table's own.
pub record IsPlaced (c : ControllerState) (m : Move) : Type 0 where
  pub carried : Carried
  pub command : Fetched
  pub is : c.writes.payload ≡ Some carried
  pub kept_is : kept c carried.slot ≡ Some command
  pub from : m.from ≡ carried.from
  pub some : 0 < m.len
  pub inside : m.len ≤ room_at command.table carried.offset carried.len
  pub here : (i : ℕ) → i < m.len → m.at + i ≡ place command.table.entries (carried.offset + i)

-- PRDBC of a slot whose bytes were moved goes to DW1 of its command's header, as that was read
pub record IsCounted (c : ControllerState) (count : ByteCount) : Type 0 where
  pub slot : ℕ
  pub command : Fetched
  pub is : counted_slot c.writes ≡ Some slot
  pub kept_is : kept c slot ≡ Some command
  pub count_is : count ≡ record { at = command.at + 4; value = command.moved }

-- what is written to the guest is one of these, and nothing else is
abbrev pub IsWritten : ControllerState → Next → Type 0
IsWritten c (next_step.Payload m) = IsPlaced c m
IsWritten c (next_step.Posted m) = c.writes.posted ≡ Some m
IsWritten c (next_step.Counted count) = IsCounted c count
IsWritten c next = Unit {0}

abbrev pub WritesArePlaced : Type 0
WritesArePlaced = (old new : ControllerState) (next : Next) → Turns old next new → IsWritten old next
