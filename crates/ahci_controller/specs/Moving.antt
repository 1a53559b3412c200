-- Bytes of a command were moved, in either direction: AHCI 1.3.1, sections 4.2.2 (PRDBC) and 3.3.5 (PxIS.DPS).
use Rattle.std.specs.Prelude.{ℕ, ◌+◌, ◌^◌, nat_lt, if◌then◌else◌, bit_or, List, Option, Some, None, slice_set}
use Rattle.guest_fetch.specs.{Commands.Fetched, Moves.completes, Places.room_at, Runs.counted, declared.command.ByteCount.ByteCount}
use Rattle.hba_fbs.specs.declared.{report.Wrote.Wrote, turn.Turn.{Turn, TheVariants.{Rests, Feeds, Orders}}}
use Rattle.slots.specs.Slots.{match_some}
use Rattle.ahci_controller.specs.States.{ControllerState, kept}

-- the command whose bytes these are
abbrev pub command_of : ControllerState → Wrote → Option Fetched
command_of c w = if nat_lt w.slot 32 then kept c w.slot else None

-- ---- PRDBC: how many bytes of a command were moved

-- these count as well
abbrev pub moved_on : Wrote → Fetched → Fetched
moved_on w command = record command { moved = counted command.table command.moved w.offset w.len }

-- DW1 of its header
abbrev pub count_of : Fetched → ByteCount
count_of command = record { at = command.at + 4; value = command.moved }

abbrev pub counts_for : ControllerState → Wrote → List (Option Fetched)
counts_for c w = match_some (command_of c w) c.commands (λ command. slice_set c.commands w.slot (Some (moved_on w command)))

abbrev pub commands_after : ControllerState → Option Wrote → List (Option Fetched)
commands_after c None = c.commands
commands_after c (Some w) = counts_for c w

-- the slots whose PRDBC is to be written
abbrev pub tells_of : ControllerState → Wrote → ℕ
tells_of c w = match_some (command_of c w) c.writes.counted (λ command. bit_or c.writes.counted (2 ^ w.slot))

abbrev pub counted_after : ControllerState → Option Wrote → ℕ
counted_after c None = c.writes.counted
counted_after c (Some w) = tells_of c w

-- the bytes count, and PRDBC is to be written
abbrev pub moved : ControllerState → Option Wrote → ControllerState
moved c wrote = record c {
  commands = commands_after c wrote;
  writes = record c.writes { counted = counted_after c wrote };
}

-- ---- DPS

-- Descriptor Processed
abbrev pub dps : ℕ
dps = 2 ^ 5

-- the last byte of an entry with I is among these
abbrev pub processed_in : Wrote → Fetched → ℕ
processed_in w command =
    if completes command.table.entries w.offset (room_at command.table w.offset w.len) then dps else 0

abbrev pub processed_by : ControllerState → Option Wrote → ℕ
processed_by c None = 0
processed_by c (Some w) = match_some (command_of c w) 0 (processed_in w)

-- ---- Data to a device

-- the bytes that go
abbrev pub sent_by : Turn → Option Wrote
sent_by Rests = None
sent_by (Feeds dev slot offset len) = Some (record { slot = slot; offset = offset; len = len })
sent_by (Orders dev slot command) = None
