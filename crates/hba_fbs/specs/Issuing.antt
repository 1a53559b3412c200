-- The commands that a write of PxCI issues: AHCI 1.3.1, sections 3.3.14 and 4.2.2.
use Rattle.std.specs.Prelude.{ℕ, ◌==◌, ◌&&◌, Bool, not, if◌then◌else◌, List, length, map, Option, Some, None, is_some, is_none, slice_index_or}
use Rattle.std.specs.{Prelude.slice_set, List.range_with_len, Option.option_or}
use Rattle.host_memory.specs.Memory.{Memory}
use Rattle.slots.specs.{Slots.{DeviceSlots, Issue, Slots, has_bit, holds, issue_at, lowest, match_some, new_issue}, Commands.after_issue}
use Rattle.hba_commands.specs.{Commands.command_at, Headers.header_at, declared.command.Command.Command}
use Rattle.hba_fbs.specs.{declared.registers.Registers.Registers, Views.{DeviceView, last_command}}

-- some slot whose bit is set passes the test
abbrev pub any_slot : ℕ → (ℕ → Bool) → Bool
any_slot value test = is_some (lowest (λ slot. has_bit value slot && test slot))

-- a command is issued in the slot
abbrev pub is_busy : Slots → ℕ → Bool
is_busy slots slot = is_some (issue_at slots slot)

-- the device that its header names: PMP
abbrev pub named_in : Registers → (structure : List ℕ) → (slot : ℕ) → ℕ
named_in r structure slot = (header_at structure r.clb slot).pmp

-- its header names a device other than this one
abbrev pub names_other : Registers → (structure : List ℕ) → (dev slot : ℕ) → Bool
names_other r structure dev slot = not (named_in r structure slot == dev)

-- its header names a device other than PxFBS.DEV
abbrev pub is_foreign : Registers → List ℕ → ℕ → Bool
is_foreign r structure slot = names_other r structure r.chosen slot

-- a command is issued in it for a device other than this one
abbrev pub is_beside : Slots → (dev slot : ℕ) → Bool
is_beside slots dev slot = holds (λ issue. not (issue.dev == dev)) (issue_at slots slot)

-- such a command is issued in some slot
abbrev pub any_beside : Slots → ℕ → Bool
any_beside slots dev = is_some (lowest (is_beside slots dev))

-- its header or its command table is bad
abbrev pub is_bad : Registers → Memory → ℕ → Bool
is_bad r memory slot = is_none (command_at memory r.clb slot (has_bit r.armed slot))

-- the command to issue in a slot, if the slot's bit is set: the one that memory has there now
abbrev pub asked : Registers → Memory → ℕ → ℕ → Option Command
asked r memory value slot =
    if has_bit value slot then command_at memory r.clb slot (has_bit r.armed slot) else None

-- what is issued in a slot after this command, if there is one
abbrev pub issue_with : ℕ → Option Command → Option Issue → Option Issue
issue_with dev None old = old
issue_with dev (Some command) old = Some (new_issue dev command.work)

-- the device's slots after this command, if there is one, is issued in one of them
abbrev pub slots_after : ℕ → ℕ → Option Command → DeviceSlots → DeviceSlots
slots_after dev slot None own = own
slots_after dev slot (Some command) own = after_issue own slot dev command.work

-- the commands by slot, with this one
abbrev pub with_command : ℕ → Option Command → List (Option Command) → List (Option Command)
with_command slot None commands = commands
with_command slot (Some command) commands = slice_set commands slot (Some command)

-- the issues of a device with these commands, each in its slot
unfoldable pub issues_with : ℕ → (ℕ → Option Command) → List (Option Issue) → List (Option Issue)
issues_with dev commands issues = map (λ slot. issue_with dev (commands slot)
    (slice_index_or issues slot None)) (range_with_len 0 (length issues))

abbrev pub issued_slots : ℕ → (ℕ → Option Command) → DeviceSlots → DeviceSlots
issued_slots dev commands own = record own { issues = issues_with dev commands own.issues }

-- the view of a device with them
abbrev pub view_with : ℕ → (ℕ → Option Command) → DeviceView → DeviceView
view_with dev commands view = record view { slots = issued_slots dev commands view.slots }

-- the last commands of the slots, with these
unfoldable pub commands_with : (ℕ → Option Command) → List (Option Command) → List (Option Command)
commands_with commands old =
    map (λ slot. option_or (commands slot) (last_command old slot)) (range_with_len 0 (length old))

-- ---- what a write of PxCI issues

-- without FIS-based switching, the device in the header of the lowest of these slots
abbrev pub first_named : Registers → (structure : List ℕ) → (value : ℕ) → ℕ
first_named r structure value = match_some (lowest (has_bit value)) r.chosen (named_in r structure)

-- The device for which it issues: with FIS-based switching (AHCI 1.3.1, 9.3) the one in PxFBS.DEV. With
-- command-based switching (9.2) the headers alone name it.
abbrev pub aimed : Registers → (structure : List ℕ) → (value : ℕ) → ℕ
aimed r structure value = if r.switching then r.chosen else first_named r structure value

-- only the slots of that device's view change
abbrev pub view_issued : Registers → Memory → ℕ → DeviceView → DeviceView
view_issued r memory value view =
    view_with (aimed r memory.structure value) (asked r memory value) view

abbrev pub commands_issued : Registers → Memory → ℕ → List (Option Command) → List (Option Command)
commands_issued r memory value old = commands_with (asked r memory value) old
