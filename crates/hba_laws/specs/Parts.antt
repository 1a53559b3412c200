-- What belongs to one device of a host: AHCI 1.3.1, chapter 9 (FIS-based Switching) and section
-- 4.2.1 (its row of the received area).
use Rattle.std.specs.Prelude.{ℕ, Bool, if◌then◌else◌, List, Option, Some, None, is_some}
use Rattle.hba_commands.specs.declared.command.Command.{Command}
use Rattle.rx_area.specs.Area.{row_of}
use Rattle.slots.specs.Slots.{DeviceSlots, own_issue}
use Rattle.hba_fbs.specs.{Posting.area_at, Views.{DeviceView, last_command, view_of}}
use Rattle.hba_laws.specs.Hosts.{Host}

-- a device's view, the commands of its slots and its row of the received area
pub record DevicePart : Type 0 where
  pub view : DeviceView
  -- by slot: the command issued there for the device, None where there is none
  pub commands : ℕ → Option Command
  -- without FIS-based switching no row is its own
  pub row : Option (List ℕ)

-- the commands of those slots in which something of the device is issued
abbrev pub commands_of : DeviceSlots → (ℕ → Option Command) → ℕ → Option Command
commands_of own commands slot = if is_some (own_issue own slot) then commands slot else None

abbrev pub own_row : (switching : Bool) → (fb : ℕ) → (structure : List ℕ) → ℕ → Option (List ℕ)
own_row switching fb structure n = if switching then Some (row_of (area_at structure fb) n) else None

abbrev pub part_of : ℕ → Host → DevicePart
part_of n host = record {
  view = view_of n host.port;
  commands = commands_of (view_of n host.port).slots (last_command host.port.commands);
  row = own_row host.port.registers.switching host.port.registers.fb host.memory.structure n;
}

-- the part with another view; it no longer has the commands of slots that became free
abbrev pub with_view : DevicePart → DeviceView → DevicePart
with_view part view = record part { view = view; commands = commands_of view.slots part.commands }
