-- The structure area over a run (AHCI 1.3.1, section 4.2), and what the PRD tables in it say (4.2.3.3).
use Rattle.std.specs.Prelude.{ℕ, ◌≡◌, ◌+◌, ◌*◌, ◌==◌, Bool, true, false, not, List, [], ◌∷◌, Option, Some}
use Rattle.hba_commands.specs.{Commands.command_at, declared.command.Command.Command}
use Rattle.host_memory.specs.{Memory.Memory, Reading.{AgreeFrom, LieApart}}
use Rattle.slots.specs.Slots.{DeviceSlots}
use Rattle.hba_fbs.specs.{Registers.written, Tables.{is_readable, prds_of, sound_command}, Views.last_command}
use Rattle.hba_laws.specs.{Hosts.{Host, HostEvent, Runs, Stored, Wrote}, Sound.AreHosts}

-- ---- what changes an area

-- the write moves the received area
abbrev pub moves_area : Host → HostEvent → Bool
moves_area host (Wrote register value) =
    not ((written register host.port.registers value).fb == host.port.registers.fb)
moves_area host event = false

-- the software leaves these bytes of the structure area as they are: this many, starting at this address
abbrev pub SparesBytes : (at count : ℕ) → Host → HostEvent → Type 0
SparesBytes at count host (Stored structure) = AgreeFrom at count host.memory.structure structure
SparesBytes at count host event = Unit {0}

-- the same over a run, in which the received area does not move
abbrev pub Spares : (at count : ℕ) (old new : Host) (events : List HostEvent) → Runs old events new
    → Type 0
Spares at count old new [] run = Unit {0}
Spares at count old new (event ∷ events) run =
    (moves_area old event ≡ false) × SparesBytes at count old event
    × Spares at count run.0 new events run.2

-- the bytes lie apart from the received area, which has 4 KiB, and a run leaves them as they are
pub record KeepsApart (at count : ℕ) (old : Host) (events : List HostEvent) (new : Host) : Type 0 where
  pub run : Runs old events new
  pub hosts : AreHosts old new events run
  pub apart : LieApart at count old.port.registers.fb 4096
  pub spares : Spares at count old new events run

-- the same for the PRDs of a command, which begin at byte 80h of its table
abbrev pub KeepsTable : Command → Host → List HostEvent → Host → Type 0
KeepsTable command old events new =
    KeepsApart (command.table + 128) (16 * command.count) old events new

-- ---- the laws

-- Such bytes are the same at the end of a run as at its start, whatever the devices send and whatever else
-- happens.
abbrev pub BytesStay : Type 0
BytesStay =
    (at count : ℕ) (old new : Host) (events : List HostEvent) → KeepsApart at count old events new
    → AgreeFrom at count old.memory.structure new.memory.structure

-- Both memories say the same of a command: which PRDs it has, and whether they can be read with a given
-- total. So they agree on whether Data of a slot with this command can be written.
pub record SayTheSame (command : Command) (old new : Memory) : Type 0 where
  pub entries : prds_of new command ≡ prds_of old command
  pub readable : (len : ℕ) → is_readable new len command ≡ is_readable old len command
  pub sound : (commands : List (Option Command)) (own : DeviceSlots) (slot : ℕ)
      → last_command commands slot ≡ Some command
      → sound_command new commands own slot ≡ sound_command old commands own slot

-- So if the PRDs of a command are such bytes, the memories say the same of it.
abbrev pub TablesStay : Type 0
TablesStay =
    (command : Command) (old new : Host) (events : List HostEvent)
    → KeepsTable command old events new
    → SayTheSame command old.memory new.memory

-- And if the command was issued at the start, its PRDs can be read, and have its bytes.
abbrev pub IssuedStayReadable : Type 0
IssuedStayReadable =
    (command : Command) (old new : Host) (events : List HostEvent)
    → KeepsTable command old events new
    → (clb slot : ℕ) (armed : Bool) → command_at old.memory clb slot armed ≡ Some command
    → is_readable new.memory command.work.len command ≡ true
