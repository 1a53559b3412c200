-- When software leaves the PRD tables of issued commands unchanged (AHCI 1.3.1, 4.2.3.3, PRD tables, and 5.5,
-- how commands are issued).
use Rattle.std.specs.Prelude.{ℕ, ◌≡◌, ◌+◌, ◌*◌, true, false, List, [], ◌∷◌, Some, is_some}
use Rattle.host_memory.specs.Reading.{LieApart}
use Rattle.hba_commands.specs.declared.command.Command.{Command}
use Rattle.slots.specs.Slots.{issue_at}
use Rattle.hba_fbs.specs.Views.{last_command}
use Rattle.hba_laws.specs.{Delivering.AreSpared, Hosts.{Host, HostEvent, Runs}, Sound.AreHosts, Tables.{SparesBytes, moves_area}}

-- the PRDs of a command lie apart from the received area, and the software does not write them
pub record KeepsPrds (command : Command) (host : Host) (event : HostEvent) : Type 0 where
  pub apart : LieApart (command.table + 128) (16 * command.count) host.port.registers.fb 4096
  pub spares : SparesBytes (command.table + 128) (16 * command.count) host event

-- this holds for each issued command, and the received area does not move
pub record KeepsTables (host : Host) (event : HostEvent) : Type 0 where
  pub area : moves_area host event ≡ false
  pub commands : (s : ℕ) (command : Command) → is_some (issue_at host.port.slots s) ≡ true
      → last_command host.port.commands s ≡ Some command → KeepsPrds command host event

-- over each event of a run
abbrev pub AreKeptTables : (old new : Host) → (events : List HostEvent) → Runs old events new → Type 0
AreKeptTables old new [] run = Unit {0}
AreKeptTables old new (event ∷ events) run = KeepsTables old event × AreKeptTables run.0 new events run.2

-- Then the PRDs of each command stay unchanged while it is issued, whatever devices send.
abbrev pub KeptTablesStay : Type 0
KeptTablesStay =
    (old new : Host) (events : List HostEvent) (run : Runs old events new)
    → AreHosts old new events run → AreKeptTables old new events run → AreSpared old new events run
