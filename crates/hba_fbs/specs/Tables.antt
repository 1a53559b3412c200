-- The PRD tables of issued commands (AHCI 1.3.1, 4.2.3.3), as they are when a Data FIS comes or goes: they say where its bytes
-- lie.
use Rattle.std.specs.Prelude.{ℕ, ◌≡◌, ◌+◌, ◌==◌, ◌&&◌, Bool, false, true, List, length, Option, Some, None, is_none, is_some, if◌then◌else◌}
use Rattle.std.specs.Prelude.{MatchOption}
use Rattle.host_memory.specs.{Memory.Memory, Place.{Scatters, Table, total_of}, Reading.{prds_at, read_fault}, declared.table.Prd.Prd}
use Rattle.hba_commands.specs.declared.command.Command.{Command}
use Rattle.slots.specs.{Slots.{DeviceSlots, context_of, issue_at, match_some, own_issue}, Data.receiving_slot, declared.table.Context.Context}
use Rattle.hba_fbs.specs.{declared.{report.Wrote.Wrote, tables.Receiving.Receiving}, Views.{Port, last_command}}

-- the PRDs of a command as they are now, from byte 80h of its table on
abbrev pub prds_of : Memory → Command → List Prd
prds_of memory command = prds_at memory.structure (command.table + 0x80) command.count

-- the memory with these two areas
abbrev pub areas : List ℕ → List ℕ → Memory
areas structure client = record { structure = structure; client = client }

-- the PRD table of a command as it is now
abbrev pub table_of : Memory → Command → Table
table_of memory command = record { prds = prds_of memory command; client_len = length memory.client }

-- there is a command, and this is its PRD table
abbrev pub IsTableOf : Memory → Option Command → Table → Type 0
IsTableOf memory command table = MatchOption command ⊥ (λ c. table ≡ table_of memory c)

-- the PRDs of a command can be read and have len bytes in all
abbrev pub is_readable : Memory → ℕ → Command → Bool
is_readable memory len command =
    is_none (read_fault memory.structure (length memory.client) (command.table + 0x80) command.count)
    && (total_of (prds_of memory command) == len)

-- the command of a device's slot, if its PRDs can be read and have the slot's bytes
abbrev pub sound_command : Memory → List (Option Command) → DeviceSlots → ℕ → Option Command
sound_command memory commands own slot =
    match_some (own_issue own slot) None (λ issue.
    match_some (last_command commands slot) None (λ command. if is_readable memory issue.work.len command
    then Some command else None))

-- the PRD table can be used, for the slot for which the device sends Data
abbrev pub is_sound : Memory → List (Option Command) → DeviceSlots → Bool
is_sound memory commands own =
    is_some (match_some (receiving_slot own.context) None (sound_command memory commands own))

-- This is the PRD table of the command of the slot for which a device sends Data: it can be read, and has the slot's
-- bytes.
pub record IsReceiving (memory : Memory) (port : Port) (dev : ℕ) (found : Receiving) : Type 0 where
  pub slot : receiving_slot (context_of port.slots dev) ≡ Some found.slot
  pub command : MatchOption (last_command port.commands found.slot) ⊥ (λ command.
      prds_at memory.structure found.at found.count ≡ prds_of memory command)
  pub sized : MatchOption (issue_at port.slots found.slot) ⊥ (λ issue.
      total_of (prds_at memory.structure found.at found.count) ≡ issue.work.len)
  pub readable : is_none (read_fault memory.structure (length memory.client) found.at found.count) ≡ true

-- a payload is written to the places of its slot's bytes, or nothing is written
abbrev pub Delivers : Memory → List (Option Command) → List ℕ → Option Wrote → List ℕ → Type 0
Delivers memory commands payload None new = new ≡ memory.client
Delivers memory commands payload (Some wrote) new =
    MatchOption (last_command commands wrote.slot) ⊥ (λ command.
    Scatters (prds_of memory command) wrote.offset payload memory.client new)

-- count bytes are all that is left of the setup
abbrev pub are_last : Option Context → ℕ → Bool
are_last None count = false
are_last (Some c) count = c.left == count
