-- Where a read's bytes stand when it is done. They stand in the client memory of a world's host, each
-- at its place, and are the disk's sectors (ACS-3, READ FPDMA QUEUED; AHCI 1.3.1, 4.2.3.3, Physical
-- Region Descriptor Table). What a host delivers is cited from `hba_driver` (specs/Delivered.antt).
use Rattle.std.specs.Prelude.{ℕ, ◌≡◌, ◌-◌, ◌<◌, ◌≤◌, List, length, Some, slice_get, slice_index}
use Rattle.host_memory.specs.{Memory.{Memory, client_start}, Place.{LiesInClient, place}}
use Rattle.disk_model.specs.{Chunks.sectors_at, Ledger.{Ledger, ReadOut, medium_with}}
use Rattle.hba_laws.specs.History.{Transfer}
use Rattle.disk_simulation.specs.Same.{SlotCommand}

-- byte i of these stands in client memory, where the PRDs of the transfer say
pub record StandsThere (bytes : List ℕ) (t : Transfer) (memory : Memory) (i : ℕ) : Type 0 where
  pub inside : LiesInClient (length memory.client) (place t.table i) 1
  pub is : slice_get bytes i ≡ Some (slice_index memory.client (place t.table i - client_start))

-- Client memory has the sectors of a read, as they were when the disk started it.
pub record IsBrought (sectors : ℕ) (c : SlotCommand) (t : Transfer) (memory : Memory) (given : Ledger)
    : Type 0 where
  pub at : ℕ
  pub read : ReadOut
  pub ended : slice_get given.reads at ≡ Some read
  pub command : read.command ≡ c.command
  pub since : c.since ≤ length read.before
  pub stands : (i : ℕ) → i < t.work.len
      → StandsThere (sectors_at (medium_with sectors read.before) c.command.lba c.command.count)
      t memory i
