-- What is left to do where a machine is at rest, and who is to do it: a disk with a command under way waits for its host, or for the caller
-- (Serial ATA 3.x, 13.6, native command queuing; ACS-3, 4, protocols).
use Rattle.std.specs.Prelude.{◌≡◌, ◌<◌, ◌≤◌, ◌^◌, ℕ, true, false}
use Rattle.block_disk.specs.Table.{is_under_way}
use Rattle.block_engine.specs.Engine.{discards}
use Rattle.block_queue.specs.Line.{command_at}
use Rattle.fan_out.specs.FanOuts.{port_count, wants_at}
use Rattle.sata_disk.specs.State.{DiskState, commands}
use Rattle.sata_disk_laws.specs.Laws.{Owed}
use Rattle.ahci_machine.specs.{Resting.IsAtRest, States.{MachineState, bay_at}, declared.bay.Unit.TheVariants.Disk}
use Rattle.machine_laws.specs.Disks.{AreReached}

pub data WaitsFor (m : MachineState) (port : ℕ) (d : DiskState) : Type 0 where
  -- its link: it is not plugged in, or the FIS that it sent last is still there
  Room : wants_at m.fan port ≡ false → WaitsFor m port d
  -- the caller's answer to a discard
  Discarded : discards d.engine ≡ true → WaitsFor m port d
  -- the caller's answer to another request, or to a store that a reset dropped; or Data of the host
  Others : Owed (commands d) → WaitsFor m port d
  -- for nothing any more: it asked 2^63 requests
  Numbers : 2 ^ 63 ≤ (commands d).queue.next → WaitsFor m port d

-- Where no move is left, each command that is under way at a disk waits for one of these.
abbrev pub RestIsOwed : Type 0
RestIsOwed = (m : MachineState) → IsAtRest m → AreReached m → (port : ℕ) (d : DiskState) → port < port_count m.fan
    → (bay_at m port).unit ≡ Disk d → (place : ℕ) → place < 33 → is_under_way (command_at (commands d) place) ≡ true → WaitsFor m port d
