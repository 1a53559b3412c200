-- The controller and a disk read the same count out of the FIS of a command: of a command that moves sectors a slot moves as many bytes as these
-- sectors have (ACS-3, 4.1 and 7, Count and Features; AHCI 1.3.1, 4.2.3.1, CFIS; Serial ATA 3.x, 10.5, Register Host to Device, and 13.6).
use Rattle.std.specs.Prelude.{ℕ, ◌≡◌, true, false, not, List}
use Rattle.fis_view.specs.Frames.{marked}
use Rattle.slots.specs.Work.{is_read}
use Rattle.guest_fetch.specs.Heads.{asked_work, fields_in}
use Rattle.ata_command.specs.declared.asked.Asked.TheVariants as ask
use Rattle.ata_command.specs.declared.asked.Move.{Move}
use Rattle.block_command.specs.{Moments.{is_verify, whole}, declared.command.Command.Command}
use Rattle.sata_disk.specs.{Hearing.asked_of, State.DiskState}
use Rattle.machine_theorem.specs.InTurn.{is_asking}

-- the controller moves as many bytes for the FIS, and the same way
pub record IsCountedAlike (fis : List ℕ) (c : Command) : Type 0 where
  pub len : (asked_work (fields_in fis)).len ≡ whole c
  pub way : is_read (asked_work (fields_in fis)).kind ≡ not c.write

-- So it is of each command that moves sectors, queued or not, but READ VERIFY SECTOR(S), whose sectors stay at the disk: of its FIS, as the disk
-- hears it.
abbrev pub CommandsAreCountedAlike : Type 0
CommandsAreCountedAlike = (d : DiskState) (fis : List ℕ) → is_asking (marked fis 0) ≡ true
    → (move : Move) → asked_of d (marked fis 0) ≡ ask.Moves move → is_verify move.command.protocol ≡ false → IsCountedAlike fis move.command
