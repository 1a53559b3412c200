-- Where the bytes of a Data FIS come from that a device sends: of a disk the sectors of a command, as the caller gave them, or a page that
-- the disk has of itself; or a device of the caller's own (Serial ATA 3.x, 10.5, Data; ACS-3, 7, the commands that move data).
use Rattle.std.specs.{Prelude.{◌≡◌, ◌⊎◌, ℕ, true, List, [], ◌∷◌, drop, Some}, List.Contains}
use Rattle.fis_view.specs.Frames.{Stamped}
use Rattle.ata_front.specs.declared.task.Page as own
use Rattle.block_disk.specs.Laws.{Page}
use Rattle.disk_pages.specs.declared.profile.Profile.{Profile}
use Rattle.sata_disk.specs.{Pages.IsPage, State.{DiskState, new_disk}}
use Rattle.sata_disk.specs.declared.out.Out.TheVariants as out
use Rattle.sata_disk_books.specs.Books.{AreNext, IsAskedFor, page_in}
use Rattle.sata_disk_laws.specs.{Calls.{AreCalls, Call}, Laws.reached}
use Rattle.ahci_machine.specs.{States.{MachineState, bay_at}, declared.bay.Unit.TheVariants.Disk}
use Rattle.ahci_machine.specs.declared.act.Act.TheVariants as act
use Rattle.machine_laws.specs.{ControllerLaws.RunsRuled, Deeds.{Deed, Does, Moved, FrameOffered}, Rising.{is_multiplier, sent_by}}

-- By these calls of a new disk: its host asked for the command that was taken last at a place, and the bytes are the next ones of those that
-- the caller gave for the sectors of this command.
pub record AreOfCommand (p : Profile) (limit : ℕ) (calls : List Call) (place : ℕ) (bytes : List ℕ) : Type 0 where
  pub page : Page
  pub is : page_in p limit calls place ≡ Some page
  pub asked : IsAskedFor p limit calls page.command
  pub next : AreNext page.ledger bytes

-- The disk at a port sends such bytes, whatever the calls are by which it came to be as it is.
pub record AreSectors (m : MachineState) (n place : ℕ) (bytes : List ℕ) : Type 0 where
  pub disk : DiskState
  pub there : (bay_at m n).unit ≡ Disk disk
  pub given : (p : Profile) (limit : ℕ) (calls : List Call) → AreCalls (new_disk p limit) calls → disk ≡ reached p limit calls
      → AreOfCommand p limit calls place bytes

-- It sends IDENTIFY data, a log or SMART data.
pub record AreOwnPage (m : MachineState) (n : ℕ) (page : own.Page) (bytes : List ℕ) : Type 0 where
  pub disk : DiskState
  pub there : (bay_at m n).unit ≡ Disk disk
  pub is : IsPage disk.profile disk.front page bytes

-- what the bytes are of the Data FIS that a device sends by a deed
abbrev pub Origin : MachineState → Deed → List ℕ → Type 0
Origin m (Moved (act.Speaks n (out.Data place len))) bytes = AreSectors m n place bytes
Origin m (Moved (act.Speaks n (out.Page page))) bytes = AreOwnPage m n page bytes
Origin m (FrameOffered n frame told) bytes = bytes ≡ drop 4 frame.bytes
Origin m deed bytes = ⊥

-- the port of the device that sends by a deed
abbrev pub sender : Deed → ℕ
sender (Moved (act.Speaks n out)) = n
sender (FrameOffered n frame told) = n
sender deed = 0

-- A device sends this Data FIS by a deed. Behind a multiplier its stamp has the port of the device.
pub record IsSentBy (f : Stamped) (old : MachineState) (deed : Deed) (new : MachineState) (does : Does old deed new) : Type 0 where
  pub sent : Contains (sent_by old deed new does) f
  pub port : is_multiplier old.fan ≡ true → f.stamp.port ≡ sender deed
  pub origin : Origin old deed (drop 4 f.bytes)

-- or by one of a run
abbrev pub IsSentIn : Stamped → (old : MachineState) → (deeds : List Deed) → (new : MachineState) → RunsRuled old deeds new → Type 0
IsSentIn f old [] new run = ⊥
IsSentIn f old (deed ∷ later) new run = IsSentBy f old deed run.1.0 run.1.1 ⊎ IsSentIn f run.1.0 later new run.1.2
