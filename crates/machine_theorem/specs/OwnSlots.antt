-- The Data of a queued read go to its own slot: the slot that takes them is their place at the disk, and the number of the first byte is that of the bytes
-- which the disk had sent before (AHCI 1.3.1, 5.3.13 and 9.3; Serial ATA 3.x, 10.5, DMA Setup and Data, and 13.6, native command queuing). So it is over
-- each stretch of a run that begins while nothing is set up, and in which the connection lasts and no FIS of the disk is lost or at fault.
use Rattle.std.specs.{Prelude.{ℕ, ◌≡◌, ◌<◌, ◌==◌, ◌&&◌, Bool, true, false, List, [], ◌∷◌, ◌++◌, length, drop, Some, None}, List.Contains}
use Rattle.fis_view.specs.Frames.{Stamped}
use Rattle.slots.specs.{Slots.{Issue, context_of, issue_at}, declared.work.Kind.TheVariants.QueuedRead}
use Rattle.hba_fbs.specs.{Taking.port_of, declared.report.Wrote.Wrote}
use Rattle.ahci_controller.specs.{Taking.is_overflow, declared.taking.Took.Took}
use Rattle.controller_laws.specs.{Carrying.{Carrying, carrying_after}, Events.Event}
use Rattle.controller_laws.specs.Events as call
use Rattle.block_disk.specs.Laws.{Page}
use Rattle.disk_pages.specs.declared.profile.Profile.{Profile}
use Rattle.sata_disk.specs.State.{DiskState, new_disk}
use Rattle.sata_disk.specs.declared.out.Out.TheVariants as out
use Rattle.sata_disk_books.specs.Books.{AreNext, page_in}
use Rattle.sata_disk_laws.specs.{Calls.{AreCalls, Call}, Laws.reached}
use Rattle.ahci_machine.specs.{States.{IsOpeningMachine, MachineState, bay_at}, declared.bay.Unit.TheVariants.Disk}
use Rattle.ahci_machine.specs.declared.act.Act.TheVariants as act
use Rattle.machine_laws.specs.{ControllerLaws.{ControllerRuns, RunsRuled, calls_in}, Deeds.{Deed, Does, Moved}, Rising.{came_by, is_over, is_reset}}
use Rattle.machine_laws.specs.Rising.{on_way, sent_by}
use Rattle.machine_theorem.specs.{Identity.{IsThere, calls_of, is_left}, Following.AllHeardWell}

-- a FIS is of a connection of a port
abbrev pub is_of : (n c : ℕ) → Stamped → Bool
is_of n c f = f.stamp.port == n && f.stamp.conn == c

-- ---- the beginning of a stretch

-- A disk is at a port. None of its FISes is on its way on this connection, which is not over, and the controller has nothing set up for the device.
pub record BeginsClear (n c dev : ℕ) (at : MachineState) : Type 0 where
  pub disk : DiskState
  pub there : (bay_at at n).unit ≡ Disk disk
  pub way : on_way n c at ≡ []
  pub lasts : is_over at.fan n c ≡ false
  pub clear : context_of at.controller.core.slots dev ≡ None

-- ---- a stretch

-- those with the PM Port of the device are those of the connection
abbrev pub AreOne : (n c dev : ℕ) → List Stamped → Type 0
AreOne n c dev [] = Unit {0}
AreOne n c dev (f ∷ later) = ((port_of f.bytes == dev) ≡ is_of n c f) × AreOne n c dev later

-- Nothing is put at the port or taken from it, and the link is not reset. What the device at the port sends is of the connection, and of what comes
-- to the controller that has the PM Port of the device, and nothing else.
pub record KeepsLine (many : Bool) (n c dev : ℕ) (old : MachineState) (deed : Deed) (new : MachineState) (does : Does old deed new) : Type 0 where
  pub end : IsThere many n old
  pub left : is_left n deed ≡ true
  pub linked : is_reset deed ≡ false
  pub sent : (f : Stamped) → Contains (sent_by old deed new does) f → f.stamp.port ≡ n → f.stamp.conn ≡ c
  pub came : AreOne n c dev (came_by old deed new does)

abbrev pub AllKeepLine : (many : Bool) → (n c dev : ℕ) → (old : MachineState) → (deeds : List Deed) → (now : MachineState) → RunsRuled old deeds now → Type 0
AllKeepLine many n c dev old [] now run = IsThere many n old
AllKeepLine many n c dev old (deed ∷ later) now run = KeepsLine many n c dev old deed run.1.0 run.1.1 × AllKeepLine many n c dev run.1.0 later now run.1.2

-- no FIS of the device goes by untaken
abbrev pub NoneLost : (dev : ℕ) → List Event → Type 0
NoneLost dev [] = Unit {0}
NoneLost dev (call.Left frame why ∷ later) = ((port_of frame == dev) ≡ false) × NoneLost dev later
NoneLost dev (event ∷ later) = NoneLost dev later

-- ---- where Data go

-- The slot is the place, and the books have the command there. As many bytes of it were sent before as the number of the first byte in the slot's command;
-- and the bytes are those that the caller gave for its sectors behind them: the byte of each number is the one of this number that the caller gave.
pub record IsAtPlace (p : Profile) (limit : ℕ) (calls : List Call) (place : ℕ) (f : Stamped) (wrote : Wrote) : Type 0 where
  pub slot : wrote.slot ≡ place
  pub page : Page
  pub is : page_in p limit calls place ≡ Some page
  pub number : wrote.offset ≡ length page.ledger.sent
  pub next : AreNext page.ledger (drop 4 f.bytes)

-- so it is where a disk sends them for a queued command
abbrev pub OfItsPlace : (p : Profile) → (limit : ℕ) → List Call → Deed → Stamped → Wrote → Type 0
OfItsPlace p limit calls (Moved (act.Speaks k (out.Data place len))) f wrote = place < 32 → IsAtPlace p limit calls place f wrote
OfItsPlace p limit calls deed f wrote = Unit {0}

-- The FIS was sent at a moment of the stretch, by the disk that some calls of a new one led to, and then those of the stretch until then.
pub record IsOfOwnSlot (n : ℕ) (at : MachineState) (deeds : List Deed) (p : Profile) (limit : ℕ) (base : List Call) (f : Stamped) (wrote : Wrote) : Type 0 where
  pub before : List Deed
  pub mid : MachineState
  pub first : RunsRuled at before mid
  pub deed : Deed
  pub after : MachineState
  pub does : Does mid deed after
  pub later : List Deed
  pub is : deeds ≡ before ++ deed ∷ later
  pub sent : sent_by mid deed after does ≡ f ∷ []
  pub place : OfItsPlace p limit (base ++ calls_of n at before mid first) deed f wrote

-- ---- the law

-- Over each such stretch of a run from a machine that opens: where a Data FIS of the connection brings bytes for a slot with a queued read, unless they go
-- past its table, and a disk sent it for a queued command, the slot is the place of this command, and the first byte has the number of those that were
-- sent of it before.
abbrev pub PayloadGoesToItsOwnSlot : Type 0
PayloadGoesToItsOwnSlot = (ports : ℕ) (legacy : Bool) (old : MachineState) → IsOpeningMachine ports legacy old
    → (before : List Deed) (at : MachineState) (first : RunsRuled old before at) (many : Bool) (n c dev : ℕ) → n < 15 → dev < 16
    → (begins : BeginsClear n c dev at) → (p : Profile) (limit : ℕ) (base : List Call) → AreCalls (new_disk p limit) base → begins.disk ≡ reached p limit base
    → (deeds : List Deed) (now : MachineState) (run : RunsRuled at deeds now) → AllKeepLine many n c dev at deeds now run
    → (runs : ControllerRuns at deeds now run) → AllHeardWell dev at.controller (calls_in at deeds now run) now.controller runs.calls
    → NoneLost dev (calls_in at deeds now run) → (took : Took) (new : MachineState) → (does : Does now (Moved (act.Takes took)) new)
    → is_of n c does.does.frame ≡ true → port_of does.does.frame.bytes ≡ dev → is_overflow took.report.fault ≡ false
    → (wrote : Wrote) → took.brought ≡ Some wrote → (issue : Issue) → issue_at now.controller.core.slots wrote.slot ≡ Some issue → issue.work.kind ≡ QueuedRead
    → IsOfOwnSlot n at deeds p limit base does.does.frame wrote

-- ---- from what is written to the FIS that was taken

-- A FIS was taken at a moment of a run, and it brought these bytes.
pub record WasTaken (old : MachineState) (deeds : List Deed) (d : Carrying) : Type 0 where
  pub before : List Deed
  pub mid : MachineState
  pub first : RunsRuled old before mid
  pub took : Took
  pub after : MachineState
  pub does : Does mid (Moved (act.Takes took)) after
  pub later : List Deed
  pub is : deeds ≡ before ++ Moved (act.Takes took) ∷ later
  pub frame : does.does.frame.bytes ≡ d.frame
  pub brought : took.brought ≡ Some d.wrote

-- So it is of the Data FIS that was taken last, of which payload is written, over every run.
abbrev pub CarriedWereTaken : Type 0
CarriedWereTaken = (old : MachineState) (deeds : List Deed) (now : MachineState) (run : RunsRuled old deeds now) (runs : ControllerRuns old deeds now run) (d : Carrying)
    → carrying_after None old.controller (calls_in old deeds now run) now.controller runs.calls ≡ Some d → WasTaken old deeds d
