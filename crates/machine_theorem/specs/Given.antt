-- The command that a disk has under a tag is the one that the guest had supplied for the slot of this number, as it was issued there last; and so are the Data
-- that the disk sends of it (AHCI 1.3.1, 5.3; Serial ATA 3.x, 10.5, Data, and 13.6, native command queuing). So it is over each stretch of a run that begins at
-- rest and in which the guest keeps to the standard (Identity).
use Rattle.std.specs.{Prelude.{ℕ, ◌≡◌, ◌<◌, Bool, true, List, ◌++◌, drop, Some}, List.All}
use Rattle.fis_view.specs.Frames.{marked}
use Rattle.block_command.specs.{declared.command.Command.Command, Moments.Moment}
use Rattle.block_disk.specs.{Laws.Page, Table.is_under_way}
use Rattle.block_queue.specs.Line.{command_at}
use Rattle.disk_pages.specs.declared.profile.Profile.{Profile}
use Rattle.sata_disk.specs.State.{DiskState, commands, new_disk}
use Rattle.sata_disk.specs.declared.out.Out.TheVariants as out
use Rattle.sata_disk_books.specs.Books.{AreNext, page_in}
use Rattle.sata_disk_laws.specs.{Calls.{AreCalls, Call}, Laws.reached}
use Rattle.ahci_machine.specs.{States.{IsOpeningMachine, MachineState, bay_at}, declared.bay.Unit.TheVariants.Disk}
use Rattle.ahci_machine.specs.declared.act.Act.TheVariants as act
use Rattle.machine_laws.specs.{ControllerLaws.{RunsRuled, calls_in}, Deeds.{Deed, Does, Moved}, Falling.{AllLast, HasLink}, Rising.sent_by}
use Rattle.machine_theorem.specs.{Commands.{AreNotIssued, IsSentFrom}, Identity.{AllKeep, IsAtRest, IsTheSlots, calls_of}, Standing.IsAsSupplied}

-- ---- one stretch behind another

-- what led to the beginning of a stretch, and then the stretch
pub record IsWhole (old : MachineState) (before : List Deed) (at : MachineState) (first : RunsRuled old before at) (deeds : List Deed) (now : MachineState)
    (run : RunsRuled at deeds now) : Type 0 where
  pub all : RunsRuled old (before ++ deeds) now
  pub calls : calls_in old (before ++ deeds) now all ≡ calls_in old before at first ++ calls_in at deeds now run

-- ---- the command under a tag

-- A disk has this command at the end of a stretch: the guest had supplied it for the slot.
pub record IsGiven (many : Bool) (n tag : ℕ) (old : MachineState) (before : List Deed) (at : MachineState) (first : RunsRuled old before at) (deeds : List Deed)
    (now : MachineState) (run : RunsRuled at deeds now) (p : Profile) (limit : ℕ) (base : List Call) (c : Command) : Type 0 where
  -- It stands in the slot of this number: what the last FIS asked for that was sent from there.
  pub slots : IsTheSlots many n tag at deeds now run p limit base c
  -- This FIS went from the slot in the stretch, and since then nothing was issued there.
  pub dev : ℕ
  pub order : List ℕ
  pub ordered : IsSentFrom at.controller (calls_in at deeds now run) dev tag order
  pub heard : slots.asked.bytes ≡ marked order 0
  pub alone : AreNotIssued tag ordered.later
  -- So it is the FIS of the command that was supplied for the last issue there.
  pub whole : IsWhole old before at first deeds now run
  pub supplied : IsAsSupplied old (before ++ deeds) now whole.all tag order

-- So it is of each command under way at the disk.
abbrev pub CommandsAreGiven : Type 0
CommandsAreGiven = (ports : ℕ) (legacy : Bool) (old : MachineState) → IsOpeningMachine ports legacy old
    → (before : List Deed) (at : MachineState) (first : RunsRuled old before at) (many : Bool) (n tag : ℕ) → n < 15 → tag < 32
    → (rest : IsAtRest many n tag old before at first) → (deeds : List Deed) (now : MachineState) (run : RunsRuled at deeds now)
    → HasLink deeds → AllLast n at deeds now run → AllKeep many n tag at deeds now run
    → (p : Profile) (limit : ℕ) (base : List Call) → AreCalls (new_disk p limit) base → rest.disk ≡ reached p limit base
    → (d : DiskState) → (bay_at now n).unit ≡ Disk d → (m : Moment) → command_at (commands d) tag ≡ Some m → is_under_way (Some m) ≡ true
    → IsGiven many n tag old before at first deeds now run p limit base m.command

-- ---- its Data

-- The disk sends Data of the tag by a deed behind the stretch: they are the next bytes that the caller gave for the sectors of this command.
pub record IsGivenData (many : Bool) (n tag len : ℕ) (old : MachineState) (before : List Deed) (at : MachineState) (first : RunsRuled old before at) (deeds : List Deed)
    (now : MachineState) (run : RunsRuled at deeds now) (p : Profile) (limit : ℕ) (base : List Call) (new : MachineState)
    (does : Does now (Moved (act.Speaks n (out.Data tag len))) new) : Type 0 where
  pub page : Page
  pub books : page_in p limit (base ++ calls_of n at deeds now run) tag ≡ Some page
  pub given : IsGiven many n tag old before at first deeds now run p limit base page.command
  pub next : All (λ f. AreNext page.ledger (drop 4 f.bytes)) (sent_by now (Moved (act.Speaks n (out.Data tag len))) new does)

abbrev pub DataAreGiven : Type 0
DataAreGiven = (ports : ℕ) (legacy : Bool) (old : MachineState) → IsOpeningMachine ports legacy old
    → (before : List Deed) (at : MachineState) (first : RunsRuled old before at) (many : Bool) (n tag : ℕ) → n < 15 → tag < 32
    → (rest : IsAtRest many n tag old before at first) → (deeds : List Deed) (now : MachineState) (run : RunsRuled at deeds now)
    → HasLink deeds → AllLast n at deeds now run → AllKeep many n tag at deeds now run
    → (p : Profile) (limit : ℕ) (base : List Call) → AreCalls (new_disk p limit) base → rest.disk ≡ reached p limit base
    → (len : ℕ) (new : MachineState) (does : Does now (Moved (act.Speaks n (out.Data tag len))) new)
    → IsGivenData many n tag len old before at first deeds now run p limit base new does
