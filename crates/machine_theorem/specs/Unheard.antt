-- What else can have been stored or discarded at a sector in between, told by the FISes that a disk hears, and by what stands in the slots of the guest
-- (ACS-3, 7, write commands and DATA SET MANAGEMENT; Serial ATA 3.x, 10.5, Register Host to Device; AHCI 1.3.1, 5.3). `disks_hear_their_guest` says that each FIS
-- that a disk hears is that of a slot's command, as it was supplied for the slot, or a Data FIS.
use Rattle.std.specs.Prelude.{ℕ, ◌≡◌, ◌<◌, Bool, true, false, List, [], ◌∷◌, ◌++◌, Some, Ok}
use Rattle.fis_view.specs.{Frames.marked, Seen.seen}
use Rattle.fis_view.specs.declared.view.Fis.TheVariants as view
use Rattle.block_command.specs.Moments.{Moment}
use Rattle.block_disk.specs.Table.{is_under_way}
use Rattle.block_engine.specs.{Aside.is_waiting, Engine.is_discard}
use Rattle.block_queue.specs.Line.{command_at}
use Rattle.ata_command.specs.declared.asked.Asked.{Asked}
use Rattle.ata_command.specs.declared.asked.Asked.TheVariants as ask
use Rattle.ata_front.specs.declared.task.Task.{Task}
use Rattle.ata_front.specs.declared.task.Task.TheVariants as tasks
use Rattle.disk_pages.specs.declared.profile.Profile.{Profile}
use Rattle.sata_disk.specs.{Hearing.{asked_of, is_command}, State.{DiskState, commands, new_disk}}
use Rattle.sata_disk_laws.specs.{Calls.{AreCalls, Call, Hears, after_call}, Laws.reached}
use Rattle.sata_disk_media.specs.{Cells.covers, Laws.AreSparing}
use Rattle.ahci_machine.specs.States.{IsOpeningMachine, MachineState}
use Rattle.machine_laws.specs.{ControllerLaws.RunsRuled, Deeds.Deed, Falling.{AllLast, HasLink}}
use Rattle.machine_theorem.specs.{Given.IsWhole, Identity.{AllKeep, IsAtRest, calls_of, own_of}, Orders.standing_in, Standing.IsAsSupplied}

-- ---- what a FIS asks for

-- it is no write of the sector, and no DATA SET MANAGEMENT
abbrev pub Leaves : (s : ℕ) → Asked → Type 0
Leaves s (ask.Moves m) = m.command.write ≡ true → covers m.command.lba m.command.count s ≡ false
Leaves s (ask.Trims blocks) = ⊥
Leaves s other = Unit {0}

-- so it is of a command that a disk hears
abbrev pub HearsNone : DiskState → (s : ℕ) → Call → Type 0
HearsNone d s (Hears bytes) = (f : List ℕ) → seen bytes ≡ Ok (view.RegH2D f) → is_command f ≡ true → Leaves s (asked_of d f)
HearsNone d s other = Unit {0}

-- and of each that it hears by these calls
abbrev pub AllHearNone : DiskState → (s : ℕ) → List Call → Type 0
AllHearNone d s [] = Unit {0}
AllHearNone d s (c ∷ later) = HearsNone d s c × AllHearNone (after_call d c) s later

-- ---- what is under way

-- the ranges of a DATA SET MANAGEMENT are to come
abbrev pub is_trimming : Task → Bool
is_trimming (tasks.Activates blocks) = true
is_trimming (tasks.Expects blocks) = true
is_trimming other = false

-- no write of the sector is under way, and no DATA SET MANAGEMENT
pub record IsQuiet (s : ℕ) (d : DiskState) : Type 0 where
  pub writes : (place : ℕ) (m : Moment) → command_at (commands d) place ≡ Some m → is_under_way (Some m) ≡ true → m.command.write ≡ true
      → covers m.command.lba m.command.count s ≡ false
  pub trims : is_trimming d.front.task ≡ false
  pub discards : is_discard d.engine.kind ≡ true → is_waiting d.engine.stage ≡ false

-- In every run, where nothing of the sector is under way behind some calls, and none of the commands that are heard by the later ones is a write of it or DATA
-- SET MANAGEMENT, none of these asks for a store or a discard of it: over plugs, resets and errors.
abbrev pub UnheardIsSpared : Type 0
UnheardIsSpared = (p : Profile) (limit : ℕ) (first later : List Call) (s : ℕ) → AreCalls (new_disk p limit) (first ++ later)
    → IsQuiet s (reached p limit first) → AllHearNone (reached p limit first) s later → AreSparing (reached p limit first) s later

-- ---- what stands in a slot

-- whatever a disk is set to, the FIS is no write of the sector for it
abbrev pub AsksNoWrite : (s : ℕ) → List ℕ → Type 0
AsksNoWrite s bytes = (d : DiskState) (f : List ℕ) → seen bytes ≡ Ok (view.RegH2D f) → Leaves s (asked_of d f)

-- The command that stands in the slot for the disk, and was sent, is none, as it was supplied for the slot.
abbrev pub StandsNoWrite : (many : Bool) → (n slot s : ℕ) → (old : MachineState) → (before : List Deed) → (at : MachineState) → RunsRuled old before at
    → (deeds : List Deed) → (now : MachineState) → RunsRuled at deeds now → Type 0
StandsNoWrite many n slot s old before at first deeds now run = standing_in (own_of many n) slot now.controller ≡ 1
    → (whole : IsWhole old before at first deeds now run) (fis : List ℕ) → IsAsSupplied old (before ++ deeds) now whole.all slot fis
    → AsksNoWrite s (marked fis 0)

-- Over each stretch that begins at rest and in which the guest keeps to the standard, no write of a sector is under way at the disk under a tag at its end,
-- where none stands in the slot of this number.
abbrev pub SlotsTellOfWrites : Type 0
SlotsTellOfWrites = (ports : ℕ) (legacy : Bool) (old : MachineState) → IsOpeningMachine ports legacy old
    → (before : List Deed) (at : MachineState) (first : RunsRuled old before at) (many : Bool) (n tag : ℕ) → n < 15 → tag < 32
    → (rest : IsAtRest many n tag old before at first) → (deeds : List Deed) (now : MachineState) (run : RunsRuled at deeds now)
    → HasLink deeds → AllLast n at deeds now run → AllKeep many n tag at deeds now run
    → (p : Profile) (limit : ℕ) (base : List Call) → AreCalls (new_disk p limit) base → rest.disk ≡ reached p limit base
    → (s : ℕ) → StandsNoWrite many n tag s old before at first deeds now run
    → (m : Moment) → command_at (commands (reached p limit (base ++ calls_of n at deeds now run))) tag ≡ Some m → is_under_way (Some m) ≡ true
    → m.command.write ≡ true → covers m.command.lba m.command.count s ≡ false
