-- The Data that a disk hears for a queued write went from its own slot: the slot is their place at the disk, and the number of the first byte is that of the
-- bytes which came before (AHCI 1.3.1, 5.3 and 9.3; Serial ATA 3.x, 10.5, DMA Setup, DMA Activate and Data, and 13.6, native command queuing). So it is over
-- each stretch of a run that begins while nothing is set up, in which the connection lasts, no FIS of the disk is lost or at fault, and the disk serves
-- queued commands alone.
use Rattle.std.specs.Prelude.{ℕ, ◌≡◌, ◌<◌, ◌==◌, Bool, true, List, [], ◌∷◌, ◌++◌, Some, Ok}
use Rattle.fis_view.specs.{Frames.Stamped, Seen.seen}
use Rattle.fis_view.specs.declared.view.Fis.TheVariants as view
use Rattle.ahci_controller.specs.declared.{feeding.Fed.TheVariants.Goes, latch.Edge.Edge}
use Rattle.block_queue.specs.Line.{command_at}
use Rattle.controller_laws.specs.Events as call
use Rattle.controller_laws.specs.Events.{Event}
use Rattle.disk_pages.specs.declared.profile.Profile.{Profile}
use Rattle.sata_disk.specs.{Hearing.receives, State.{commands, new_disk}}
use Rattle.sata_disk_books.specs.InTurn.{AreOfQueue, AwaitsNone}
use Rattle.sata_disk_laws.specs.{Calls.{AreCalls, Call}, Laws.reached}
use Rattle.ahci_machine.specs.{Gathers.host_stamp, States.{IsOpeningMachine, MachineState, bay_at}}
use Rattle.ahci_machine.specs.declared.act.Act.TheVariants as act
use Rattle.machine_laws.specs.{ControllerLaws.{RunsRuled, calls_in}, Deeds.{Deed, Does, Moved}, Falling.{AllLast, HasLink, leaving, way_to}}
use Rattle.machine_theorem.specs.{Brought.AllTakenWell, Crossing.GoToPlace, Identity.{calls_of, heard_as, is_for}, OwnSlots.AllKeepLine}
use Rattle.machine_theorem.specs.OwnSlots.{BeginsClear, NoneLost}

-- ---- a stretch

-- Data that fall to the port go to the device
abbrev pub IsOwnData : (many : Bool) (n dev : ℕ) → Event → Type 0
IsOwnData many n dev (call.Gathered d number bytes (Goes message line)) =
    is_for many n (record { bytes = bytes; stamp = host_stamp d }) ≡ true → (d == dev) ≡ true
IsOwnData many n dev event = Unit {0}

abbrev pub AreOwnData : (many : Bool) (n dev : ℕ) → List Event → Type 0
AreOwnData many n dev [] = Unit {0}
AreOwnData many n dev (event ∷ later) = IsOwnData many n dev event × AreOwnData many n dev later

-- ---- where Data came from

-- The FIS went at a moment of the stretch, and was not changed but for its PM Port. If the command in its slot was a queued write, the slot is the place.
pub record WentForPlace (n dev : ℕ) (at : MachineState) (deeds : List Deed) (now : MachineState) (p : Profile) (limit : ℕ) (calls : List Call) (place : ℕ)
    (f : Stamped) : Type 0 where
  pub before : List Deed
  pub mid : MachineState
  pub first : RunsRuled at before mid
  pub message : Bool
  pub line : Edge
  pub after : MachineState
  pub does : Does mid (Moved (act.Gathers dev (Goes message line))) after
  pub later : List Deed
  pub is : deeds ≡ before ++ Moved (act.Gathers dev (Goes message line)) ∷ later
  pub bytes : f.bytes ≡ heard_as (record { bytes = does.does.gathering.bytes; stamp = host_stamp dev })
  pub goes : GoToPlace mid.controller dev p limit calls place

-- ---- the law

-- Over each such stretch of a run from a machine that opens: where the device was given a Data FIS, which it is to hear next, and the queued command of a
-- place awaits Data.
abbrev pub DataComeFromTheirOwnSlot : Type 0
DataComeFromTheirOwnSlot = (ports : ℕ) (legacy : Bool) (old : MachineState) → IsOpeningMachine ports legacy old
    → (before : List Deed) (at : MachineState) (first : RunsRuled old before at) (many : Bool) (n c dev : ℕ) → n < 15 → dev < 16
    → (begins : BeginsClear n c dev at) → leaving at ≡ [] → way_to at n ≡ []
    → (p : Profile) (limit : ℕ) (base : List Call) → AreCalls (new_disk p limit) base → begins.disk ≡ reached p limit base → AwaitsNone (reached p limit base)
    → (deeds : List Deed) (now : MachineState) (run : RunsRuled at deeds now) → HasLink deeds → AllLast n at deeds now run
    → AllKeepLine many n c dev at deeds now run → AllTakenWell dev at deeds now run → NoneLost dev (calls_in at deeds now run)
    → AreOwnData many n dev (calls_in at deeds now run) → AreOfQueue (reached p limit base) (calls_of n at deeds now run)
    → (f : Stamped) → (bay_at now n).down ≡ Some f → (v : List ℕ) → seen f.bytes ≡ Ok (view.Payload v)
    → (place : ℕ) → place < 32 → receives (command_at (commands (reached p limit (base ++ calls_of n at deeds now run))) place) ≡ true
    → WentForPlace n dev at deeds now p limit (base ++ calls_of n at deeds now run) place f
