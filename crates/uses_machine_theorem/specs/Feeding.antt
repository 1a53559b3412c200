-- What a caller of a machine knows of the Data of its guest's writes.
use Rattle.std.specs.Prelude.{◌≡◌, ◌<◌, ℕ, Bool, true, List, [], ◌∷◌, ◌++◌, Some, None, Ok}
use Rattle.fis_view.specs.{Frames.Stamped, Seen.seen}
use Rattle.fis_view.specs.declared.view.Fis.TheVariants as view
use Rattle.slots.specs.Slots.{context_of}
use Rattle.hba_fbs.specs.{Views.view_of, declared.turn.Turn.TheVariants.Feeds}
use Rattle.hba_laws.specs.{Agreement.IsTold, History.History}
use Rattle.ahci_controller.specs.{Next.turn_to, declared.{feeding.Fed.TheVariants.Goes, latch.Edge.Edge}}
use Rattle.block_queue.specs.Line.{command_at}
use Rattle.disk_pages.specs.declared.profile.Profile.{Profile}
use Rattle.sata_disk.specs.{Hearing.receives, State.{commands, new_disk}}
use Rattle.sata_disk_books.specs.{InTurn.{AreOfQueue, AwaitsNone, calls_steps}, Talks.Sign}
use Rattle.sata_disk_laws.specs.{Calls.{AreCalls, Call}, Laws.reached}
use Rattle.ahci_machine.specs.States.{MachineState, bay_at}
use Rattle.ahci_machine.specs.declared.act.Act.TheVariants as act
use Rattle.machine_laws.specs.{ControllerLaws.{ControllerRuns, RunsRuled, calls_in}, Deeds.{Deed, Does, Moved}, Falling.{AllLast, HasLink}}
use Rattle.machine_theorem.specs.{Asking.events_steps, Brought.AllTakenWell, Crossing.{GoToPlace, Within, downs, ups}, Fed.IsFedFor}
use Rattle.machine_theorem.specs.{Following.AllHeardWell, Identity.{AllKeep, IsAtRest, calls_of}, OwnSlots.{AllKeepLine, BeginsClear, NoneLost}}
use Rattle.machine_theorem.specs.{OwnWrites.AreOwnData, TakenWrites.IsSuppliedWrite}
use Rattle.uses_machine_theorem.specs.Led.{IsLed}

-- Data that go of a slot were read for this slot, from the byte that goes next, whatever run led here.
abbrev pub KnowsFed : MachineState → Type 0
KnowsFed now = (led : IsLed now) (dev : ℕ) (message : Bool) (line : Edge) (new : MachineState)
    → (does : Does now (Moved (act.Gathers dev (Goes message line))) new) → (slot offset len : ℕ) → turn_to now.controller dev ≡ Feeds dev slot offset len
    → IsFedFor led.first led.deeds now led.run dev message line new does slot offset len

-- Over a stretch that led here from a moment while nothing is set up for a device, and in which its FISes are heard and nothing is wrong with them: the slot
-- is the place for which a disk takes the Data that go, and the first byte has the number of those that came there, if the disk serves queued
-- commands alone, and the link to it keeps the order.
abbrev pub KnowsPlaces : MachineState → Type 0
KnowsPlaces now = (at : MachineState) (deeds : List Deed) (run : RunsRuled at deeds now) (runs : ControllerRuns at deeds now run) (dev : ℕ) → dev < 16
    → (past : History) → IsTold (view_of dev at.controller.core) past → context_of at.controller.core.slots dev ≡ None
    → AllHeardWell dev at.controller (calls_in at deeds now run) now.controller runs.calls
    → (message : Bool) (line : Edge) (new : MachineState) (last : RunsRuled now (Moved (act.Gathers dev (Goes message line)) ∷ []) new)
    → ControllerRuns now (Moved (act.Gathers dev (Goes message line)) ∷ []) new last
    → (p : Profile) (limit : ℕ) (base calls : List Call) → AreCalls (new_disk p limit) (base ++ calls) → AwaitsNone (reached p limit base)
    → AreOfQueue (reached p limit base) calls → (place : ℕ) → place < 32 → receives (command_at (commands (reached p limit (base ++ calls))) place) ≡ true
    → (extra : List Sign) → ups (calls_steps calls) ≡ ups (events_steps dev (calls_in at deeds now run)) ++ extra
    → Within (downs (calls_steps calls)) (downs (events_steps dev (calls_in at deeds now run))) → GoToPlace now.controller dev p limit (base ++ calls) place

-- A Data FIS that a disk is to hear behind a moment at rest for its queued command under a tag went from the slot of this number, as it was supplied for the
-- command that the guest had supplied there, and each byte has its number, if the guest kept to the standard, no FIS of the disk is lost or at fault, and the
-- disk serves queued commands alone.
abbrev pub KnowsWrites : MachineState → Type 0
KnowsWrites now = (at : MachineState) (led : IsLed at) (many : Bool) (n c dev tag : ℕ) → n < 15 → dev < 16 → tag < 32
    → (rest : IsAtRest many n tag led.first led.deeds at led.run) → BeginsClear n c dev at → (deeds : List Deed) (run : RunsRuled at deeds now)
    → HasLink deeds → AllLast n at deeds now run → AllKeep many n tag at deeds now run → AllKeepLine many n c dev at deeds now run
    → AllTakenWell dev at deeds now run → NoneLost dev (calls_in at deeds now run) → AreOwnData many n dev (calls_in at deeds now run)
    → (p : Profile) (limit : ℕ) (base : List Call) → AreCalls (new_disk p limit) base → rest.disk ≡ reached p limit base → AwaitsNone (reached p limit base)
    → AreOfQueue (reached p limit base) (calls_of n at deeds now run)
    → (f : Stamped) → (bay_at now n).down ≡ Some f → (v : List ℕ) → seen f.bytes ≡ Ok (view.Payload v)
    → receives (command_at (commands (reached p limit (base ++ calls_of n at deeds now run))) tag) ≡ true
    → IsSuppliedWrite many n dev tag led.first led.deeds at led.run deeds now run p limit base f
