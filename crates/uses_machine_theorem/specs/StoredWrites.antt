-- What a caller of a machine knows of the queued writes of a guest that sends its disks queued commands alone.
use Rattle.std.specs.Prelude.{◌≡◌, ◌<◌, ℕ, Bool, true, false, List, ◌++◌, Some, Ok}
use Rattle.fis_view.specs.{Frames.Stamped, Seen.seen}
use Rattle.fis_view.specs.declared.view.Fis.TheVariants as view
use Rattle.slots.specs.Slots.{Issue, has_bit, issue_at}
use Rattle.ahci_registers.specs.declared.register.Register.TheVariants.{PxSact}
use Rattle.ahci_controller.specs.{Reading.shown, declared.{feeding.Fed.TheVariants.Goes, latch.Edge.Edge, taking.Took.Took}}
use Rattle.block_queue.specs.Line.{command_at}
use Rattle.disk_pages.specs.declared.profile.Profile.{Profile}
use Rattle.sata_disk.specs.{Hearing.receives, State.{commands, new_disk}}
use Rattle.sata_disk_books.specs.InTurn.{AreOfQueue, AwaitsNone}
use Rattle.sata_disk_laws.specs.{Calls.{AreCalls, Call}, Laws.reached}
use Rattle.ahci_machine.specs.States.{HasRules, MachineState, bay_at}
use Rattle.ahci_machine.specs.declared.act.Act.TheVariants as act
use Rattle.machine_laws.specs.{ControllerLaws.{RunsRuled, calls_in}, Deeds.{Deed, Does, Moved}, Falling.{AllLast, HasLink}}
use Rattle.machine_theorem.specs.{Brought.AllTakenWell, Identity.{AllKeep, IsAtRest, calls_of, own_of}, OwnSlots.{AllKeepLine, BeginsClear, NoneLost}}
use Rattle.machine_theorem.specs.{OwnWrites.AreOwnData, QueuedOnly.SendsQueued, QueuedWrites.{AllQueued, GoOfQueuedWrite, HasQueued, IsFedWrite}}
use Rattle.machine_theorem.specs.{QueuedWrites.{OwesNothing, TakesAll}, StoredWrites.IsStoredWrite}
use Rattle.uses_machine_theorem.specs.{Led.IsLed, Slots.stretch_of}

-- Data that go to a device go of a slot with a queued write, while each command that is issued for it is queued, whatever run led here.
abbrev pub KnowsGone : MachineState → Type 0
KnowsGone now = IsLed now → (dev : ℕ) → HasQueued dev now.controller → (message : Bool) (line : Edge) (new : MachineState)
    → Does now (Moved (act.Gathers dev (Goes message line))) new → GoOfQueuedWrite now.controller dev

-- Behind a moment at rest a disk serves queued commands alone, if the guest kept to the standard and sent it no others, and it took each.
abbrev pub KnowsServed : MachineState → Type 0
KnowsServed now = (at : MachineState) (led : IsLed at) (many : Bool) (n tag : ℕ) → n < 15 → tag < 32
    → (rest : IsAtRest many n tag led.first led.deeds at led.run) → (deeds : List Deed) (run : RunsRuled at deeds now)
    → HasLink deeds → AllLast n at deeds now run → AllKeep many n tag at deeds now run
    → (p : Profile) (limit : ℕ) (base : List Call) → AreCalls (new_disk p limit) base → rest.disk ≡ reached p limit base
    → SendsQueued (stretch_of many n tag at led deeds now run p limit base) → OwesNothing (reached p limit base)
    → TakesAll (reached p limit base) (calls_of n at deeds now run) → AreOfQueue (reached p limit base) (calls_of n at deeds now run)

-- So what it is to hear for its command under a tag went of the slot of this number, as it was supplied for it, if no FIS of the disk is lost or at fault.
abbrev pub KnowsQueuedWrites : MachineState → Type 0
KnowsQueuedWrites now = (at : MachineState) (led : IsLed at) (many : Bool) (n c dev tag : ℕ) → n < 15 → dev < 16 → tag < 32
    → (rest : IsAtRest many n tag led.first led.deeds at led.run) → BeginsClear n c dev at → (deeds : List Deed) (run : RunsRuled at deeds now)
    → HasLink deeds → AllLast n at deeds now run → AllKeep many n tag at deeds now run → AllKeepLine many n c dev at deeds now run
    → AllTakenWell dev at deeds now run → NoneLost dev (calls_in at deeds now run) → AreOwnData many n dev (calls_in at deeds now run)
    → (p : Profile) (limit : ℕ) (base : List Call) → AreCalls (new_disk p limit) base → rest.disk ≡ reached p limit base → AwaitsNone (reached p limit base)
    → SendsQueued (stretch_of many n tag at led deeds now run p limit base) → AllQueued dev at deeds now run → OwesNothing (reached p limit base)
    → TakesAll (reached p limit base) (calls_of n at deeds now run)
    → (f : Stamped) → (bay_at now n).down ≡ Some f → (v : List ℕ) → seen f.bytes ≡ Ok (view.Payload v)
    → receives (command_at (commands (reached p limit (base ++ calls_of n at deeds now run))) tag) ≡ true
    → IsFedWrite (stretch_of many n tag at led deeds now run p limit base) dev f

-- And where the guest sees its command completed, and this is a write, all that came for it was stored, and each byte of it is the one of its number that was
-- supplied for the slot.
abbrev pub KnowsStored : MachineState → Type 0
KnowsStored now = (at : MachineState) (led : IsLed at) (many : Bool) (n c dev tag : ℕ) → n < 15 → dev < 16 → tag < 32
    → (rest : IsAtRest many n tag led.first led.deeds at led.run) → BeginsClear n c dev at → (deeds : List Deed) (run : RunsRuled at deeds now)
    → HasLink deeds → AllLast n at deeds now run → AllKeep many n tag at deeds now run → AllKeepLine many n c dev at deeds now run
    → AllTakenWell dev at deeds now run → NoneLost dev (calls_in at deeds now run) → AreOwnData many n dev (calls_in at deeds now run)
    → (p : Profile) (limit : ℕ) (base : List Call) → AreCalls (new_disk p limit) base → rest.disk ≡ reached p limit base → AwaitsNone (reached p limit base)
    → SendsQueued (stretch_of many n tag at led deeds now run p limit base) → AllQueued dev at deeds now run → OwesNothing (reached p limit base)
    → TakesAll (reached p limit base) (calls_of n at deeds now run)
    → (took : Took) (new : MachineState) → (does : Does now (Moved (act.Takes took)) new) → HasRules new
    → has_bit (shown PxSact now.controller) tag ≡ true → has_bit (shown PxSact new.controller) tag ≡ false
    → (issue : Issue) → issue_at now.controller.core.slots tag ≡ Some issue → own_of many n issue.dev ≡ true
    → IsStoredWrite (stretch_of many n tag at led deeds now run p limit base) dev does.does.frame
