-- What a caller of a machine knows of each byte of a read that is not queued, by DMA or by PIO, and that its guest sees completed.
use Rattle.std.specs.Prelude.{◌≡◌, ◌⊎◌, ◌<◌, ℕ, Bool, true, List}
use Rattle.slots.specs.Slots.{Issue}
use Rattle.disk_pages.specs.declared.profile.Profile.{Profile}
use Rattle.sata_disk.specs.State.{new_disk}
use Rattle.sata_disk_laws.specs.{Calls.{AreCalls, Call}, Laws.reached, Once.{host_of, new_host}}
use Rattle.ahci_machine.specs.States.{MachineState}
use Rattle.machine_laws.specs.{ControllerLaws.{RunsRuled, calls_in}, Deeds.Deed, Falling.{AllLast, HasLink}}
use Rattle.machine_theorem.specs.{Brought.AllTakenWell, Identity.calls_of, InTurn.{AreKeptOn, IsIdle}, OwnSlots.{AllKeepLine, NoneLost, is_of}}
use Rattle.machine_theorem.specs.{PioIn.AllKeepUnqueued, PioReads.{CameIsRead, LastIsRead}, SingleNumbers.SendsSingle, SingleReads.IsSingleDone}
use Rattle.machine_theorem.specs.Singles.{BeginsIdle}
use Rattle.uses_machine_theorem.specs.{Led.IsLed, Slots.stretch_of}

-- Behind a moment at which nothing is under way at a disk, and while no FIS of the disk is lost or at fault, whatever reads and writes end: it is
-- the byte of its number that the caller gave for the sectors of the command that the guest had supplied for the slot. It was written at its place
-- before the bit fell, or the last Data of a PIO data-in bring it.
abbrev pub KnowsUnqueuedRead : MachineState → Type 0
KnowsUnqueuedRead now = (at : MachineState) (led : IsLed at) (many : Bool) (n c dev slot : ℕ) → n < 15 → dev < 16 → slot < 32
    → (begins : BeginsIdle n c at) → (p : Profile) (limit : ℕ) (base : List Call) → AreCalls (new_disk p limit) base
    → begins.disk ≡ reached p limit base
    → IsIdle (host_of new_host base) → (deeds : List Deed) (run : RunsRuled at deeds now)
    → HasLink deeds → AllLast n at deeds now run → AllKeepLine many n c dev at deeds now run → AreKeptOn (calls_of n at deeds now run)
    → AllKeepUnqueued many n dev at deeds now run → AllTakenWell dev at deeds now run → NoneLost dev (calls_in at deeds now run)
    → SendsSingle (stretch_of many n slot at led deeds now run p limit base)
    → (issue : Issue) (done : IsSingleDone now slot issue) → is_of n c done.does.does.frame ≡ true → issue.dev ≡ dev
    → (k : ℕ) → k < issue.work.len → CameIsRead (stretch_of many n slot at led deeds now run p limit base) issue k
    ⊎ LastIsRead (stretch_of many n slot at led deeds now run p limit base) issue done k
