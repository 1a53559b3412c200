-- A FLUSH CACHE that the guest sees completed is the one that it had supplied for its slot, and the disk's caller had flushed for it: what the disk asked for
-- since it heard the command was answered well before the disk said that this ended (AHCI 1.3.1, 3.3.14, PxCI, and 5.3.8; Serial ATA 3.x, 10.5, Register
-- Device to Host; ACS-3, 7.10, FLUSH CACHE, and 7.11, FLUSH CACHE EXT). So it is over each stretch of a run as in PioIn.
use Rattle.std.specs.Prelude.{ℕ, ◌≡◌, ◌<◌, Bool, true, false, List, Some}
use Rattle.fis_view.specs.Frames.{Stamped}
use Rattle.slots.specs.Slots.{Issue, has_bit, is_pio, is_queued_issue, issue_at}
use Rattle.ahci_registers.specs.declared.register.Register.TheVariants.{PxCi, PxSact}
use Rattle.ahci_controller.specs.{Reading.shown, States.ControllerState, declared.taking.Took.Took}
use Rattle.controller_laws.specs.Events.{Event, Runs}
use Rattle.disk_pages.specs.declared.profile.Profile.{Profile}
use Rattle.sata_disk.specs.State.{new_disk}
use Rattle.sata_disk_laws.specs.{Calls.{AreCalls, Call}, Laws.reached, Once.{host_of, new_host}}
use Rattle.ahci_machine.specs.States.{HasRules, IsOpeningMachine, MachineState}
use Rattle.ahci_machine.specs.declared.act.Act.TheVariants as act
use Rattle.machine_laws.specs.{ControllerLaws.{ControllerRuns, RunsRuled, calls_in}, Deeds.{Deed, Does, Moved}, Falling.{AllLast, HasLink}}
use Rattle.machine_theorem.specs.{Ending.{AllKeepEnding, AllUnqueued}, Flushing.{HasFlushed, is_flushing}, Identity.calls_of}
use Rattle.machine_theorem.specs.{InTurn.{AreKeptOn, IsIdle, is_answering}, OwnSlots.{AllKeepLine, is_of}, PioIn.IsDoneThere}
use Rattle.machine_theorem.specs.Singles.{AllOfDevice, BeginsIdle}

-- ---- the command whose bit falls

-- The disk answered by the FIS the command that the guest had supplied for the slot, as PioIn says. If this is a FLUSH CACHE, the disk said that it ended
-- well; and since it heard this command, in the stretch, it asked its caller for a flush, and the caller answered that well.
pub record IsFlushDone (n dev slot : ℕ) (old : MachineState) (before : List Deed) (at : MachineState) (first : RunsRuled old before at) (deeds : List Deed)
    (now : MachineState) (run : RunsRuled at deeds now) (p : Profile) (limit : ℕ) (base : List Call) (issue : Issue) (f : Stamped) : Type 0 where
  pub done : IsDoneThere n dev slot old before at first deeds now run p limit base issue f
  pub answering : is_answering f.bytes ≡ true
  pub flushed : is_flushing (done.answers answering).command.bytes ≡ true → HasFlushed (done.answers answering).command.later done.said

-- ---- the laws

-- It holds of each command for the device that is not queued and no PIO data-in, and whose bit of PxCI falls behind such a stretch as a FIS of the
-- connection is taken, if what the guest keeps to has its commands wait in their slots (`UnqueuedAreOfSlotsIf` of PioIn).
abbrev pub OfSingles :
    (Waits : (dev : ℕ) → (old : ControllerState) → (events : List Event) → (now : ControllerState) → Runs old events now → Type 0)
    → (Holds : (n dev slot : ℕ) (old : MachineState) (before : List Deed) (at : MachineState) → RunsRuled old before at → (deeds : List Deed)
    (now : MachineState) → RunsRuled at deeds now → Profile → (limit : ℕ) → List Call → Issue → Stamped → Type 0) → Type 0
OfSingles Waits Holds = (ports : ℕ) (legacy : Bool) (old : MachineState) → IsOpeningMachine ports legacy old
    → (before : List Deed) (at : MachineState) (first : RunsRuled old before at) (many : Bool) (n c dev slot : ℕ) → n < 15 → dev < 16 → slot < 32
    → (begins : BeginsIdle n c at) → (p : Profile) (limit : ℕ) (base : List Call) → AreCalls (new_disk p limit) base → begins.disk ≡ reached p limit base
    → IsIdle (host_of new_host base) → (deeds : List Deed) (now : MachineState) (run : RunsRuled at deeds now)
    → HasLink deeds → AllLast n at deeds now run → AllKeepLine many n c dev at deeds now run → AreKeptOn (calls_of n at deeds now run)
    → (runs : ControllerRuns at deeds now run) → AllOfDevice many n dev at.controller (calls_in at deeds now run) now.controller runs.calls
    → Waits dev at.controller (calls_in at deeds now run) now.controller runs.calls
    → (took : Took) (new : MachineState) → (does : Does now (Moved (act.Takes took)) new) → HasRules new → is_of n c does.does.frame ≡ true
    → has_bit (shown PxCi now.controller) slot ≡ true → has_bit (shown PxCi new.controller) slot ≡ false → has_bit (shown PxSact new.controller) slot ≡ false
    → (issue : Issue) → issue_at now.controller.core.slots slot ≡ Some issue → issue.dev ≡ dev → is_queued_issue issue ≡ false
    → is_pio issue.work.kind ≡ false → Holds n dev slot old before at first deeds now run p limit base issue does.does.frame

-- where a command that waits leaves its slot only as a Register FIS or a Data FIS of its device is taken
abbrev pub FlushesAreOfSlots : Type 0
FlushesAreOfSlots = OfSingles AllKeepEnding IsFlushDone

-- and so where the guest has no queued command in the slots for the device, and no write takes one that waits
abbrev pub PlainFlushesAreOfSlots : Type 0
PlainFlushesAreOfSlots = OfSingles AllUnqueued IsFlushDone
