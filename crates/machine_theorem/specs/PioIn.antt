-- A command that is not queued, and that the guest sees completed, is the one that it had supplied for its slot, and its disk did all of it, be it by DMA or
-- by PIO. A PIO data-in has no Register FIS at its end: its bit of PxCI falls as its last Data FIS is taken, and the disk sent this as the last Data of the
-- command (AHCI 1.3.1, 3.3.14, PxCI, and 5.3.8 and 5.3.13; Serial ATA 3.x, 10.5, Register Device to Host, PIO Setup and Data; ACS-3, 4, PIO data-in
-- protocol). So it is over each stretch of a run that begins while nothing is under way at the disk, and in which commands and ends go in turn.
use Rattle.std.specs.Prelude.{ℕ, ◌≡◌, ◌<◌, ◌≤◌, Bool, true, false, List, [], ◌∷◌, ◌++◌, Some, None}
use Rattle.fis_view.specs.Frames.{Stamped}
use Rattle.slots.specs.Slots.{Issue, context_of, has_bit, is_pio, is_queued_issue, issue_at}
use Rattle.ahci_registers.specs.declared.register.Register.TheVariants.{PxCi, PxSact}
use Rattle.ahci_controller.specs.{Reading.shown, States.ControllerState, declared.taking.Took.Took}
use Rattle.controller_laws.specs.Events.{Event, Runs}
use Rattle.ata_reply.specs.declared.reply.Reply.TheVariants as replies
use Rattle.disk_pages.specs.declared.profile.Profile.{Profile}
use Rattle.sata_disk.specs.{State.new_disk, declared.out.Out.Out}
use Rattle.sata_disk.specs.declared.out.Out.TheVariants as out
use Rattle.sata_disk_laws.specs.{Calls.{AreCalls, Call, Sends}, Laws.reached, Once.{ForLast, host_of, new_host}}
use Rattle.ahci_machine.specs.{States.{HasRules, IsOpeningMachine, MachineState, bay_at}, declared.bay.Unit.TheVariants.Disk}
use Rattle.ahci_machine.specs.declared.act.Act.TheVariants as act
use Rattle.machine_laws.specs.{ControllerLaws.{ControllerRuns, RunsRuled, calls_in}, Controllers.deed_calls, Deeds.{Deed, Does, Moved}}
use Rattle.machine_laws.specs.{Falling.{AllLast, HasLink}, Rising.sent_by}
use Rattle.machine_theorem.specs.{Ending.{AllKeepEnding, AllUnqueued}, FirstDeeds.{first_deeds, first_run, machine_at}, Identity.calls_of}
use Rattle.machine_theorem.specs.{InTurn.{AreKeptOn, IsIdle, heard_in, is_answer, is_answering}, OwnSlots.{AllKeepLine, is_of}}
use Rattle.machine_theorem.specs.Settled.{IsSettledLast, IsUnsettled, IsWholeInTurn, is_data, settled_in}
use Rattle.machine_theorem.specs.{Singles.{AllOfDevice, BeginsIdle, IsFromSlot, IsSlots, StartsWith}, Transfers.is_transferring}

-- ---- what the guest keeps to

-- By the controller's calls that a deed is, each FIS that is a command for the disk is that of a slot, for this device; there is no queued command
-- for the device, and a write takes no command that waits.
pub record KeepsUnqueued (many : Bool) (n dev : ℕ) (old : MachineState) (deed : Deed) (new : MachineState) (does : Does old deed new) : Type 0 where
  pub of : (run : Runs old.controller (deed_calls old deed new does) new.controller)
      → AllOfDevice many n dev old.controller (deed_calls old deed new does) new.controller run
  pub unqueued : (run : Runs old.controller (deed_calls old deed new does) new.controller)
      → AllUnqueued dev old.controller (deed_calls old deed new does) new.controller run

abbrev pub AllKeepUnqueued : (many : Bool) → (n dev : ℕ) → (old : MachineState) → (deeds : List Deed) → (now : MachineState)
    → RunsRuled old deeds now → Type 0
AllKeepUnqueued many n dev old [] now run = Unit {0}
AllKeepUnqueued many n dev old (deed ∷ later) now run =
    KeepsUnqueued many n dev old deed run.1.0 run.1.1 × AllKeepUnqueued many n dev run.1.0 later now run.1.2

-- ---- the command whose bit falls

-- By a Register FIS the disk answers the command behind these calls: it heard no command since, and settled none; and all that it had heard before.
pub record IsAnsweredThere (dev slot : ℕ) (old : MachineState) (before : List Deed) (at : MachineState) (first : RunsRuled old before at) (deeds : List Deed)
    (now : MachineState) (run : RunsRuled at deeds now) (base calls : List Call) (o : Out) : Type 0 where
  pub command : IsUnsettled base calls
  pub none : heard_in command.later ≡ 0
  pub prior : heard_in command.front ≤ settled_in calls
  pub slots : IsFromSlot dev slot old before at first deeds now run command.bytes
  pub answer : is_answer o ≡ true
  -- Of a command that moves sectors and is not queued it says that this ended well.
  pub ends : is_transferring command.bytes ≡ true → o ≡ out.Of 32 replies.Done

-- All of a read by PIO was done: the caller gave all bytes of its sectors, and behind these Data all were sent. A FIS from the slot asked for it.
pub record IsWholeThere (dev slot : ℕ) (old : MachineState) (before : List Deed) (at : MachineState) (first : RunsRuled old before at) (deeds : List Deed)
    (now : MachineState) (run : RunsRuled at deeds now) (p : Profile) (limit : ℕ) (base calls : List Call) (n : ℕ) : Type 0 where
  pub read : IsWholeInTurn p limit base calls n
  pub slots : IsFromSlot dev slot old before at first deeds now run read.turn.asked.bytes

-- By Data the disk ends the command behind these calls: its host waits for them as the last ones of the command that was settled last, and no command was
-- heard since.
pub record IsEndedThere (dev slot : ℕ) (old : MachineState) (before : List Deed) (at : MachineState) (first : RunsRuled old before at) (deeds : List Deed)
    (now : MachineState) (run : RunsRuled at deeds now) (p : Profile) (limit : ℕ) (base calls : List Call) (o : Out) : Type 0 where
  pub payload : is_data o ≡ true
  pub waits : (host_of new_host (base ++ calls)).waits ≡ ForLast
  pub command : IsSettledLast calls
  pub none : heard_in command.later ≡ 0
  pub slots : IsFromSlot dev slot old before at first deeds now run command.bytes
  -- If the command moves sectors, they are of these, and then it is a read, and all of it was done. Else they are a page that the disk has of itself.
  pub sectors : is_transferring command.bytes ≡ true → (n : ℕ) × (o ≡ out.Data 32 n)
  pub place : (place n : ℕ) → o ≡ out.Data place n → place ≡ 32
  pub read : (n : ℕ) → o ≡ out.Data 32 n → IsWholeThere dev slot old before at first deeds now run p limit base calls n

-- The disk at the port, as these calls of a new one led to it: its host waits for nothing, so another stretch may begin there.
pub record IsLeftIdle (n : ℕ) (p : Profile) (limit : ℕ) (now : MachineState) (calls : List Call) : Type 0 where
  pub are : AreCalls (new_disk p limit) calls
  pub there : (bay_at now n).unit ≡ Disk (reached p limit calls)
  pub idle : IsIdle (host_of new_host calls)

-- The disk at the port sent the FIS at a moment of the stretch. Some calls of a new one led to it, and then those of the stretch until then.
pub record IsDoneThere (n dev slot : ℕ) (old : MachineState) (before : List Deed) (at : MachineState) (first : RunsRuled old before at) (deeds : List Deed)
    (now : MachineState) (run : RunsRuled at deeds now) (p : Profile) (limit : ℕ) (base : List Call) (issue : Issue) (f : Stamped) : Type 0 where
  -- It is a Register FIS, unless the command is a PIO data-in.
  pub register : is_pio issue.work.kind ≡ false → is_answering f.bytes ≡ true
  pub sooner : List Deed
  pub mid : MachineState
  pub led : RunsRuled at sooner mid
  pub said : Out
  pub after : MachineState
  pub does : Does mid (Moved (act.Speaks n said)) after
  pub later : List Deed
  pub rest : RunsRuled after later now
  pub is : deeds ≡ sooner ++ Moved (act.Speaks n said) ∷ later
  -- Of the disk's calls in the stretch it is this one.
  pub own : calls_of n at deeds now run ≡ calls_of n at sooner mid led ++ Sends said ∷ calls_of n after later now rest
  pub sent : sent_by mid (Moved (act.Speaks n said)) after does ≡ f ∷ []
  -- A Register FIS answers the command that the guest had supplied for the slot, any other FIS is its last Data.
  pub answers : is_answering f.bytes ≡ true → IsAnsweredThere dev slot old before at first deeds now run base (calls_of n at sooner mid led) said
  -- It heard the FIS of this command behind what it did until this went from the slot.
  pub went : (answering : is_answering f.bytes ≡ true) (k : ℕ) (since : List Event)
      → (answers answering).slots.ordered.before
      ≡ calls_in at (first_deeds k deeds) (machine_at k at deeds now run) (first_run k at deeds now run) ++ since
      → StartsWith (calls_of n at (first_deeds k deeds) (machine_at k at deeds now run) (first_run k at deeds now run)) (answers answering).command.front
  pub ends : is_answering f.bytes ≡ false → IsEndedThere dev slot old before at first deeds now run p limit base (calls_of n at sooner mid led) said
  -- Behind the FIS the disk did nothing for its host to wait for.
  pub left : IsLeftIdle n p limit now (base ++ calls_of n at deeds now run)
  -- If it says that a command ended well, the disk did all of it.
  pub slots : said ≡ out.Of 32 replies.Done → IsSlots dev slot old before at first deeds now run p limit (base ++ calls_of n at sooner mid led)

-- ---- the laws

-- So it is of each command for the device that is not queued, and whose bit of PxCI falls behind such a stretch as a FIS of the connection is taken, if
-- what the guest keeps to has its commands wait in their slots. Where the Data of a PIO data-in end it, nothing was set up for the device as the stretch began.
abbrev pub UnqueuedAreOfSlotsIf :
    (Waits : (dev : ℕ) → (old : ControllerState) → (events : List Event) → (now : ControllerState) → Runs old events now → Type 0) → Type 0
UnqueuedAreOfSlotsIf Waits = (ports : ℕ) (legacy : Bool) (old : MachineState) → IsOpeningMachine ports legacy old
    → (before : List Deed) (at : MachineState) (first : RunsRuled old before at) (many : Bool) (n c dev slot : ℕ) → n < 15 → dev < 16 → slot < 32
    → (begins : BeginsIdle n c at) → (p : Profile) (limit : ℕ) (base : List Call) → AreCalls (new_disk p limit) base → begins.disk ≡ reached p limit base
    → IsIdle (host_of new_host base) → (deeds : List Deed) (now : MachineState) (run : RunsRuled at deeds now)
    → HasLink deeds → AllLast n at deeds now run → AllKeepLine many n c dev at deeds now run → AreKeptOn (calls_of n at deeds now run)
    → (runs : ControllerRuns at deeds now run) → AllOfDevice many n dev at.controller (calls_in at deeds now run) now.controller runs.calls
    → Waits dev at.controller (calls_in at deeds now run) now.controller runs.calls
    → (took : Took) (new : MachineState) → (does : Does now (Moved (act.Takes took)) new) → HasRules new → is_of n c does.does.frame ≡ true
    → has_bit (shown PxCi now.controller) slot ≡ true → has_bit (shown PxCi new.controller) slot ≡ false → has_bit (shown PxSact new.controller) slot ≡ false
    → (issue : Issue) → issue_at now.controller.core.slots slot ≡ Some issue → issue.dev ≡ dev → is_queued_issue issue ≡ false
    → (is_pio issue.work.kind ≡ true → is_answering does.does.frame.bytes ≡ false → context_of at.controller.core.slots dev ≡ None)
    → IsDoneThere n dev slot old before at first deeds now run p limit base issue does.does.frame

-- where a command that waits leaves its slot only as a Register FIS or a Data FIS of its device is taken
abbrev pub UnqueuedAreOfSlots : Type 0
UnqueuedAreOfSlots = UnqueuedAreOfSlotsIf AllKeepEnding

-- and so where the guest has no queued command in the slots for the device, and no write takes one that waits
abbrev pub PlainUnqueuedAreOfSlots : Type 0
PlainUnqueuedAreOfSlots = UnqueuedAreOfSlotsIf AllUnqueued
