-- A guest that sends a disk queued commands alone. The Data that go to its device go of slots with queued writes; and the disk serves queued commands alone, if
-- it takes each command that it hears. So what it takes for a queued write is what the caller had supplied for the slot of its tag, each byte at its number
-- (AHCI 1.3.1, 4.2.3.3 and 5.3; Serial ATA 3.x, 10.5, Data, and 13.6, native command queuing; ACS-3, 4, protocols).
use Rattle.std.specs.Prelude.{ℕ, ◌≡◌, ◌<◌, Bool, true, List, [], ◌∷◌, ◌++◌, drop, Some, Result, Ok}
use Rattle.fis_view.specs.{Frames.Stamped, Seen.seen, declared.view.{Fis.Fis, FisFault.FisFault}}
use Rattle.fis_view.specs.declared.view.Fis.TheVariants as view
use Rattle.slots.specs.{Slots.{Issue, is_queued_issue, issue_at}, declared.work.Kind.TheVariants.QueuedWrite}
use Rattle.hba_fbs.specs.declared.turn.Turn.TheVariants.{Feeds}
use Rattle.ahci_controller.specs.{Next.turn_to, States.ControllerState, declared.{feeding.Fed.TheVariants.Goes, latch.Edge.Edge}}
use Rattle.ata_front.specs.declared.task.Act.TheVariants as front_act
use Rattle.ata_front.specs.declared.task.Task.TheVariants.{Idle}
use Rattle.block_command.specs.declared.command.Command.{Command}
use Rattle.block_queue.specs.Line.{command_at}
use Rattle.sata_disk.specs.{Hearing.{receives, register_told}, State.{DiskState, commands, new_disk}}
use Rattle.sata_disk_books.specs.InTurn.{AreOfQueue, AwaitsNone}
use Rattle.sata_disk_laws.specs.{Calls.{AreCalls, Call, Hears, Plugs, after_call}, Laws.reached}
use Rattle.ahci_machine.specs.States.{IsOpeningMachine, MachineState, bay_at}
use Rattle.ahci_machine.specs.declared.act.Act.TheVariants as act
use Rattle.machine_laws.specs.{ControllerLaws.{RunsRuled, calls_in}, Deeds.{Deed, Does, Moved}, Falling.{AllLast, HasLink}, Feeding.came_in}
use Rattle.machine_theorem.specs.{Brought.{AllTakenWell, DiskStretch}, Crossing.IsForPlace, Identity.{AllKeep, IsAtRest, calls_of}}
use Rattle.machine_theorem.specs.{OwnSlots.{AllKeepLine, BeginsClear, NoneLost}, OwnWrites.AreOwnData, QueuedOnly.SendsQueued}
use Rattle.machine_theorem.specs.TakenWrites.{IsSuppliedWrite}

-- ---- the guest

-- each command that is issued for the device is queued
abbrev pub HasQueued : (dev : ℕ) → ControllerState → Type 0
HasQueued dev c = (slot : ℕ) (issue : Issue) → issue_at c.core.slots slot ≡ Some issue → issue.dev ≡ dev → is_queued_issue issue ≡ true

-- so it is at each machine of a run, the first and the last, too
abbrev pub AllQueued : (dev : ℕ) → (old : MachineState) → (deeds : List Deed) → (now : MachineState) → RunsRuled old deeds now → Type 0
AllQueued dev old [] now run = HasQueued dev old.controller
AllQueued dev old (deed ∷ later) now run = HasQueued dev old.controller × AllQueued dev run.1.0 later now run.1.2

-- ---- the Data that go

-- They go of a slot in which a queued write of the device is issued.
pub record GoOfQueuedWrite (c : ControllerState) (dev : ℕ) : Type 0 where
  pub slot : ℕ
  pub offset : ℕ
  pub len : ℕ
  pub is : turn_to c dev ≡ Feeds dev slot offset len
  pub issue : Issue
  pub there : issue_at c.core.slots slot ≡ Some issue
  pub of_dev : issue.dev ≡ dev
  pub kind : issue.work.kind ≡ QueuedWrite

-- So it is of each Data FIS that goes to a device for which queued commands alone are issued, over every run from a machine that opens.
abbrev pub DataGoOfQueuedWrites : Type 0
DataGoOfQueuedWrites = (ports : ℕ) (legacy : Bool) (old : MachineState) → IsOpeningMachine ports legacy old
    → (deeds : List Deed) (now : MachineState) → RunsRuled old deeds now → (dev : ℕ) → HasQueued dev now.controller
    → (message : Bool) (line : Edge) (new : MachineState) → Does now (Moved (act.Gathers dev (Goes message line))) new → GoOfQueuedWrite now.controller dev

-- ---- what the disk serves

-- it takes the command of a FIS
pub record TakesIt (d : DiskState) (f : List ℕ) : Type 0 where
  pub command : Command
  pub takes : (register_told d f).act ≡ front_act.Takes command

abbrev pub IsTaken : DiskState → Result Fis FisFault → Type 0
IsTaken d (Ok (view.RegH2D f)) = TakesIt d f
IsTaken d other = Unit {0}

-- The disk is not plugged in anew. It takes the command of each Register FIS that it hears: none is refused, and none sets or clears SRST.
abbrev pub TakesBy : DiskState → Call → Type 0
TakesBy d Plugs = ⊥
TakesBy d (Hears f) = IsTaken d (seen f)
TakesBy d other = Unit {0}

abbrev pub TakesAll : DiskState → List Call → Type 0
TakesAll d [] = Unit {0}
TakesAll d (c ∷ later) = TakesBy d c × TakesAll (after_call d c) later

-- it owes its host nothing of itself: no answer, no page, and no end of a command that is not queued
abbrev pub OwesNothing : DiskState → Type 0
OwesNothing d = d.front.task ≡ Idle

-- Over each stretch that begins so, and in which the guest sends this disk queued commands alone, and the disk takes each: it serves queued commands alone.
-- All Data that it hears are for queued commands, and all that it sends is of queued commands.
abbrev pub QueuedAloneIsServed : Type 0
QueuedAloneIsServed = (ports : ℕ) (legacy : Bool) (s : DiskStretch) → IsOpeningMachine ports legacy s.old → s.n < 15 → s.tag < 32
    → (rest : IsAtRest s.many s.n s.tag s.old s.before s.at s.first) → HasLink s.deeds → AllLast s.n s.at s.deeds s.now s.run
    → AllKeep s.many s.n s.tag s.at s.deeds s.now s.run → AreCalls (new_disk s.p s.limit) s.base → rest.disk ≡ reached s.p s.limit s.base
    → SendsQueued s → OwesNothing (reached s.p s.limit s.base) → TakesAll (reached s.p s.limit s.base) (calls_of s.n s.at s.deeds s.now s.run)
    → AreOfQueue (reached s.p s.limit s.base) (calls_of s.n s.at s.deeds s.now s.run)

-- ---- what it takes for a queued write

-- The FIS went of the slot of the tag, with a queued write. Its first byte has the number of those that came for the command before, and its payload is what
-- the caller had supplied for the slot from that byte on.
pub record IsFedWrite (s : DiskStretch) (dev : ℕ) (f : Stamped) : Type 0 where
  pub write : IsSuppliedWrite s.many s.n dev s.tag s.old s.before s.at s.first s.deeds s.now s.run s.p s.limit s.base f
  pub kind : write.went.goes.issue.work.kind ≡ QueuedWrite
  pub place : IsForPlace s.p s.limit (s.base ++ calls_of s.n s.at s.deeds s.now s.run) s.tag write.went.goes.slot write.went.goes.offset
  pub payload : drop 4 f.bytes ≡ came_in dev [] s.old (s.before ++ write.went.before) write.went.mid write.whole.all

-- So it is over each stretch as in `WritesAreAsSupplied`, of such a guest and such a disk.
abbrev pub QueuedWritesAreAsSupplied : Type 0
QueuedWritesAreAsSupplied = (ports : ℕ) (legacy : Bool) (s : DiskStretch) → IsOpeningMachine ports legacy s.old
    → (c dev : ℕ) → s.n < 15 → dev < 16 → s.tag < 32
    → (rest : IsAtRest s.many s.n s.tag s.old s.before s.at s.first) → BeginsClear s.n c dev s.at
    → HasLink s.deeds → AllLast s.n s.at s.deeds s.now s.run → AllKeep s.many s.n s.tag s.at s.deeds s.now s.run
    → AllKeepLine s.many s.n c dev s.at s.deeds s.now s.run → AllTakenWell dev s.at s.deeds s.now s.run → NoneLost dev (calls_in s.at s.deeds s.now s.run)
    → AreOwnData s.many s.n dev (calls_in s.at s.deeds s.now s.run)
    → AreCalls (new_disk s.p s.limit) s.base → rest.disk ≡ reached s.p s.limit s.base → AwaitsNone (reached s.p s.limit s.base)
    → SendsQueued s → AllQueued dev s.at s.deeds s.now s.run → OwesNothing (reached s.p s.limit s.base)
    → TakesAll (reached s.p s.limit s.base) (calls_of s.n s.at s.deeds s.now s.run)
    → (f : Stamped) → (bay_at s.now s.n).down ≡ Some f → (v : List ℕ) → seen f.bytes ≡ Ok (view.Payload v)
    → receives (command_at (commands (reached s.p s.limit (s.base ++ calls_of s.n s.at s.deeds s.now s.run))) s.tag) ≡ true
    → IsFedWrite s dev f
