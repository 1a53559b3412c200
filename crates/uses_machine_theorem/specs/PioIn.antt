-- What a caller of a machine knows of the commands of its guest that are not queued, with PIO data-in among them.
use Rattle.std.specs.Prelude.{◌≡◌, ◌<◌, ◌≤◌, ◌+◌, ℕ, Bool, true, false, List, ◌++◌, Some, None}
use Rattle.slots.specs.Slots.{Issue, context_of, has_bit, is_pio, is_queued_issue, issue_at}
use Rattle.hba_fbs.specs.Views.{view_of}
use Rattle.hba_laws.specs.{Agreement.IsTold, History.History}
use Rattle.ahci_registers.specs.declared.register.Register.TheVariants.{PxCi, PxSact}
use Rattle.ahci_controller.specs.{Reading.shown, States.ControllerState, declared.taking.Took.Took}
use Rattle.controller_laws.specs.Events.{Event, Runs}
use Rattle.disk_pages.specs.declared.profile.Profile.{Profile}
use Rattle.sata_disk.specs.{Sending.IsOut, State.{DiskState, new_disk}, declared.out.Out.Out}
use Rattle.sata_disk.specs.declared.out.Out.TheVariants as out
use Rattle.sata_disk_laws.specs.{Calls.{AreCalls, Call}, Laws.reached, Once.{host_of, new_host}}
use Rattle.ahci_machine.specs.{States.{HasRules, MachineState, bay_at}, declared.bay.Unit.TheVariants.Disk}
use Rattle.ahci_machine.specs.declared.act.Act.TheVariants as act
use Rattle.machine_laws.specs.{ControllerLaws.{ControllerRuns, RunsRuled, calls_in}, Deeds.{Deed, Does, Moved}, Falling.{AllLast, HasLink}}
use Rattle.machine_laws.specs.Heard.{HasLived, life_in, no_life}
use Rattle.machine_theorem.specs.{Ending.{AllKeepEnding, AllUnqueued, IsSentLast, ended_in}, Identity.calls_of, InTurn.{AreKeptOn, IsIdle, heard_in, is_answering}}
use Rattle.machine_theorem.specs.{OwnSlots.{AllKeepLine, is_of}, PioIn.IsDoneThere, Settled.{AreSettled, IsBehindLastBlock, IsSettledLast, is_data}}
use Rattle.machine_theorem.specs.{Settled.settled_in, Singles.{AllOfDevice, BeginsIdle}, Tags.once_if, Transfers.is_transferring}
use Rattle.machine_theorem.specs.Waits.{IsWaitingAlone, commanded_in, waits_in}
use Rattle.uses_machine_theorem.specs.Led.{IsLed}

-- Take the last calls of a disk that was new as it was put at its port, from a moment on at which its host waits for nothing, and without a reset. What it
-- settles next is a command of these that was heard behind all that were settled, and its last Data are of the one that was settled last.
abbrev pub KnowsSettled : MachineState → Type 0
KnowsSettled now = (led : IsLed now) (n : ℕ) (d : DiskState) → (bay_at now n).unit ≡ Disk d
    → (lived : HasLived (life_in n no_life led.first led.deeds now led.run) d)
    → (p : Profile) (limit : ℕ) → lived.disk ≡ new_disk p limit → (base calls : List Call)
    → (life_in n no_life led.first led.deeds now led.run).calls ≡ base ++ calls → IsIdle (host_of new_host base) → AreKeptOn calls
    → AreSettled p limit base calls

-- Where in such calls all were settled, the last one by the PIO Setup FIS of its last block, and the command that was settled last moves sectors, Data that
-- go next are of its sectors.
abbrev pub KnowsSectors : MachineState → Type 0
KnowsSectors now = (led : IsLed now) (n : ℕ) (d : DiskState) → (bay_at now n).unit ≡ Disk d
    → (lived : HasLived (life_in n no_life led.first led.deeds now led.run) d)
    → (p : Profile) (limit : ℕ) → lived.disk ≡ new_disk p limit → (base calls : List Call)
    → (life_in n no_life led.first led.deeds now led.run).calls ≡ base ++ calls → IsIdle (host_of new_host base) → AreKeptOn calls
    → heard_in calls ≤ settled_in calls → IsBehindLastBlock calls → (last : IsSettledLast calls) → is_transferring last.bytes ≡ true
    → (o : Out) → IsOut (reached p limit (base ++ calls)) (Some o) → is_data o ≡ true → (n : ℕ) × (o ≡ out.Data 32 n)

-- Behind a moment of a run no more commands were sent to a device than it ended or answered, and one that waits.
abbrev pub KnowsEnding : MachineState → Type 0
KnowsEnding now = (at : MachineState) (led : IsLed at) (deeds : List Deed) (run : RunsRuled at deeds now) (runs : ControllerRuns at deeds now run) (dev : ℕ)
    → AllKeepEnding dev at.controller (calls_in at deeds now run) now.controller runs.calls
    → commanded_in dev at.controller (calls_in at deeds now run) now.controller runs.calls + once_if (waits_in dev at.controller)
    ≤ ended_in dev at.controller (calls_in at deeds now run) now.controller runs.calls + once_if (waits_in dev now.controller)

-- The command that was sent last to a device is the one that waits, as long as one does.
abbrev pub KnowsLast : MachineState → Type 0
KnowsLast now = (led : IsLed now) (dev : ℕ) → dev < 16 → (slot : ℕ) → slot < 32 → (fis : List ℕ) (later : List Event)
    → (last : IsSentLast dev slot fis later now.controller) → (past : History) → IsTold (view_of dev last.at.core) past → waits_in dev now.controller ≡ true
    → IsWaitingAlone dev slot later now.controller

-- A bit of PxCI falls behind a moment at which nothing is under way at a disk as a FIS of it is taken; and the slot has a command for it that is not queued.
-- If this is a PIO data-in that Data end, nothing was set up for the disk at that moment. By this FIS the disk answers or ends what the guest had supplied for
-- this slot, and if that moves sectors, it did all of it, where commands and ends went in turn.
abbrev pub KnowsUnqueuedIf :
    (Waits : (dev : ℕ) → (old : ControllerState) → (events : List Event) → (now : ControllerState) → Runs old events now → Type 0) → MachineState → Type 0
KnowsUnqueuedIf Waits now = (at : MachineState) (led : IsLed at) (many : Bool) (n c dev slot : ℕ) → n < 15 → dev < 16 → slot < 32
    → (begins : BeginsIdle n c at) → (p : Profile) (limit : ℕ) (base : List Call) → AreCalls (new_disk p limit) base → begins.disk ≡ reached p limit base
    → IsIdle (host_of new_host base) → (deeds : List Deed) (run : RunsRuled at deeds now)
    → HasLink deeds → AllLast n at deeds now run → AllKeepLine many n c dev at deeds now run → AreKeptOn (calls_of n at deeds now run)
    → (runs : ControllerRuns at deeds now run) → AllOfDevice many n dev at.controller (calls_in at deeds now run) now.controller runs.calls
    → Waits dev at.controller (calls_in at deeds now run) now.controller runs.calls
    → (took : Took) (new : MachineState) (does : Does now (Moved (act.Takes took)) new) → HasRules new → is_of n c does.does.frame ≡ true
    → has_bit (shown PxCi now.controller) slot ≡ true → has_bit (shown PxCi new.controller) slot ≡ false → has_bit (shown PxSact new.controller) slot ≡ false
    → (issue : Issue) → issue_at now.controller.core.slots slot ≡ Some issue → issue.dev ≡ dev → is_queued_issue issue ≡ false
    → (is_pio issue.work.kind ≡ true → is_answering does.does.frame.bytes ≡ false → context_of at.controller.core.slots dev ≡ None)
    → IsDoneThere n dev slot led.first led.deeds at led.run deeds now run p limit base issue does.does.frame

abbrev pub KnowsUnqueued : MachineState → Type 0
KnowsUnqueued now = KnowsUnqueuedIf AllKeepEnding now

abbrev pub KnowsPlainUnqueued : MachineState → Type 0
KnowsPlainUnqueued now = KnowsUnqueuedIf AllUnqueued now
