-- What a caller of a machine knows of the commands under way at its disks and of the slots of these numbers.
use Rattle.std.specs.Prelude.{◌≡◌, ◌<◌, ◌≤◌, ◌+◌, ◌==◌, ℕ, Bool, true, false, List, Some, ◌++◌, ◌⊎◌, ◌∷◌}
use Rattle.slots.specs.{Bytes.is_over, Slots.{Issue, has_bit, holds, issue_at}, declared.work.Kind.TheVariants.QueuedRead}
use Rattle.fis_view.specs.Frames.{Stamped}
use Rattle.hba_fbs.specs.{Taking.port_of, Views.view_of, declared.report.Wrote.Wrote}
use Rattle.hba_laws.specs.{Agreement.IsTold, History.History}
use Rattle.ahci_registers.specs.declared.register.Register.TheVariants.{PxSact}
use Rattle.ahci_controller.specs.{Reading.shown, Taking.is_overflow, declared.taking.Took.Took}
use Rattle.block_command.specs.Moments.{Moment}
use Rattle.block_disk.specs.Table.{is_under_way}
use Rattle.block_queue.specs.Line.{command_at}
use Rattle.ata_reply.specs.declared.reply.Reply.TheVariants as replies
use Rattle.disk_pages.specs.declared.profile.Profile.{Profile}
use Rattle.sata_disk.specs.{Sending.IsOut, State.{DiskState, commands, new_disk}, declared.out.Out.Out}
use Rattle.sata_disk.specs.declared.out.Out.TheVariants as out
use Rattle.sata_disk_laws.specs.{Calls.{AreCalls, Call, Hears}, Laws.reached, Once.{host_of, new_host}}
use Rattle.sata_disk_media.specs.Media.{IsHonest}
use Rattle.ahci_machine.specs.{States.{HasRules, MachineState, bay_at}, declared.bay.Unit.TheVariants.Disk}
use Rattle.ahci_machine.specs.declared.act.Act.TheVariants as act
use Rattle.machine_laws.specs.{ControllerLaws.{ControllerRuns, RunsRuled, calls_in}, Deeds.{Deed, Does, Moved}, Falling.{AllLast, HasLink}}
use Rattle.machine_laws.specs.Heard.{HasLived, life_in, no_life}
use Rattle.machine_theorem.specs.{Brought.{AllTakenWell, ByteIsBrought, ByteIsRead, DiskStretch, IsReadDone}, Completions.IsDone, Filled.WasBrought}
use Rattle.machine_theorem.specs.{Following.AllHeardWell, Given.{IsGiven, IsGivenData}, Identity.{AllKeep, IsAtRest, IsTheSlots, own_of, calls_of}}
use Rattle.machine_theorem.specs.{Orders.{fallen_in, is_sent_of, ordered_in, standing_in}, InTurn.{AreKeptOn, IsAnswered, IsIdle, answered_in}}
use Rattle.machine_theorem.specs.{InTurn.{heard_in, is_answer}, OwnSlots.{AllKeepLine, BeginsClear, NoneLost, is_of}, QueuedOnly.ByteIsOfDisk}
use Rattle.machine_theorem.specs.{QueuedOnly.SendsQueued, FirstDeeds.{first_deeds, first_run, machine_at}, ReadBack.{Falls, FallsAt, IsReadBack}}
use Rattle.machine_theorem.specs.{Reads.IsBroughtAsRead, ReadsFollow.IsFollowed, ReadsWritten.ByteIsWritten, Tags.{IsCounted}}
use Rattle.machine_theorem.specs.{Transfers.{fails, is_transferring}}
use Rattle.uses_machine_theorem.specs.Led.{IsLed}

-- of each tag no more commands ended at a disk than it heard, if it was new as it was put at its port
abbrev pub KnowsTags : MachineState → Type 0
KnowsTags now = (led : IsLed now) (n : ℕ) (d : DiskState) → (bay_at now n).unit ≡ Disk d → (lived : HasLived (life_in n no_life led.first led.deeds now led.run) d)
    → (p : Profile) (limit : ℕ) → lived.disk ≡ new_disk p limit → (tag : ℕ) → tag < 32 → IsCounted p limit (life_in n no_life led.first led.deeds now led.run).calls d tag

-- behind a moment of a run no more queued commands were sent from a slot than its bit of PxSACT fell, but the one that stands
abbrev pub KnowsOrders : MachineState → Type 0
KnowsOrders now = (at : MachineState) (led : IsLed at) (deeds : List Deed) (run : RunsRuled at deeds now) (own : ℕ → Bool) (slot : ℕ) → slot < 32
    → ordered_in own slot at deeds now run + standing_in own slot at.controller ≤ fallen_in own slot at deeds now run + standing_in own slot now.controller

-- Behind a moment at rest a command that is under way under a tag is the one in the slot of this number, if the guest kept to the standard.
abbrev pub KnowsSlots : MachineState → Type 0
KnowsSlots now = (at : MachineState) (led : IsLed at) (many : Bool) (n tag : ℕ) → n < 15 → tag < 32 → (rest : IsAtRest many n tag led.first led.deeds at led.run)
    → (deeds : List Deed) (run : RunsRuled at deeds now) → HasLink deeds → AllLast n at deeds now run → AllKeep many n tag at deeds now run
    → (p : Profile) (limit : ℕ) (base : List Call) → AreCalls (new_disk p limit) base → rest.disk ≡ reached p limit base
    → (d : DiskState) → (bay_at now n).unit ≡ Disk d → (m : Moment) → command_at (commands d) tag ≡ Some m → is_under_way (Some m) ≡ true
    → IsTheSlots many n tag at deeds now run p limit base m.command

-- A command that is under way at a disk behind such a moment is the one that the guest had supplied for the slot of its tag.
abbrev pub KnowsGiven : MachineState → Type 0
KnowsGiven now = (at : MachineState) (led : IsLed at) (many : Bool) (n tag : ℕ) → n < 15 → tag < 32 → (rest : IsAtRest many n tag led.first led.deeds at led.run)
    → (deeds : List Deed) (run : RunsRuled at deeds now) → HasLink deeds → AllLast n at deeds now run → AllKeep many n tag at deeds now run
    → (p : Profile) (limit : ℕ) (base : List Call) → AreCalls (new_disk p limit) base → rest.disk ≡ reached p limit base
    → (d : DiskState) → (bay_at now n).unit ≡ Disk d → (m : Moment) → command_at (commands d) tag ≡ Some m → is_under_way (Some m) ≡ true
    → IsGiven many n tag led.first led.deeds at led.run deeds now run p limit base m.command

-- Data of a tag that a disk sends behind such a moment are the next bytes that the caller gave for the sectors of this command.
abbrev pub KnowsData : MachineState → Type 0
KnowsData now = (at : MachineState) (led : IsLed at) (many : Bool) (n tag : ℕ) → n < 15 → tag < 32 → (rest : IsAtRest many n tag led.first led.deeds at led.run)
    → (deeds : List Deed) (run : RunsRuled at deeds now) → HasLink deeds → AllLast n at deeds now run → AllKeep many n tag at deeds now run
    → (p : Profile) (limit : ℕ) (base : List Call) → AreCalls (new_disk p limit) base → rest.disk ≡ reached p limit base
    → (len : ℕ) (new : MachineState) (does : Does now (Moved (act.Speaks n (out.Data tag len))) new)
    → IsGivenData many n tag len led.first led.deeds at led.run deeds now run p limit base new does

-- A bit of PxSACT falls as a FIS is taken behind such a moment, and the slot has a command for the disk: the disk had ended what the guest had supplied for this
-- command, and did all of it.
abbrev pub KnowsEnds : MachineState → Type 0
KnowsEnds now = (at : MachineState) (led : IsLed at) (many : Bool) (n tag : ℕ) → n < 15 → tag < 32 → (rest : IsAtRest many n tag led.first led.deeds at led.run)
    → (deeds : List Deed) (run : RunsRuled at deeds now) → HasLink deeds → AllLast n at deeds now run → AllKeep many n tag at deeds now run
    → (p : Profile) (limit : ℕ) (base : List Call) → AreCalls (new_disk p limit) base → rest.disk ≡ reached p limit base
    → (took : Took) (new : MachineState) (does : Does now (Moved (act.Takes took)) new) → HasRules new
    → has_bit (shown PxSact now.controller) tag ≡ true → has_bit (shown PxSact new.controller) tag ≡ false
    → (issue : Issue) → issue_at now.controller.core.slots tag ≡ Some issue → own_of many n issue.dev ≡ true
    → IsDone many n tag led.first led.deeds at led.run deeds now run p limit base does.does.frame

-- Data that come behind such a moment for the slot of the tag, in which a queued read is issued, are those that the disk sent for the command that the guest had
-- supplied there, and each byte has the number of the one that the caller gave for its sectors, while no FIS of the disk is lost or at fault.
abbrev pub KnowsReads : MachineState → Type 0
KnowsReads now = (at : MachineState) (led : IsLed at) (many : Bool) (n c dev tag : ℕ) → n < 15 → dev < 16 → tag < 32
    → (rest : IsAtRest many n tag led.first led.deeds at led.run) → BeginsClear n c dev at → (deeds : List Deed) (run : RunsRuled at deeds now)
    → HasLink deeds → AllLast n at deeds now run → AllKeep many n tag at deeds now run → AllKeepLine many n c dev at deeds now run
    → (runs : ControllerRuns at deeds now run) → AllHeardWell dev at.controller (calls_in at deeds now run) now.controller runs.calls
    → NoneLost dev (calls_in at deeds now run)
    → (p : Profile) (limit : ℕ) (base : List Call) → AreCalls (new_disk p limit) base → rest.disk ≡ reached p limit base
    → (took : Took) (new : MachineState) (does : Does now (Moved (act.Takes took)) new) → is_of n c does.does.frame ≡ true
    → port_of does.does.frame.bytes ≡ dev → is_overflow took.report.fault ≡ false → (wrote : Wrote) → took.brought ≡ Some wrote → wrote.slot ≡ tag
    → (issue : Issue) → issue_at now.controller.core.slots wrote.slot ≡ Some issue → issue.work.kind ≡ QueuedRead
    → IsBroughtAsRead many n tag led.first led.deeds at led.run deeds p limit base does.does.frame wrote

-- Where the guest sees a queued read completed, each byte of it was brought at a moment of the run that led to the machine, and nothing was issued in the slot
-- since then; and so it is of each stretch that begins where no queued command of the device that was sent stands in the slot.
abbrev pub KnowsBrought : MachineState → Type 0
KnowsBrought now = (led : IsLed now) (slot : ℕ) → slot < 32 → (issue : Issue) → IsReadDone now slot issue
    → (k : ℕ) → k < issue.work.len → ByteIsBrought issue.dev slot k led.first led.deeds now led.run

abbrev pub KnowsBroughtSince : MachineState → Type 0
KnowsBroughtSince now = (at : MachineState) (led : IsLed at) (deeds : List Deed) (run : RunsRuled at deeds now) (slot : ℕ) → slot < 32
    → (issue : Issue) → IsReadDone now slot issue → holds (is_sent_of (λ dev. dev == issue.dev)) (issue_at at.controller.core.slots slot) ≡ false
    → (k : ℕ) → k < issue.work.len → ByteIsBrought issue.dev slot k at deeds now run

-- And each was written at its place before the bit falls.
abbrev pub KnowsWritten : MachineState → Type 0
KnowsWritten now = (led : IsLed now) (slot : ℕ) → slot < 32 → (issue : Issue) → IsReadDone now slot issue
    → (k : ℕ) → k < issue.work.len → ByteIsWritten issue.dev slot k led.first led.deeds now led.run

abbrev pub stretch_of : (many : Bool) → (n tag : ℕ) → (at : MachineState) → IsLed at → (deeds : List Deed) → (now : MachineState) → RunsRuled at deeds now
    → Profile → (limit : ℕ) → List Call → DiskStretch
stretch_of many n tag at led deeds now run p limit base = record {
  many = many;
  n = n;
  tag = tag;
  old = led.first;
  before = led.deeds;
  at = at;
  first = led.run;
  deeds = deeds;
  now = now;
  run = run;
  p = p;
  limit = limit;
  base = base;
}

-- Behind a moment at rest it is the byte of its number that the caller gave for the command that the guest had supplied there, while no FIS of the disk is lost
-- or at fault.
abbrev pub KnowsBytes : MachineState → Type 0
KnowsBytes now = (at : MachineState) (led : IsLed at) (many : Bool) (n c dev tag : ℕ) → n < 15 → dev < 16 → tag < 32
    → (rest : IsAtRest many n tag led.first led.deeds at led.run) → BeginsClear n c dev at → (deeds : List Deed) (run : RunsRuled at deeds now)
    → HasLink deeds → AllLast n at deeds now run → AllKeep many n tag at deeds now run → AllKeepLine many n c dev at deeds now run
    → AllTakenWell dev at deeds now run → NoneLost dev (calls_in at deeds now run)
    → (p : Profile) (limit : ℕ) (base : List Call) → AreCalls (new_disk p limit) base → rest.disk ≡ reached p limit base
    → (issue : Issue) → IsReadDone now tag issue → issue.dev ≡ dev → own_of many n dev ≡ true → (k : ℕ) → k < issue.work.len
    → ByteIsRead (stretch_of many n tag at led deeds now run p limit base) dev k

-- So it is, whatever it is, where the guest sends this disk queued commands alone.
abbrev pub KnowsQueued : MachineState → Type 0
KnowsQueued now = (at : MachineState) (led : IsLed at) (many : Bool) (n c dev tag : ℕ) → n < 15 → dev < 16 → tag < 32
    → (rest : IsAtRest many n tag led.first led.deeds at led.run) → BeginsClear n c dev at → (deeds : List Deed) (run : RunsRuled at deeds now)
    → HasLink deeds → AllLast n at deeds now run → AllKeep many n tag at deeds now run → AllKeepLine many n c dev at deeds now run
    → AllTakenWell dev at deeds now run → NoneLost dev (calls_in at deeds now run)
    → (p : Profile) (limit : ℕ) (base : List Call) → AreCalls (new_disk p limit) base → rest.disk ≡ reached p limit base
    → SendsQueued (stretch_of many n tag at led deeds now run p limit base)
    → (issue : Issue) → IsReadDone now tag issue → issue.dev ≡ dev → own_of many n dev ≡ true → (k : ℕ) → k < issue.work.len
    → ByteIsOfDisk (stretch_of many n tag at led deeds now run p limit base) dev k

-- The controller of the machine holds no byte for one that came which was not brought.
abbrev pub KnowsFilled : MachineState → Type 0
KnowsFilled now = (at : MachineState) (deeds : List Deed) (run : RunsRuled at deeds now) → ControllerRuns at deeds now run → (n : ℕ) → n < 16 → (slot : ℕ) → slot < 32
    → (past : History) → IsTold (view_of n at.controller.core) past → holds (is_sent_of (λ dev. dev == n)) (issue_at at.controller.core.slots slot) ≡ false
    → (issue : Issue) → issue_at now.controller.core.slots slot ≡ Some issue → issue.dev ≡ n → issue.work.kind ≡ QueuedRead
    → (k : ℕ) → is_over issue.over k ≡ true → WasBrought n slot k at.controller (calls_in at deeds now run) now.controller

-- The bit of w falls behind such a moment as a FIS is taken, then slot r is free, and then Data come for a queued read in slot r: they have the bytes of what
-- was written by the command whose bit fell, if the medium gives what it was last told to keep, and nothing else was stored or discarded there in between.
abbrev pub KnowsReadBack : MachineState → Type 0
KnowsReadBack now = (at : MachineState) (led : IsLed at) (many : Bool) (n c dev w r : ℕ) → n < 15 → dev < 16 → w < 32 → r < 32
    → (rest : IsAtRest many n w led.first led.deeds at led.run) → IsAtRest many n r led.first led.deeds at led.run → BeginsClear n c dev at
    → (deeds : List Deed) (run : RunsRuled at deeds now) → HasLink deeds → AllLast n at deeds now run
    → AllKeep many n w at deeds now run → AllKeep many n r at deeds now run → AllKeepLine many n c dev at deeds now run
    → (runs : ControllerRuns at deeds now run) → AllHeardWell dev at.controller (calls_in at deeds now run) now.controller runs.calls
    → NoneLost dev (calls_in at deeds now run)
    → (p : Profile) (limit : ℕ) (base : List Call) → AreCalls (new_disk p limit) base → rest.disk ≡ reached p limit base
    → IsHonest p limit (base ++ calls_of n at deeds now run)
    → (k : ℕ) (end : Stamped) → FallsAt (own_of many n) w r end k at deeds now run
    → (took : Took) (new : MachineState) (does : Does now (Moved (act.Takes took)) new) → is_of n c does.does.frame ≡ true
    → port_of does.does.frame.bytes ≡ dev → is_overflow took.report.fault ≡ false → (wrote : Wrote) → took.brought ≡ Some wrote → wrote.slot ≡ r
    → (issue : Issue) → issue_at now.controller.core.slots wrote.slot ≡ Some issue → issue.work.kind ≡ QueuedRead
    → IsReadBack many n w r led.first led.deeds at led.run (first_deeds k deeds) (machine_at k at deeds now run) (first_run k at deeds now run) deeds
    p limit base end does.does.frame wrote

-- The bit of w falls behind such a moment as a FIS is taken, then slot r is free, and then the bit of r falls as a FIS is taken: if the one is a write and the
-- other a read, the Data that the disk sent for the read have the bytes of what was written, if the medium and what is in between are so.
abbrev pub KnowsFollowing : MachineState → Type 0
KnowsFollowing now = (at : MachineState) (led : IsLed at) (many : Bool) (n w r : ℕ) → n < 15 → w < 32 → r < 32
    → (rest : IsAtRest many n w led.first led.deeds at led.run) → IsAtRest many n r led.first led.deeds at led.run
    → (deeds : List Deed) (run : RunsRuled at deeds now) → HasLink deeds → AllLast n at deeds now run
    → AllKeep many n w at deeds now run → AllKeep many n r at deeds now run
    → (p : Profile) (limit : ℕ) (base : List Call) → AreCalls (new_disk p limit) base → rest.disk ≡ reached p limit base
    → IsHonest p limit (base ++ calls_of n at deeds now run)
    → (k : ℕ) (end : Stamped) → FallsAt (own_of many n) w r end k at deeds now run
    → (took : Took) (new : MachineState) (does : Does now (Moved (act.Takes took)) new) → HasRules new → Falls (own_of many n) r now new
    → IsFollowed many n w r led.first led.deeds at led.run (first_deeds k deeds) (machine_at k at deeds now run) (first_run k at deeds now run) deeds now run
    p limit base end does.does.frame

-- Take the last calls of a disk that was new as it was put at its port, from a moment on at which its host waits for nothing, and without a reset. What it
-- answers next is a command of these that was heard behind all that were answered.
abbrev pub KnowsTurns : MachineState → Type 0
KnowsTurns now = (led : IsLed now) (n : ℕ) (d : DiskState) → (bay_at now n).unit ≡ Disk d
    → (lived : HasLived (life_in n no_life led.first led.deeds now led.run) d)
    → (p : Profile) (limit : ℕ) → lived.disk ≡ new_disk p limit → (base calls : List Call)
    → (life_in n no_life led.first led.deeds now led.run).calls ≡ base ++ calls → IsIdle (host_of new_host base) → AreKeptOn calls
    → IsAnswered p limit base calls

-- Of a command that moves sectors and is not queued such an answer says that it ended well, or that it failed.
abbrev pub KnowsTransfers : MachineState → Type 0
KnowsTransfers now = (led : IsLed now) (n : ℕ) (d : DiskState) → (bay_at now n).unit ≡ Disk d
    → (lived : HasLived (life_in n no_life led.first led.deeds now led.run) d)
    → (p : Profile) (limit : ℕ) → lived.disk ≡ new_disk p limit → (before : List Call) (bytes : List ℕ) (later : List Call)
    → (life_in n no_life led.first led.deeds now led.run).calls ≡ before ++ Hears bytes ∷ later → is_transferring bytes ≡ true
    → IsIdle (host_of new_host before)
    → AreKeptOn later → heard_in later ≡ 0 → answered_in later ≡ 0 → (o : Out) → IsOut d (Some o) → is_answer o ≡ true
    → (o ≡ out.Of 32 replies.Done) ⊎ (fails o ≡ true)
