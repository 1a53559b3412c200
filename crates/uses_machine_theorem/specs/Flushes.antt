-- What a caller of a machine knows of FLUSH CACHE, as its guest sees it completed.
use Rattle.std.specs.Prelude.{ℕ, ◌≡◌, ◌<◌, ◌⊎◌, Bool, true, false, List, ◌∷◌, ◌++◌, Some}
use Rattle.slots.specs.Slots.{Issue, has_bit, is_pio, is_queued_issue, issue_at}
use Rattle.ahci_registers.specs.declared.register.Register.TheVariants.{PxCi, PxSact}
use Rattle.ahci_controller.specs.{Reading.shown, States.ControllerState, declared.taking.Took.Took}
use Rattle.controller_laws.specs.Events.{Event, Runs}
use Rattle.ata_reply.specs.declared.reply.Reply.TheVariants as replies
use Rattle.disk_pages.specs.declared.profile.Profile.{Profile}
use Rattle.sata_disk.specs.{Sending.{IsFis, IsOut}, State.{DiskState, new_disk}, declared.out.Out.Out}
use Rattle.sata_disk.specs.declared.out.Out.TheVariants as out
use Rattle.sata_disk_laws.specs.{Calls.{AreCalls, Call, Hears}, Laws.reached, Once.{host_of, new_host}}
use Rattle.ahci_machine.specs.{States.{HasRules, MachineState, bay_at}, declared.bay.Unit.TheVariants.Disk}
use Rattle.ahci_machine.specs.declared.act.Act.TheVariants as act
use Rattle.machine_laws.specs.{ControllerLaws.{ControllerRuns, RunsRuled, calls_in}, Deeds.{Deed, Does, Moved}, Falling.{AllLast, HasLink}}
use Rattle.machine_laws.specs.Heard.{HasLived, life_in, no_life}
use Rattle.machine_theorem.specs.{Completions.IsDone, Flushes.IsFlushDone, FlushesFollow.{AreLeft, FlushesWrites, WasWritten}, Flushing.HasFlushed}
use Rattle.machine_theorem.specs.{Flushing.{is_failure, is_flushing}, Identity.{AllKeep, IsAtRest, calls_of, own_of}, InTurn.{AreKeptOn, IsIdle}}
use Rattle.machine_theorem.specs.{InTurn.{answered_in, heard_in, is_answer, is_answering}, OwnSlots.{AllKeepLine, is_of}, Singles.{AllOfDevice, BeginsIdle}}
use Rattle.machine_theorem.specs.{PioIn.IsDoneThere, Transfers.is_transferring}
use Rattle.uses_machine_theorem.specs.Led.{IsLed}

-- Take a disk that was new as it was put at its port, and a FLUSH CACHE that it heard while its host waited for nothing, and as the last command. What it
-- answers next says that this ended well, and then its caller had flushed since; or that it failed.
abbrev pub KnowsFlushAnswers : MachineState → Type 0
KnowsFlushAnswers now = (led : IsLed now) (n : ℕ) (d : DiskState) → (bay_at now n).unit ≡ Disk d
    → (lived : HasLived (life_in n no_life led.first led.deeds now led.run) d)
    → (p : Profile) (limit : ℕ) → lived.disk ≡ new_disk p limit → (before : List Call) (bytes : List ℕ) (later : List Call)
    → (life_in n no_life led.first led.deeds now led.run).calls ≡ before ++ Hears bytes ∷ later → is_flushing bytes ≡ true
    → IsIdle (host_of new_host before) → AreKeptOn later → heard_in later ≡ 0 → answered_in later ≡ 0
    → (o : Out) (fis : List ℕ) → IsOut d (Some o) → IsFis d o fis → is_answer o ≡ true → HasFlushed later o ⊎ (is_failure o ≡ true)

-- A bit of PxCI falls behind a moment at which nothing is under way at a disk as a FIS of it is taken, and the slot has a command for it, not queued: the
-- disk answers by this FIS what the guest had supplied for this slot, and if that is a FLUSH CACHE, its caller had flushed for it, where commands and answers
-- went in turn.
abbrev pub KnowsFlushes :
    (Waits : (dev : ℕ) → (old : ControllerState) → (events : List Event) → (now : ControllerState) → Runs old events now → Type 0) → MachineState → Type 0
KnowsFlushes Waits now = (at : MachineState) (led : IsLed at) (many : Bool) (n c dev slot : ℕ) → n < 15 → dev < 16 → slot < 32
    → (begins : BeginsIdle n c at) → (p : Profile) (limit : ℕ) (base : List Call) → AreCalls (new_disk p limit) base → begins.disk ≡ reached p limit base
    → IsIdle (host_of new_host base) → (deeds : List Deed) (run : RunsRuled at deeds now)
    → HasLink deeds → AllLast n at deeds now run → AllKeepLine many n c dev at deeds now run → AreKeptOn (calls_of n at deeds now run)
    → (runs : ControllerRuns at deeds now run) → AllOfDevice many n dev at.controller (calls_in at deeds now run) now.controller runs.calls
    → Waits dev at.controller (calls_in at deeds now run) now.controller runs.calls
    → (took : Took) (new : MachineState) (does : Does now (Moved (act.Takes took)) new) → HasRules new → is_of n c does.does.frame ≡ true
    → has_bit (shown PxCi now.controller) slot ≡ true → has_bit (shown PxCi new.controller) slot ≡ false → has_bit (shown PxSact new.controller) slot ≡ false
    → (issue : Issue) → issue_at now.controller.core.slots slot ≡ Some issue → issue.dev ≡ dev → is_queued_issue issue ≡ false → is_pio issue.work.kind ≡ false
    → IsFlushDone n dev slot led.first led.deeds at led.run deeds now run p limit base issue does.does.frame

-- Where such a command moves sectors, the disk says that it ended well. If it is a write, the guest has seen this write completed: so a FLUSH CACHE that goes
-- from its slot behind this machine, or whose stretch begins here or later, reaches it.
abbrev pub KnowsWrittenSingles :
    (Waits : (dev : ℕ) → (old : ControllerState) → (events : List Event) → (now : ControllerState) → Runs old events now → Type 0) → MachineState → Type 0
KnowsWrittenSingles Waits now = (at : MachineState) (led : IsLed at) (many : Bool) (n c dev slot : ℕ) → n < 15 → dev < 16 → slot < 32
    → (begins : BeginsIdle n c at) → (p : Profile) (limit : ℕ) (base : List Call) → AreCalls (new_disk p limit) base → begins.disk ≡ reached p limit base
    → IsIdle (host_of new_host base) → (deeds : List Deed) (run : RunsRuled at deeds now)
    → HasLink deeds → AllLast n at deeds now run → AllKeepLine many n c dev at deeds now run → AreKeptOn (calls_of n at deeds now run)
    → (runs : ControllerRuns at deeds now run) → AllOfDevice many n dev at.controller (calls_in at deeds now run) now.controller runs.calls
    → Waits dev at.controller (calls_in at deeds now run) now.controller runs.calls
    → (took : Took) (new : MachineState) (does : Does now (Moved (act.Takes took)) new) → HasRules new → is_of n c does.does.frame ≡ true
    → has_bit (shown PxCi now.controller) slot ≡ true → has_bit (shown PxCi new.controller) slot ≡ false → has_bit (shown PxSact new.controller) slot ≡ false
    → (issue : Issue) → issue_at now.controller.core.slots slot ≡ Some issue → issue.dev ≡ dev → is_queued_issue issue ≡ false → is_pio issue.work.kind ≡ false
    → (done : IsDoneThere n dev slot led.first led.deeds at led.run deeds now run p limit base issue does.does.frame)
    × (answering : is_answering does.does.frame.bytes ≡ true) × (is_transferring (done.answers answering).command.bytes ≡ true
    → (said : done.said ≡ out.Of 32 replies.Done)
    × ((done.slots said).page.command.write ≡ true → WasWritten n led.first now p limit (base ++ calls_of n at deeds now run) (done.slots said).page))

-- Before that a queued command completed whose bit of PxSACT fell behind a stretch that began at rest, and the disk stayed at its port. If it was a write, it is
-- one of those of which each sector was stored, and flushed behind that.
abbrev pub KnowsFlushedWrites :
    (Waits : (dev : ℕ) → (old : ControllerState) → (events : List Event) → (now : ControllerState) → Runs old events now → Type 0) → MachineState → Type 0
KnowsFlushedWrites Waits now = (first : MachineState) (old : IsLed first) (many : Bool) (n tag : ℕ) → n < 15 → tag < 32
    → (rest : IsAtRest many n tag old.first old.deeds first old.run) → (sooner : List Deed) (seen : MachineState) (run_first : RunsRuled first sooner seen)
    → HasLink sooner → AllLast n first sooner seen run_first → AllKeep many n tag first sooner seen run_first
    → (p : Profile) (limit : ℕ) (base : List Call) → AreCalls (new_disk p limit) base → rest.disk ≡ reached p limit base
    → (end : Took) (fallen : MachineState) (falls : Does seen (Moved (act.Takes end)) fallen) → HasRules fallen
    → has_bit (shown PxSact seen.controller) tag ≡ true → has_bit (shown PxSact fallen.controller) tag ≡ false
    → (queued : Issue) → issue_at seen.controller.core.slots tag ≡ Some queued → own_of many n queued.dev ≡ true
    -- then these deeds, behind which nothing is under way at the disk
    → (since : List Deed) (at : MachineState) (run_on : RunsRuled fallen since at) → AreLeft n since
    → (all : RunsRuled old.first ((old.deeds ++ sooner) ++ Moved (act.Takes end) ∷ since) at)
    → (c dev slot : ℕ) → dev < 16 → slot < 32 → (begins : BeginsIdle n c at)
    → IsIdle (host_of new_host (base ++ calls_of n first sooner seen run_first ++ calls_of n fallen since at run_on))
    → (deeds : List Deed) (run : RunsRuled at deeds now)
    → HasLink deeds → AllLast n at deeds now run → AllKeepLine many n c dev at deeds now run → AreKeptOn (calls_of n at deeds now run)
    → (runs : ControllerRuns at deeds now run) → AllOfDevice many n dev at.controller (calls_in at deeds now run) now.controller runs.calls
    → Waits dev at.controller (calls_in at deeds now run) now.controller runs.calls
    → (took : Took) (new : MachineState) (does : Does now (Moved (act.Takes took)) new) → HasRules new → is_of n c does.does.frame ≡ true
    → has_bit (shown PxCi now.controller) slot ≡ true → has_bit (shown PxCi new.controller) slot ≡ false → has_bit (shown PxSact new.controller) slot ≡ false
    → (issue : Issue) → issue_at now.controller.core.slots slot ≡ Some issue → issue.dev ≡ dev → is_queued_issue issue ≡ false → is_pio issue.work.kind ≡ false
    → (done : IsDone many n tag old.first old.deeds first old.run sooner seen run_first p limit base falls.does.frame)
    × FlushesWrites n dev slot old.first ((old.deeds ++ sooner) ++ Moved (act.Takes end) ∷ since) at all deeds now run p limit
    (base ++ calls_of n first sooner seen run_first ++ calls_of n fallen since at run_on) issue does.does.frame
    × (done.page.command.write ≡ true
    → WasWritten n old.first at p limit (base ++ calls_of n first sooner seen run_first ++ calls_of n fallen since at run_on) done.page)
