-- What a caller of a machine knows of the commands that its guest sees completed, as the laws of reads behind writes want them.
use Rattle.std.specs.Prelude.{ℕ, ◌≡◌, ◌<◌, Bool, true, false, List, [], ◌∷◌, ◌++◌, Some}
use Rattle.slots.specs.Slots.{Issue, has_bit, is_pio, is_queued_issue, issue_at}
use Rattle.ahci_registers.specs.declared.register.Register.TheVariants.{PxCi, PxSact}
use Rattle.ahci_controller.specs.{Reading.shown, States.ControllerState, declared.taking.Took.Took}
use Rattle.controller_laws.specs.Events.{Event, Runs}
use Rattle.disk_pages.specs.declared.profile.Profile.{Profile}
use Rattle.sata_disk.specs.State.{new_disk}
use Rattle.sata_disk.specs.declared.out.Out.TheVariants as out
use Rattle.sata_disk_laws.specs.{Calls.{AreCalls, Call, Sends}, Laws.reached, Once.{host_of, new_host}}
use Rattle.ahci_machine.specs.States.{HasRules, MachineState}
use Rattle.ahci_machine.specs.declared.act.Act.TheVariants as act
use Rattle.machine_laws.specs.{ControllerLaws.{ControllerRuns, RunsRuled, calls_in}, Deeds.{Deed, Does, Moved}, Falling.{AllLast, HasLink}}
use Rattle.machine_theorem.specs.{Completions.IsDone, FlushesFollow.AreLeft, Identity.{AllKeep, IsAtRest, calls_of, own_of}, InTurn.{AreKeptOn, IsIdle, is_answering}}
use Rattle.machine_theorem.specs.{OverAll.{HasFollowed, IsOver, IsSeen}, OwnSlots.{AllKeepLine, is_of}, PioIn.IsDoneThere, Singles.{AllOfDevice, BeginsIdle}}
use Rattle.machine_theorem.specs.Transfers.{is_transferring}
use Rattle.uses_machine_theorem.specs.Led.{IsLed}

-- A bit of PxSACT falls behind a moment at rest as a FIS is taken: the guest sees this queued command completed.
abbrev pub KnowsSeenQueued : MachineState → Type 0
KnowsSeenQueued now = (at : MachineState) (led : IsLed at) (many : Bool) (n tag : ℕ) → n < 15 → tag < 32
    → (rest : IsAtRest many n tag led.first led.deeds at led.run) → (deeds : List Deed) (run : RunsRuled at deeds now)
    → HasLink deeds → AllLast n at deeds now run → AllKeep many n tag at deeds now run
    → (p : Profile) (limit : ℕ) (base : List Call) → AreCalls (new_disk p limit) base → rest.disk ≡ reached p limit base
    → (took : Took) (new : MachineState) (does : Does now (Moved (act.Takes took)) new) → HasRules new
    → has_bit (shown PxSact now.controller) tag ≡ true → has_bit (shown PxSact new.controller) tag ≡ false
    → (issue : Issue) → issue_at now.controller.core.slots tag ≡ Some issue → own_of many n issue.dev ≡ true
    → IsSeen n tag led.first led.deeds at led.run deeds now run p limit base does.does.frame

-- A bit of PxCI falls behind a moment at which nothing is under way at a disk as a FIS of it is taken, and the slot has a command for it that is not queued
-- and no PIO data-in. If it moves sectors, the guest sees it completed.
abbrev pub KnowsSeenSingle :
    (Waits : (dev : ℕ) → (old : ControllerState) → (events : List Event) → (now : ControllerState) → Runs old events now → Type 0) → MachineState → Type 0
KnowsSeenSingle Waits now = (at : MachineState) (led : IsLed at) (many : Bool) (n c dev slot : ℕ) → n < 15 → dev < 16 → slot < 32
    → (begins : BeginsIdle n c at) → (p : Profile) (limit : ℕ) (base : List Call) → AreCalls (new_disk p limit) base → begins.disk ≡ reached p limit base
    → IsIdle (host_of new_host base) → (deeds : List Deed) (run : RunsRuled at deeds now)
    → HasLink deeds → AllLast n at deeds now run → AllKeepLine many n c dev at deeds now run → AreKeptOn (calls_of n at deeds now run)
    → (runs : ControllerRuns at deeds now run) → AllOfDevice many n dev at.controller (calls_in at deeds now run) now.controller runs.calls
    → Waits dev at.controller (calls_in at deeds now run) now.controller runs.calls
    → (took : Took) (new : MachineState) (does : Does now (Moved (act.Takes took)) new) → HasRules new → is_of n c does.does.frame ≡ true
    → has_bit (shown PxCi now.controller) slot ≡ true → has_bit (shown PxCi new.controller) slot ≡ false → has_bit (shown PxSact new.controller) slot ≡ false
    → (issue : Issue) → issue_at now.controller.core.slots slot ≡ Some issue → issue.dev ≡ dev → is_queued_issue issue ≡ false → is_pio issue.work.kind ≡ false
    → (done : IsDoneThere n dev slot led.first led.deeds at led.run deeds now run p limit base issue does.does.frame)
    × (answering : is_answering does.does.frame.bytes ≡ true) × (is_transferring (done.answers answering).command.bytes ≡ true
    → IsSeen n slot led.first led.deeds at led.run deeds now run p limit base does.does.frame)

-- The guest saw the queued command of tag w completed so. Then anything happened, but that something was put at the port or taken from it. Behind another moment at
-- rest it sees the queued command of tag r completed: if that one is a write and this one a read, the read has what was written, where the medium is honest.
abbrev pub KnowsQueuedReadBack : MachineState → Type 0
KnowsQueuedReadBack now = (at : MachineState) (led : IsLed at) (many : Bool) (n w r : ℕ) → n < 15 → w < 32 → r < 32
    → (rest_w : IsAtRest many n w led.first led.deeds at led.run) → (deeds : List Deed) (mid : MachineState) (run : RunsRuled at deeds mid)
    → HasLink deeds → AllLast n at deeds mid run → AllKeep many n w at deeds mid run
    → (p : Profile) (limit : ℕ) (base : List Call) → rest_w.disk ≡ reached p limit base
    → (end : Took) (fallen : MachineState) (falls : Does mid (Moved (act.Takes end)) fallen) → HasRules fallen
    → has_bit (shown PxSact mid.controller) w ≡ true → has_bit (shown PxSact fallen.controller) w ≡ false
    → (writes : Issue) → issue_at mid.controller.core.slots w ≡ Some writes → own_of many n writes.dev ≡ true
    -- then these deeds, behind which the disk has no command of the tag r
    → (between : List Deed) (begins : MachineState) (on : RunsRuled mid between begins) → AreLeft n between
    → (later : List Deed) (rest : RunsRuled begins later now) → IsOver n p limit base at deeds mid run between begins on later now rest
    → (more : List Deed) (second : RunsRuled led.first more begins) → (rest_r : IsAtRest many n r led.first more begins second)
    → HasLink later → AllLast n begins later now rest → AllKeep many n r begins later now rest
    → (took : Took) (new : MachineState) (does : Does now (Moved (act.Takes took)) new) → HasRules new
    → has_bit (shown PxSact now.controller) r ≡ true → has_bit (shown PxSact new.controller) r ≡ false
    → (reads : Issue) → issue_at now.controller.core.slots r ≡ Some reads → own_of many n reads.dev ≡ true
    → (write : IsDone many n w led.first led.deeds at led.run deeds mid run p limit base falls.does.frame)
    × (read : IsDone many n r led.first more begins second later now rest p limit (base ++ calls_of n at deeds mid run ++ calls_of n mid between begins on) does.does.frame)
    × HasFollowed p limit ((base ++ calls_of n at write.end.before write.end.moment write.end.first) ++ Sends (out.Ends write.end.tags) ∷ [])
    ((base ++ calls_of n at deeds mid run ++ calls_of n mid between begins on) ++ calls_of n begins read.end.before read.end.moment read.end.first) write.page read.page
