-- What a caller of a machine knows of its guest's writes that are not queued, as the guest sees them completed.
use Rattle.std.specs.Prelude.{◌≡◌, ◌<◌, ℕ, Bool, true, false, List, None, Some}
use Rattle.fis_view.specs.Frames.{marked}
use Rattle.slots.specs.Slots.{Issue, context_of, has_bit, is_pio, is_queued_issue, issue_at}
use Rattle.guest_fetch.specs.Heads.{asked_work, fields_in}
use Rattle.ahci_registers.specs.declared.register.Register.TheVariants.{PxCi, PxSact}
use Rattle.ahci_controller.specs.{Reading.shown, States.ControllerState, declared.taking.Took.Took}
use Rattle.ata_command.specs.declared.asked.Asked.TheVariants as ask
use Rattle.ata_command.specs.declared.asked.Move.{Move}
use Rattle.block_command.specs.Moments.{is_verify}
use Rattle.controller_laws.specs.Events.{Event, Runs}
use Rattle.disk_pages.specs.declared.profile.Profile.{Profile}
use Rattle.sata_disk.specs.{Hearing.asked_of, State.{DiskState, new_disk}}
use Rattle.sata_disk_laws.specs.{Calls.{AreCalls, Call}, Laws.reached, Once.{host_of, new_host}}
use Rattle.ahci_machine.specs.{States.{HasRules, MachineState, bay_at}, declared.bay.Unit.TheVariants.Disk}
use Rattle.ahci_machine.specs.declared.act.Act.TheVariants as act
use Rattle.machine_laws.specs.{ControllerLaws.{ControllerRuns, RunsRuled, calls_in}, Deeds.{Deed, Does, Moved}, Falling.{AllLast, HasLink}}
use Rattle.machine_theorem.specs.{CountedAlike.IsCountedAlike, Ending.HasNoQueued, Identity.{AllKeep, IsAtRest, calls_of, own_of}}
use Rattle.machine_theorem.specs.{InTurn.{AreKeptOn, IsIdle, is_answering, is_asking}, OwnSlots.{AllKeepLine, is_of}, OwnWrites.AreOwnData, PioIn.AllKeepUnqueued, Singles.{AllOfDevice, BeginsIdle}}
use Rattle.machine_theorem.specs.{Standing.IsAsSupplied, StoredSingles.{IsNamedBy, IsStoredSingle, is_writing}, WholeQueued.IsDoneWhole}
use Rattle.machine_theorem.specs.WholeSingles.{IsUnqueuedWhole}
use Rattle.uses_machine_theorem.specs.Led.{IsLed}

-- What is issued in a slot moves what the FIS asks for that was supplied for it, whatever run led here.
abbrev pub KnowsWork : MachineState → Type 0
KnowsWork now = (led : IsLed now) (slot : ℕ) → slot < 32 → (issue : Issue) → issue_at now.controller.core.slots slot ≡ Some issue
    → (fis : List ℕ) → IsAsSupplied led.first led.deeds now led.run slot fis → issue.work ≡ asked_work (fields_in fis)

-- A disk at a port takes as many bytes for a FIS as the controller moves for it.
abbrev pub KnowsCounts : MachineState → Type 0
KnowsCounts now = (n : ℕ) (d : DiskState) → (bay_at now n).unit ≡ Disk d → (fis : List ℕ) → is_asking (marked fis 0) ≡ true
    → (move : Move) → asked_of d (marked fis 0) ≡ ask.Moves move → is_verify move.command.protocol ≡ false → IsCountedAlike fis move.command

-- And what it takes for a write that is not queued, its FIS names.
abbrev pub KnowsNames : MachineState → Type 0
KnowsNames now = (n : ℕ) (d : DiskState) → (bay_at now n).unit ≡ Disk d → (fis : List ℕ) → is_writing (marked fis 0) ≡ true
    → (move : Move) → asked_of d (marked fis 0) ≡ ask.Moves move → IsNamedBy d fis move.command

-- A bit of PxCI falls behind a moment at which nothing is under way at a disk as a FIS of it is taken, and the slot has a command for it: if that is
-- a write, what the guest had supplied for this slot was stored at the sectors that its FIS names, whatever reads and writes ended there since, by DMA
-- or by PIO, where the guest has no queued command there.
abbrev pub KnowsStoredSingles : MachineState → Type 0
KnowsStoredSingles now = (at : MachineState) (led : IsLed at) (many : Bool) (n c dev slot : ℕ) → n < 15 → dev < 16 → slot < 32
    → (begins : BeginsIdle n c at) → (p : Profile) (limit : ℕ) (base : List Call) → AreCalls (new_disk p limit) base
    → begins.disk ≡ reached p limit base → IsIdle (host_of new_host base) → (deeds : List Deed) (run : RunsRuled at deeds now)
    → HasLink deeds → AllLast n at deeds now run → AllKeepLine many n c dev at deeds now run → AreKeptOn (calls_of n at deeds now run)
    → AllKeepUnqueued many n dev at deeds now run → HasNoQueued dev now.controller → AreOwnData many n dev (calls_in at deeds now run)
    → (took : Took) (new : MachineState) (does : Does now (Moved (act.Takes took)) new) → HasRules new → is_of n c does.does.frame ≡ true
    → has_bit (shown PxCi now.controller) slot ≡ true → has_bit (shown PxCi new.controller) slot ≡ false
    → has_bit (shown PxSact new.controller) slot ≡ false → (issue : Issue) → issue_at now.controller.core.slots slot ≡ Some issue → issue.dev ≡ dev
    → is_pio issue.work.kind ≡ false → IsStoredSingle n dev slot led.first led.deeds at led.run deeds now run p limit base issue does.does.frame

-- A bit of PxSACT falls as a FIS is taken behind a moment at rest, and the slot has a command for the disk: slot and disk moved as many bytes for it.
abbrev pub KnowsWhole : MachineState → Type 0
KnowsWhole now = (at : MachineState) (led : IsLed at) (many : Bool) (n tag : ℕ) → n < 15 → tag < 32
    → (rest : IsAtRest many n tag led.first led.deeds at led.run) → (deeds : List Deed) (run : RunsRuled at deeds now)
    → HasLink deeds → AllLast n at deeds now run → AllKeep many n tag at deeds now run
    → (p : Profile) (limit : ℕ) (base : List Call) → AreCalls (new_disk p limit) base → rest.disk ≡ reached p limit base
    → (took : Took) (new : MachineState) (does : Does now (Moved (act.Takes took)) new) → HasRules new
    → has_bit (shown PxSact now.controller) tag ≡ true → has_bit (shown PxSact new.controller) tag ≡ false
    → (issue : Issue) → issue_at now.controller.core.slots tag ≡ Some issue → own_of many n issue.dev ≡ true
    → IsDoneWhole many n tag led.first led.deeds at led.run deeds now run p limit base issue does.does.frame

-- And so it is of a command that is not queued, be it by DMA or by PIO.
abbrev pub KnowsWholeUnqueuedIf :
    (Waits : (dev : ℕ) → (old : ControllerState) → (events : List Event) → (now : ControllerState) → Runs old events now → Type 0) → MachineState
    → Type 0
KnowsWholeUnqueuedIf Waits now = (at : MachineState) (led : IsLed at) (many : Bool) (n c dev slot : ℕ) → n < 15 → dev < 16 → slot < 32
    → (begins : BeginsIdle n c at) → (p : Profile) (limit : ℕ) (base : List Call) → AreCalls (new_disk p limit) base
    → begins.disk ≡ reached p limit base → IsIdle (host_of new_host base) → (deeds : List Deed) (run : RunsRuled at deeds now)
    → HasLink deeds → AllLast n at deeds now run → AllKeepLine many n c dev at deeds now run → AreKeptOn (calls_of n at deeds now run)
    → (runs : ControllerRuns at deeds now run) → AllOfDevice many n dev at.controller (calls_in at deeds now run) now.controller runs.calls
    → Waits dev at.controller (calls_in at deeds now run) now.controller runs.calls
    → (took : Took) (new : MachineState) (does : Does now (Moved (act.Takes took)) new) → HasRules new → is_of n c does.does.frame ≡ true
    → has_bit (shown PxCi now.controller) slot ≡ true → has_bit (shown PxCi new.controller) slot ≡ false
    → has_bit (shown PxSact new.controller) slot ≡ false
    → (issue : Issue) → issue_at now.controller.core.slots slot ≡ Some issue → issue.dev ≡ dev → is_queued_issue issue ≡ false
    → (is_pio issue.work.kind ≡ true → is_answering does.does.frame.bytes ≡ false → context_of at.controller.core.slots dev ≡ None)
    → IsUnqueuedWhole n dev slot led.first led.deeds at led.run deeds now run p limit base issue does.does.frame
