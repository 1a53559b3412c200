-- What a caller of a machine knows of each byte of a read that is not queued, and that its guest sees completed.
use Rattle.std.specs.Prelude.{◌≡◌, ◌⊎◌, ◌<◌, ◌≤◌, ℕ, suc, Bool, true, false, List, ◌++◌, length, Some}
use Rattle.slots.specs.{Bytes.is_over, Slots.{Issue, holds, is_pio, issue_at}}
use Rattle.hba_fbs.specs.Views.{view_of}
use Rattle.hba_laws.specs.{Agreement.IsTold, History.History}
use Rattle.block_disk.specs.Laws.{Page}
use Rattle.disk_pages.specs.declared.profile.Profile.{Profile}
use Rattle.sata_disk.specs.{Sending.IsOut, State.{DiskState, new_disk}}
use Rattle.sata_disk.specs.declared.out.Out.TheVariants as out
use Rattle.sata_disk_books.specs.{Books.page_in, Fises.AreFises}
use Rattle.sata_disk_laws.specs.{Calls.{AreCalls, Call}, Laws.reached, Once.{host_of, new_host}}
use Rattle.ahci_machine.specs.{States.{MachineState, bay_at}, declared.bay.Unit.TheVariants.Disk}
use Rattle.machine_laws.specs.{ControllerLaws.{ControllerRuns, RunsRuled, calls_in}, Deeds.Deed, Falling.{AllLast, HasLink}, Heard.HasLived}
use Rattle.machine_laws.specs.Heard.{life_in, no_life}
use Rattle.machine_theorem.specs.{Identity.calls_of, InTurn.{AreKeptOn, IsIdle, IsInTurn, answered_in, heard_in}, OwnSlots.{AllKeepLine, is_of}}
use Rattle.machine_theorem.specs.{PioIn.AllKeepUnqueued, SingleBytes.SingleIsSent, SingleNumbers.{AllHearSingle, IsClear, since_after}}
use Rattle.machine_theorem.specs.SingleReads.{CameBefore, ComesLast, IsSingleDone}
use Rattle.machine_theorem.specs.{SingleReads.{IsWrittenBefore, WasBroughtFor, is_sent_read, is_single_read}, Singles.BeginsIdle}
use Rattle.uses_machine_theorem.specs.{Led.IsLed, Slots.stretch_of}

-- Each was brought at a moment of the run that led to the machine, and nothing was issued in the slot since then; or it comes by the last Data of a PIO data-in, by
-- which the bit falls.
abbrev pub KnowsSinglesBrought : MachineState → Type 0
KnowsSinglesBrought now = (led : IsLed now) (slot : ℕ) → slot < 32 → (issue : Issue) (done : IsSingleDone now slot issue)
    → (k : ℕ) → k < issue.work.len → CameBefore slot k led.first led.deeds now led.run issue done ⊎ ComesLast slot k now issue done

-- So it is of each stretch that begins where no read of the device that is not queued and was sent stands in the slot.
abbrev pub KnowsSinglesBroughtSince : MachineState → Type 0
KnowsSinglesBroughtSince now = (at : MachineState) (led : IsLed at) (deeds : List Deed) (run : RunsRuled at deeds now) (slot : ℕ) → slot < 32
    → (issue : Issue) (done : IsSingleDone now slot issue) → holds (is_sent_read issue.dev) (issue_at at.controller.core.slots slot) ≡ false
    → (k : ℕ) → k < issue.work.len → CameBefore slot k at deeds now run issue done ⊎ ComesLast slot k now issue done

-- And each that came before the bit falls was written at its place before.
abbrev pub KnowsSinglesWritten : MachineState → Type 0
KnowsSinglesWritten now = (led : IsLed now) (slot : ℕ) → slot < 32 → (issue : Issue) (done : IsSingleDone now slot issue)
    → (k : ℕ) → k < issue.work.len → IsWrittenBefore slot k led.first led.deeds now led.run issue done ⊎ ComesLast slot k now issue done

-- The controller of the machine holds no byte for one that came which was not brought.
abbrev pub KnowsSinglesFilled : MachineState → Type 0
KnowsSinglesFilled now = (at : MachineState) (deeds : List Deed) (run : RunsRuled at deeds now) → ControllerRuns at deeds now run
    → (n : ℕ) → n < 16 → (slot : ℕ) → slot < 32
    → (past : History) → IsTold (view_of n at.controller.core) past → holds (is_sent_read n) (issue_at at.controller.core.slots slot) ≡ false
    → (issue : Issue) → issue_at now.controller.core.slots slot ≡ Some issue → issue.dev ≡ n → is_single_read issue.work.kind ≡ true
    → (k : ℕ) → is_over issue.over k ≡ true → WasBroughtFor issue.work.kind n slot k at.controller (calls_in at deeds now run) now.controller

-- Behind a moment at which nothing is under way at a disk, while commands and answers go in turn, the disk sent what brought a byte of a READ DMA for the command that
-- the guest had supplied for the slot.
abbrev pub KnowsSinglesSent : MachineState → Type 0
KnowsSinglesSent now = (at : MachineState) (led : IsLed at) (many : Bool) (n c dev slot : ℕ) → n < 15 → dev < 16 → slot < 32
    → (begins : BeginsIdle n c at) → (p : Profile) (limit : ℕ) (base : List Call) → AreCalls (new_disk p limit) base → begins.disk ≡ reached p limit base
    → IsIdle (host_of new_host base) → (deeds : List Deed) (run : RunsRuled at deeds now)
    → HasLink deeds → AllLast n at deeds now run → AllKeepLine many n c dev at deeds now run → AreKeptOn (calls_of n at deeds now run)
    → AllKeepUnqueued many n dev at deeds now run
    → (issue : Issue) (done : IsSingleDone now slot issue) → is_of n c done.does.does.frame ≡ true → issue.dev ≡ dev → is_pio issue.work.kind ≡ false
    → (k : ℕ) → k < issue.work.len → SingleIsSent (stretch_of many n slot at led deeds now run p limit base) issue k

-- Of a disk that was new as it was put at its port: take its last calls, from a moment on at which its host waits for nothing, and without a reset. The Data that
-- it sends next of a command that moves sectors and is not queued are of one of these that was heard behind all that were answered.
abbrev pub KnowsSingleTurns : MachineState → Type 0
KnowsSingleTurns now = (led : IsLed now) (n : ℕ) (d : DiskState) → (bay_at now n).unit ≡ Disk d
    → (lived : HasLived (life_in n no_life led.first led.deeds now led.run) d)
    → (p : Profile) (limit : ℕ) → lived.disk ≡ new_disk p limit → (base calls : List Call)
    → (life_in n no_life led.first led.deeds now led.run).calls ≡ base ++ calls → IsIdle (host_of new_host base) → AreKeptOn calls
    → (len : ℕ) → IsOut d (Some (out.Data 32 len)) → (page : Page) → page_in p limit (base ++ calls) 32 ≡ Some page
    → IsInTurn p limit base calls page.command

-- If no queued command is open or heard either, its FISes say by themselves how many bytes of it were sent.
abbrev pub KnowsSingleCounts : MachineState → Type 0
KnowsSingleCounts now = (led : IsLed now) (n : ℕ) (d : DiskState) → (bay_at now n).unit ≡ Disk d
    → (lived : HasLived (life_in n no_life led.first led.deeds now led.run) d)
    → (p : Profile) (limit : ℕ) → lived.disk ≡ new_disk p limit → (base calls : List Call) (fises : List (List ℕ))
    → (life_in n no_life led.first led.deeds now led.run).calls ≡ base ++ calls → IsClear (host_of new_host base) → AreKeptOn calls → AllHearSingle calls
    → AreFises (reached p limit base) calls fises → heard_in calls ≤ suc (answered_in calls)
    → (len : ℕ) → IsOut d (Some (out.Data 32 len)) → (page : Page) → page_in p limit (base ++ calls) 32 ≡ Some page
    → length page.ledger.sent ≡ since_after 0 fises
