-- What a caller of a machine knows of the Data of its guest's writes that are not queued.
use Rattle.std.specs.Prelude.{◌≡◌, ◌<◌, ℕ, Bool, true, false, List, [], ◌∷◌, ◌++◌, Some, is_some}
use Rattle.slots.specs.Slots.{Issue, has_bit, is_pio, issue_at}
use Rattle.hba_fbs.specs.Views.{view_of}
use Rattle.hba_laws.specs.{Agreement.IsTold, History.History}
use Rattle.ahci_registers.specs.declared.register.Register.TheVariants.{PxCi, PxSact}
use Rattle.ahci_controller.specs.{Reading.shown, declared.{feeding.Fed.TheVariants.Goes, latch.Edge.Edge, taking.Took.Took}}
use Rattle.ahci_controller.specs.declared.next.Next.TheVariants as next
use Rattle.ata_reply.specs.declared.reply.Reply.TheVariants as replies
use Rattle.block_disk.specs.Laws.{Page}
use Rattle.controller_laws.specs.Events as call
use Rattle.disk_pages.specs.declared.profile.Profile.{Profile}
use Rattle.sata_disk.specs.{Sending.IsOut, State.{DiskState, new_disk}}
use Rattle.sata_disk.specs.declared.out.Out.TheVariants as out
use Rattle.sata_disk_books.specs.Books.{page_in}
use Rattle.sata_disk_laws.specs.{Calls.{AreCalls, Call, Hears}, Laws.reached, Once.{host_of, new_host}}
use Rattle.ahci_machine.specs.{States.{HasRules, MachineState, bay_at}, declared.bay.Unit.TheVariants.Disk}
use Rattle.ahci_machine.specs.declared.act.Act.TheVariants as act
use Rattle.machine_laws.specs.{ControllerLaws.{ControllerRuns, RunsRuled, calls_in}, Deeds.{Deed, Does, Moved}, Falling.{AllLast, HasLink}}
use Rattle.machine_laws.specs.Heard.{HasLived, life_in, no_life}
use Rattle.machine_theorem.specs.{Commands.AreNotIssued, DataCame.IsWrittenBehind, Identity.calls_of, InTurn.{AreKeptOn, IsIdle, heard_in}}
use Rattle.machine_theorem.specs.{OwnSlots.{AllKeepLine, is_of}, OwnWrites.AreOwnData, SingleData.{AllUnqueued, GoesNext, went_in}}
use Rattle.machine_theorem.specs.{Ending.HasNoQueued, PioIn.AllKeepUnqueued, SingleWrites.IsSuppliedSingle, Singles.BeginsIdle}
use Rattle.machine_theorem.specs.Waits.{is_commanded}
use Rattle.uses_machine_theorem.specs.Led.{IsLed}

-- A command went from a slot by the first deed of a stretch that led here, and is issued there still; nothing more was issued there, and no queued command
-- for the device. The Data FIS that goes to it next is of this slot, from the byte behind those that went.
abbrev pub KnowsDataInOrder : MachineState → Type 0
KnowsDataInOrder now = (at : MachineState) (dev slot : ℕ) (fis : List ℕ) (later : List Deed)
    → (run : RunsRuled at (Moved (act.Turns (next.Order dev slot fis)) ∷ later) now)
    → (runs : ControllerRuns at (Moved (act.Turns (next.Order dev slot fis)) ∷ later) now run) → dev < 16 → slot < 32
    → is_commanded dev at.controller (call.Turned (next.Order dev slot fis)) ≡ true → (past : History) → IsTold (view_of dev at.controller.core) past
    → AreNotIssued slot (calls_in run.1.0 later now run.1.2)
    → AllUnqueued dev at.controller (calls_in at (Moved (act.Turns (next.Order dev slot fis)) ∷ later) now run) now.controller runs.calls
    → is_some (issue_at now.controller.core.slots slot) ≡ true
    → (message : Bool) (line : Edge) (new : MachineState) (last : RunsRuled now (Moved (act.Gathers dev (Goes message line)) ∷ []) new)
    → ControllerRuns now (Moved (act.Gathers dev (Goes message line)) ∷ []) new last
    → GoesNext now.controller dev slot (went_in dev (calls_in run.1.0 later now run.1.2)) last.1.1.does.gathering.bytes

-- A disk that was new as it was put at its port heard a FIS while its host waited for nothing, and no command since. Where it says next that a command
-- which is not queued ended well, this is what the FIS asked for, and all that came for it was heard since.
abbrev pub KnowsCame : MachineState → Type 0
KnowsCame now = (led : IsLed now) (n : ℕ) (d : DiskState) → (bay_at now n).unit ≡ Disk d
    → (lived : HasLived (life_in n no_life led.first led.deeds now led.run) d)
    → (p : Profile) (limit : ℕ) → lived.disk ≡ new_disk p limit → (before : List Call) (bytes : List ℕ) (later : List Call)
    → (life_in n no_life led.first led.deeds now led.run).calls ≡ before ++ Hears bytes ∷ later → IsIdle (host_of new_host before) → heard_in later ≡ 0
    → IsOut d (Some (out.Of 32 replies.Done)) → (page : Page) → page_in p limit (before ++ Hears bytes ∷ later) 32 ≡ Some page
    → IsWrittenBehind p limit before bytes later page

-- A bit of PxCI falls behind a moment at which nothing is under way at a disk as a FIS of it is taken, and the slot has a command for it: if that is a
-- write, what the disk took for it is what the guest had supplied for this slot, from its first byte on, whatever reads and writes ended there since, by DMA
-- or by PIO, where the guest has no queued command there.
abbrev pub KnowsSingleWrites : MachineState → Type 0
KnowsSingleWrites now = (at : MachineState) (led : IsLed at) (many : Bool) (n c dev slot : ℕ) → n < 15 → dev < 16 → slot < 32
    → (begins : BeginsIdle n c at) → (p : Profile) (limit : ℕ) (base : List Call) → AreCalls (new_disk p limit) base → begins.disk ≡ reached p limit base
    → IsIdle (host_of new_host base) → (deeds : List Deed) (run : RunsRuled at deeds now)
    → HasLink deeds → AllLast n at deeds now run → AllKeepLine many n c dev at deeds now run → AreKeptOn (calls_of n at deeds now run)
    → AllKeepUnqueued many n dev at deeds now run → HasNoQueued dev now.controller → AreOwnData many n dev (calls_in at deeds now run)
    → (took : Took) (new : MachineState) (does : Does now (Moved (act.Takes took)) new) → HasRules new → is_of n c does.does.frame ≡ true
    → has_bit (shown PxCi now.controller) slot ≡ true → has_bit (shown PxCi new.controller) slot ≡ false → has_bit (shown PxSact new.controller) slot ≡ false
    → (issue : Issue) → issue_at now.controller.core.slots slot ≡ Some issue → issue.dev ≡ dev → is_pio issue.work.kind ≡ false
    → IsSuppliedSingle n dev slot led.first led.deeds at led.run deeds now run p limit base issue does.does.frame
