-- What a disk takes for a write that is not queued is what the caller had supplied for the command of its own slot, from the first byte on, in order, and
-- the guest sees the write completed behind all of it (AHCI 1.3.1, 3.3.14, PxCI, 4.2.3.3, 5.3 and 9.3; Serial ATA 3.x, 10.5, DMA Activate, PIO Setup, Data
-- and Register Device to Host; ACS-3, 4, DMA and PIO data-out protocols). So it is over each stretch of a run as in PioReads.
use Rattle.std.specs.Prelude.{ℕ, ◌≡◌, ◌<◌, ◌≤◌, ◌+◌, ◌==◌, Bool, true, false, List, [], ◌∷◌, ◌++◌, length, map, Some, if◌then◌else◌}
use Rattle.fis_view.specs.Frames.{Stamped, marked}
use Rattle.slots.specs.{Slots.{Issue, has_bit, is_pio, issue_at}, Work.is_read}
use Rattle.ahci_registers.specs.declared.register.Register.TheVariants.{PxCi, PxSact}
use Rattle.ahci_controller.specs.{Reading.shown, declared.{feeding.Fed.TheVariants.Goes, latch.Edge.Edge, taking.Took.Took}}
use Rattle.ahci_controller.specs.declared.next.Next.TheVariants as next
use Rattle.ata_reply.specs.declared.reply.Reply.TheVariants as replies
use Rattle.block_command.specs.Laws.{IsEarned}
use Rattle.block_disk.specs.Laws.{Page}
use Rattle.controller_laws.specs.Events as call
use Rattle.controller_laws.specs.Events.{Event}
use Rattle.disk_pages.specs.declared.profile.Profile.{Profile}
use Rattle.sata_disk.specs.State.{new_disk}
use Rattle.sata_disk.specs.declared.out.Out.TheVariants as out
use Rattle.sata_disk_books.specs.Books.{IsAskedFor, page_in}
use Rattle.sata_disk_laws.specs.{Calls.{AreCalls, Call, Hears}, Laws.reached, Once.{host_of, new_host}}
use Rattle.ahci_machine.specs.States.{HasRules, IsOpeningMachine, MachineState}
use Rattle.ahci_machine.specs.declared.act.Act.TheVariants as act
use Rattle.machine_laws.specs.{ControllerLaws.{RunsRuled, calls_in}, Controllers.deed_calls, Deeds.{Deed, Does, Moved}, Falling.AllLast}
use Rattle.machine_laws.specs.{Falling.HasLink, Feeding.{came_by, came_in, data_with}}
use Rattle.machine_theorem.specs.{Commands.AreNotIssued, Crossing.Within, Identity.calls_of, InTurn.{AreKeptOn, IsIdle, heard_in, is_asking}}
use Rattle.machine_theorem.specs.{Ending.HasNoQueued, OwnSlots.{AllKeepLine, is_of}, OwnWrites.AreOwnData, PioIn.IsDoneThere}
use Rattle.machine_theorem.specs.{PioIn.AllKeepUnqueued, SingleData.{GoesNext, went_in}, Singles.{BeginsIdle, IsFromSlot}, Writes.payloads}

-- ---- the Data that go

-- the Data FISes that go to the device by these calls
abbrev pub went_to : (dev : ℕ) → List Event → List (List ℕ)
went_to dev [] = []
went_to dev (call.Gathered d number frame (Goes message line) ∷ later) = if d == dev then frame ∷ went_to dev later else went_to dev later
went_to dev (event ∷ later) = went_to dev later

-- A Data FIS that goes is of the slot, from this byte on; it was read for the slot, from this byte on, and its payload is all that the caller supplied
-- since it is read.
pub record IsFedNext (dev slot count : ℕ) (supplied : List ℕ) (old : MachineState) (d : ℕ) (message : Bool) (line : Edge) (new : MachineState)
    (does : Does old (Moved (act.Gathers d (Goes message line))) new) : Type 0 where
  pub next : GoesNext old.controller dev slot count does.does.gathering.bytes
  pub slot_is : does.does.gathering.feed.slot ≡ slot
  pub offset_is : does.does.gathering.feed.offset ≡ count
  pub len_is : does.does.gathering.feed.len ≡ next.len
  pub bytes : does.does.gathering.bytes ≡ data_with dev supplied

abbrev pub IsFedBy : (dev slot count : ℕ) → (supplied : List ℕ) → (old : MachineState) → (deed : Deed) → (new : MachineState) → Does old deed new → Type 0
IsFedBy dev slot count supplied old (Moved (act.Gathers d (Goes message line))) new does =
    d ≡ dev → IsFedNext dev slot count supplied old d message line new does
IsFedBy dev slot count supplied old deed new does = Unit {0}

-- each that goes to the device in a run is, if so many bytes went before it
abbrev pub AllFed : (dev slot count : ℕ) → (supplied : List ℕ) → (old : MachineState) → (deeds : List Deed) → (now : MachineState)
    → RunsRuled old deeds now → Type 0
AllFed dev slot count supplied old [] now run = Unit {0}
AllFed dev slot count supplied old (deed ∷ later) now run =
    IsFedBy dev slot count supplied old deed run.1.0 run.1.1
    × AllFed dev slot (count + went_in dev (deed_calls old deed run.1.0 run.1.1)) (came_by dev old deed run.1.0 run.1.1 supplied) run.1.0 later now run.1.2

-- ---- the command whose bit falls

-- This FIS went from the slot by a deed of the stretch, and nothing was issued there since. Each Data FIS that went to the device behind it is of the
-- slot, from the byte behind those that went before.
pub record IsFedSince (dev slot : ℕ) (order : List ℕ) (old : MachineState) (before : List Deed) (at : MachineState) (first : RunsRuled old before at)
    (deeds : List Deed) (now : MachineState) (run : RunsRuled at deeds now) : Type 0 where
  pub sooner : List Deed
  pub mid : MachineState
  pub led : RunsRuled at sooner mid
  pub sent : MachineState
  pub does : Does mid (Moved (act.Turns (next.Order dev slot order))) sent
  pub later : List Deed
  pub rest : RunsRuled sent later now
  pub is : deeds ≡ sooner ++ Moved (act.Turns (next.Order dev slot order)) ∷ later
  pub alone : AreNotIssued slot (calls_in sent later now rest)
  -- what led to it
  pub done : List Deed
  pub until : RunsRuled old done sent
  pub done_is : done ≡ before ++ (sooner ++ Moved (act.Turns (next.Order dev slot order)) ∷ [])
  pub fed : AllFed dev slot 0 (came_in dev [] old done sent until) sent later now rest

-- The books have a command that has earned its end; it is what a FIS of the slot asked for, and the disk heard no command since. What came for it is the
-- payload of some of the Data FISes that went since, in order, each unchanged but for its PM Port. As many bytes went as the slot's command moves, if it is a
-- write; so what came is all of them, if as many came.
pub record IsFedWhole (n dev slot : ℕ) (old : MachineState) (before : List Deed) (at : MachineState) (first : RunsRuled old before at) (deeds : List Deed)
    (now : MachineState) (run : RunsRuled at deeds now) (p : Profile) (limit : ℕ) (calls : List Call) (issue : Issue) : Type 0 where
  pub page : Page
  pub books : page_in p limit calls 32 ≡ Some page
  pub earned : IsEarned page.command page.ledger page.command.write
  pub asked : IsAskedFor p limit calls page.command
  pub bytes : List ℕ
  pub heard : asked.bytes ≡ bytes
  pub front : List Call
  pub later : List Call
  pub split : calls ≡ front ++ Hears bytes ∷ later
  pub asks : is_asking bytes ≡ true
  pub none : heard_in later ≡ 0
  pub from : IsFromSlot dev slot old before at first deeds now run bytes
  pub since : IsFedSince dev slot from.order old before at first deeds now run
  pub fises : List (List ℕ)
  pub came : page.ledger.came ≡ payloads fises
  pub some : Within fises (map (λ frame. marked frame 0) (went_to dev (calls_in since.sent since.later now since.rest)))
  pub few : length (payloads (went_to dev (calls_in since.sent since.later now since.rest))) ≤ issue.work.len
  pub whole : is_read issue.work.kind ≡ false → length (payloads (went_to dev (calls_in since.sent since.later now since.rest))) ≡ issue.work.len
  pub all : issue.work.len ≤ length page.ledger.came → page.ledger.came ≡ payloads (went_to dev (calls_in since.sent since.later now since.rest))

-- It is done as in PioIn: the disk at the port sent the FIS at a moment of the stretch. If it says by it that a command ended well which is not queued,
-- and moves sectors, it is so.
pub record IsSuppliedSingle (n dev slot : ℕ) (old : MachineState) (before : List Deed) (at : MachineState) (first : RunsRuled old before at)
    (deeds : List Deed) (now : MachineState) (run : RunsRuled at deeds now) (p : Profile) (limit : ℕ) (base : List Call) (issue : Issue) (f : Stamped) : Type 0 where
  pub done : IsDoneThere n dev slot old before at first deeds now run p limit base issue f
  pub whole : done.said ≡ out.Of 32 replies.Done
      → IsFedWhole n dev slot old before at first deeds now run p limit (base ++ calls_of n at done.sooner done.mid done.led) issue

-- ---- the law

-- Over each stretch as in PioReads in which the guest sends the disk no queued command, and Data that may fall to the port go to the device, whatever
-- reads and writes end in it: where a bit of PxCI falls behind it as a FIS of the connection is taken, and the slot has a command for the device that is no
-- PIO data-in.
abbrev pub SingleWritesAreAsSupplied : Type 0
SingleWritesAreAsSupplied = (ports : ℕ) (legacy : Bool) (old : MachineState) → IsOpeningMachine ports legacy old
    → (before : List Deed) (at : MachineState) (first : RunsRuled old before at) (many : Bool) (n c dev slot : ℕ) → n < 15 → dev < 16 → slot < 32
    → (begins : BeginsIdle n c at) → (p : Profile) (limit : ℕ) (base : List Call) → AreCalls (new_disk p limit) base → begins.disk ≡ reached p limit base
    → IsIdle (host_of new_host base) → (deeds : List Deed) (now : MachineState) (run : RunsRuled at deeds now)
    → HasLink deeds → AllLast n at deeds now run → AllKeepLine many n c dev at deeds now run → AreKeptOn (calls_of n at deeds now run)
    → AllKeepUnqueued many n dev at deeds now run → HasNoQueued dev now.controller → AreOwnData many n dev (calls_in at deeds now run)
    → (took : Took) (new : MachineState) → (does : Does now (Moved (act.Takes took)) new) → HasRules new → is_of n c does.does.frame ≡ true
    → has_bit (shown PxCi now.controller) slot ≡ true → has_bit (shown PxCi new.controller) slot ≡ false → has_bit (shown PxSact new.controller) slot ≡ false
    → (issue : Issue) → issue_at now.controller.core.slots slot ≡ Some issue → issue.dev ≡ dev → is_pio issue.work.kind ≡ false
    → IsSuppliedSingle n dev slot old before at first deeds now run p limit base issue does.does.frame
