-- A queued command that the guest sees completed is the one that it had supplied for its slot, and its disk did all of it: a read was loaded and sent
-- whole, a write was stored, and flushed where it is to last (AHCI 1.3.1, 3.3.13, PxSACT, and 5.3; Serial ATA 3.x, 10.5, Set Device Bits, and 13.6,
-- native command queuing). So it is over each stretch of a run that begins at rest and in which the guest keeps to the standard (Identity).
use Rattle.std.specs.Prelude.{ℕ, ◌≡◌, ◌<◌, Bool, true, false, List, [], ◌∷◌, ◌++◌, Some}
use Rattle.fis_view.specs.Frames.{Stamped, marked}
use Rattle.slots.specs.Slots.{Issue, has_bit as is_named, issue_at}
use Rattle.ahci_registers.specs.declared.register.Register.TheVariants.{PxSact}
use Rattle.ahci_controller.specs.{Reading.shown, declared.taking.Took.Took}
use Rattle.block_command.specs.Laws.{IsEarned}
use Rattle.block_disk.specs.Laws.{Page}
use Rattle.block_queue.specs.Line.{has_bit}
use Rattle.disk_pages.specs.declared.profile.Profile.{Profile}
use Rattle.sata_disk.specs.State.{new_disk}
use Rattle.sata_disk.specs.declared.out.Out.TheVariants as out
use Rattle.sata_disk_books.specs.Books.{page_in}
use Rattle.sata_disk_laws.specs.{Calls.{AreCalls, Call, Sends}, Laws.reached}
use Rattle.ahci_machine.specs.States.{HasRules, IsOpeningMachine, MachineState}
use Rattle.ahci_machine.specs.declared.act.Act.TheVariants as act
use Rattle.machine_laws.specs.{ControllerLaws.{RunsRuled, calls_in}, Deeds.{Deed, Does, Moved}, Falling.{AllLast, HasLink, sent_in}, Rising.sent_by}
use Rattle.machine_theorem.specs.{Commands.{AreNotIssued, IsSentFrom}, Given.IsWhole, Identity.{AllKeep, IsAtRest, IsTheSlots, asked_of, calls_of}}
use Rattle.machine_theorem.specs.{Identity.own_of, Orders.ordered_in, Standing.IsAsSupplied}

-- ---- the moment of the end

-- At a moment of the stretch the disk says that its command under the tag ended well.
pub record EndsAt (n tag : ℕ) (at : MachineState) (deeds : List Deed) (now : MachineState) (run : RunsRuled at deeds now) : Type 0 where
  pub before : List Deed
  pub moment : MachineState
  pub first : RunsRuled at before moment
  pub tags : ℕ
  pub new : MachineState
  pub says : Does moment (Moved (act.Speaks n (out.Ends tags))) new
  pub named : has_bit tags tag ≡ true
  pub later : List Deed
  pub rest : RunsRuled new later now
  pub is : deeds ≡ before ++ Moved (act.Speaks n (out.Ends tags)) ∷ later
  -- To the controller that is no call. Of the disk it is one, between those until then and those since.
  pub calls : calls_in at deeds now run ≡ calls_in at before moment first ++ calls_in new later now rest
  pub own : calls_of n at deeds now run ≡ calls_of n at before moment first ++ Sends (out.Ends tags) ∷ calls_of n new later now rest

-- ---- the command whose bit falls by a FIS

-- These deeds led to the stretch, and the bit falls by this FIS behind it. A disk that some calls of a new one led to was there as it began.
pub record IsDone (many : Bool) (n tag : ℕ) (old : MachineState) (before : List Deed) (at : MachineState) (first : RunsRuled old before at) (deeds : List Deed)
    (now : MachineState) (run : RunsRuled at deeds now) (p : Profile) (limit : ℕ) (base : List Call) (fis : Stamped) : Type 0 where
  -- The disk sent the FIS at a moment of the stretch, and so said that its command under the tag ended well.
  pub end : EndsAt n tag at deeds now run
  pub sent : sent_by end.moment (Moved (act.Speaks n (out.Ends end.tags))) end.new end.says ≡ fis ∷ []
  -- Its books had this command there then, and it had earned that: of a read the caller gave all bytes of its sectors, and all were sent; of a write
  -- it stored all that came, and flushed where they are to last.
  pub page : Page
  pub books : page_in p limit (base ++ calls_of n at end.before end.moment end.first) tag ≡ Some page
  pub earned : IsEarned page.command page.ledger page.command.write
  -- The command was the one that stood in the slot of this number then: what the last FIS asked for that was sent from there.
  pub slots : IsTheSlots many n tag at end.before end.moment end.first p limit base page.command
  -- This FIS went from the slot in the stretch, before that moment. Since it went nothing was issued in the slot, until now.
  pub dev : ℕ
  pub order : List ℕ
  pub ordered : IsSentFrom at.controller (calls_in at end.before end.moment end.first) dev tag order
  pub heard : slots.asked.bytes ≡ marked order 0
  pub alone : AreNotIssued tag (ordered.later ++ calls_in end.new end.later now end.rest)
  -- No command was sent from the slot since that moment, and no FIS that asks the disk for the tag: the last of the stretch is this one.
  pub quiet : ordered_in (own_of many n) tag end.new end.later now end.rest ≡ 0
  pub last : asked_of many n tag (sent_in (calls_in at deeds now run)) ≡ slots.front ++ slots.asked.bytes ∷ []
  -- So it is the FIS of the command that the guest had supplied for the slot, as it was issued there last before its bit falls.
  pub whole : IsWhole old before at first deeds now run
  pub supplied : IsAsSupplied old (before ++ deeds) now whole.all tag order

-- ---- the law

-- So it is of each queued command of the disk that a guest sees completed by a FIS behind such a stretch.
abbrev pub CompletionsAreOfSlots : Type 0
CompletionsAreOfSlots = (ports : ℕ) (legacy : Bool) (old : MachineState) → IsOpeningMachine ports legacy old
    → (before : List Deed) (at : MachineState) (first : RunsRuled old before at) (many : Bool) (n tag : ℕ) → n < 15 → tag < 32
    → (rest : IsAtRest many n tag old before at first) → (deeds : List Deed) (now : MachineState) (run : RunsRuled at deeds now)
    → HasLink deeds → AllLast n at deeds now run → AllKeep many n tag at deeds now run
    → (p : Profile) (limit : ℕ) (base : List Call) → AreCalls (new_disk p limit) base → rest.disk ≡ reached p limit base
    → (took : Took) (new : MachineState) → (does : Does now (Moved (act.Takes took)) new) → HasRules new
    → is_named (shown PxSact now.controller) tag ≡ true → is_named (shown PxSact new.controller) tag ≡ false
    → (issue : Issue) → issue_at now.controller.core.slots tag ≡ Some issue → own_of many n issue.dev ≡ true
    → IsDone many n tag old before at first deeds now run p limit base does.does.frame
