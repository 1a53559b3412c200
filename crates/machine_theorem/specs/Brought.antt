-- Where the guest sees a queued read completed, every byte of it was brought; and each is the one of its number that the caller gave for the sectors that
-- the guest asked for (AHCI 1.3.1, 3.3.13, PxSACT, and 5.3.13; Serial ATA 3.x, 10.5, Data, and 13.6, native command queuing).
use Rattle.std.specs.Prelude.{ℕ, ◌≡◌, ◌<◌, ◌-◌, ◌==◌, Bool, true, false, List, [], ◌∷◌, ◌++◌, drop, slice_get, Some}
use Rattle.fis_view.specs.Frames.{Stamped}
use Rattle.slots.specs.{Slots.{Issue, has_bit as is_named, holds, issue_at}, declared.work.Kind.TheVariants.QueuedRead}
use Rattle.ahci_registers.specs.declared.register.Register.TheVariants.{PxSact}
use Rattle.hba_fbs.specs.{Taking.port_of, declared.report.Wrote.Wrote}
use Rattle.ahci_controller.specs.{Reading.shown, declared.taking.Took.Took}
use Rattle.controller_laws.specs.Events as call
use Rattle.controller_laws.specs.Events.{Event}
use Rattle.disk_pages.specs.declared.profile.Profile.{Profile}
use Rattle.sata_disk.specs.State.{new_disk}
use Rattle.sata_disk.specs.declared.out.Out.TheVariants as out
use Rattle.sata_disk_laws.specs.{Calls.{AreCalls, Call}, Laws.reached}
use Rattle.ahci_machine.specs.States.{HasRules, IsOpeningMachine, MachineState}
use Rattle.ahci_machine.specs.declared.act.Act.TheVariants as act
use Rattle.machine_laws.specs.{ControllerLaws.{RunsRuled, calls_in}, Deeds.{Deed, Does, Moved}, Falling.{AllLast, HasLink}, Rising.sent_by}
use Rattle.machine_theorem.specs.{Commands.AreNotIssued, Filled.{AreNotBrought, Brings}, Following.IsHeardWell, Given.IsWhole, Identity.AllKeep}
use Rattle.machine_theorem.specs.{Identity.{IsAtRest, own_of}, Orders.is_sent_of, OwnSlots.{AllKeepLine, BeginsClear, NoneLost}, Reads.IsReadOf}
use Rattle.machine_theorem.specs.Standing.{IsAsSupplied}

-- ---- the moment

-- At a moment of a run a Data FIS is taken that brings byte k of the queued read in a slot. Since then nothing is issued in the slot, and the byte is not brought
-- again.
pub record ByteIsBrought (dev slot k : ℕ) (at : MachineState) (deeds : List Deed) (now : MachineState) (run : RunsRuled at deeds now) : Type 0 where
  pub sooner : List Deed
  pub mid : MachineState
  pub led : RunsRuled at sooner mid
  pub took : Took
  pub after : MachineState
  pub does : Does mid (Moved (act.Takes took)) after
  pub later : List Deed
  pub rest : RunsRuled after later now
  pub is : deeds ≡ sooner ++ Moved (act.Takes took) ∷ later
  pub calls : calls_in at deeds now run ≡ calls_in at sooner mid led ++ call.Took does.does.frame.bytes took ∷ calls_in after later now rest
  pub brings : Brings dev slot k mid.controller does.does.frame.bytes took
  pub alone : AreNotIssued slot (calls_in after later now rest)
  pub once : AreNotBrought slot k (calls_in after later now rest)

-- A queued read is issued in a slot whose bit of PxSACT falls as a FIS is taken.
pub record IsReadDone (now : MachineState) (slot : ℕ) (issue : Issue) : Type 0 where
  pub took : Took
  pub new : MachineState
  pub does : Does now (Moved (act.Takes took)) new
  pub rules : HasRules new
  pub shows : is_named (shown PxSact now.controller) slot ≡ true
  pub hides : is_named (shown PxSact new.controller) slot ≡ false
  pub is : issue_at now.controller.core.slots slot ≡ Some issue
  pub kind : issue.work.kind ≡ QueuedRead

-- So it is of each byte of each such read, over every run from a machine that opens, whatever its guest, its devices and its media do.
abbrev pub ReadsAreBrought : Type 0
ReadsAreBrought = (ports : ℕ) (legacy : Bool) (old : MachineState) → IsOpeningMachine ports legacy old
    → (deeds : List Deed) (now : MachineState) (run : RunsRuled old deeds now) (slot : ℕ) → slot < 32 → (issue : Issue) → IsReadDone now slot issue
    → (k : ℕ) → k < issue.work.len → ByteIsBrought issue.dev slot k old deeds now run

-- And it was in each stretch of it that begins where no queued command of the device that was sent stands in the slot.
abbrev pub ReadsAreBroughtSince : Type 0
ReadsAreBroughtSince = (ports : ℕ) (legacy : Bool) (old : MachineState) → IsOpeningMachine ports legacy old
    → (before : List Deed) (at : MachineState) → RunsRuled old before at → (deeds : List Deed) (now : MachineState) (run : RunsRuled at deeds now)
    → (slot : ℕ) → slot < 32 → (issue : Issue) → IsReadDone now slot issue
    → holds (is_sent_of (λ dev. dev == issue.dev)) (issue_at at.controller.core.slots slot) ≡ false
    → (k : ℕ) → k < issue.work.len → ByteIsBrought issue.dev slot k at deeds now run

-- ---- whose byte it is

-- each FIS of a device that is taken is heard, and nothing is wrong with it
abbrev pub TakesWell : (dev : ℕ) → (old : MachineState) → (deed : Deed) → (new : MachineState) → Does old deed new → Type 0
TakesWell dev old (Moved (act.Takes took)) new does = port_of does.does.frame.bytes ≡ dev → IsHeardWell old.controller took
TakesWell dev old deed new does = Unit {0}

abbrev pub AllTakenWell : (dev : ℕ) → (old : MachineState) → (deeds : List Deed) → (now : MachineState) → RunsRuled old deeds now → Type 0
AllTakenWell dev old [] now run = Unit {0}
AllTakenWell dev old (deed ∷ later) now run = TakesWell dev old deed run.1.0 run.1.1 × AllTakenWell dev run.1.0 later now run.1.2

-- A stretch of a run, what led to it, a port with a multiplier or without, a tag, and a disk that some calls of a new one led to.
pub record DiskStretch : Type 0 where
  pub many : Bool
  pub n : ℕ
  pub tag : ℕ
  pub old : MachineState
  pub before : List Deed
  pub at : MachineState
  pub first : RunsRuled old before at
  pub deeds : List Deed
  pub now : MachineState
  pub run : RunsRuled at deeds now
  pub p : Profile
  pub limit : ℕ
  pub base : List Call

-- The disk at the port sent this FIS for its command, which is the one that the guest had supplied for the slot (Reads). Since then the controller had
-- these calls until the bit fell.
pub record IsItsByte (s : DiskStretch) (k : ℕ) (sooner : List Deed) (mid : MachineState) (led : RunsRuled s.at sooner mid) (j place len : ℕ)
    (next : MachineState) (does : Does mid (Moved (act.Speaks j (out.Data place len))) next) (f : Stamped) (wrote : Wrote) (since : List Event) : Type 0 where
  pub read : IsReadOf s.many s.n s.tag s.old s.before s.at s.first sooner mid led s.p s.limit s.base j place len next does f wrote
  -- Byte k of the slot's command is byte k of those that the caller gave for the sectors of the disk's.
  pub byte : slice_get (drop 4 f.bytes) (k - wrote.offset) ≡ slice_get read.given.page.ledger.given k
  -- By none of these calls a command was issued in the slot: so the disk's is the one that was supplied for the last issue there before the bit fell.
  pub alone : AreNotIssued s.tag since
  pub whole : IsWhole s.old s.before s.at s.first s.deeds s.now s.run
  pub supplied : IsAsSupplied s.old (s.before ++ s.deeds) s.now whole.all s.tag read.given.given.order

-- so it is if the deed is one by which a disk sends Data for a queued command
abbrev pub OfItsByte : (s : DiskStretch) → (k : ℕ) → (sooner : List Deed) → (mid : MachineState) → RunsRuled s.at sooner mid → (deed : Deed)
    → (next : MachineState) → Does mid deed next → Stamped → Wrote → (since : List Event) → Type 0
OfItsByte s k sooner mid led (Moved (act.Speaks j (out.Data place len))) next does f wrote since =
    place < 32 → IsItsByte s k sooner mid led j place len next does f wrote since
OfItsByte s k sooner mid led deed next does f wrote since = Unit {0}

-- The FIS that brought the byte was sent at a moment of the stretch before it was taken.
pub record ByteIsRead (s : DiskStretch) (dev k : ℕ) : Type 0 where
  pub brought : ByteIsBrought dev s.tag k s.at s.deeds s.now s.run
  pub sooner : List Deed
  pub mid : MachineState
  pub led : RunsRuled s.at sooner mid
  pub deed : Deed
  pub next : MachineState
  pub does : Does mid deed next
  pub between : List Deed
  pub until : RunsRuled next between brought.mid
  pub is : brought.sooner ≡ sooner ++ deed ∷ between
  pub sent : sent_by mid deed next does ≡ brought.does.does.frame ∷ []
  pub read : OfItsByte s k sooner mid led deed next does brought.does.does.frame brought.brings.wrote (calls_in next between brought.mid until
      ++ call.Took brought.does.does.frame.bytes brought.took ∷ calls_in brought.after brought.later s.now brought.rest)

-- So it is of each byte of each queued read that the guest sees completed behind a stretch that begins at rest, in which the guest keeps to the standard
-- (Identity), and in which no FIS of the disk is lost or at fault (OwnSlots).
abbrev pub CompletedReadsAreBrought : Type 0
CompletedReadsAreBrought = (ports : ℕ) (legacy : Bool) (s : DiskStretch) → IsOpeningMachine ports legacy s.old
    → (c dev : ℕ) → s.n < 15 → dev < 16 → s.tag < 32
    → (rest : IsAtRest s.many s.n s.tag s.old s.before s.at s.first) → BeginsClear s.n c dev s.at
    → HasLink s.deeds → AllLast s.n s.at s.deeds s.now s.run → AllKeep s.many s.n s.tag s.at s.deeds s.now s.run
    → AllKeepLine s.many s.n c dev s.at s.deeds s.now s.run → AllTakenWell dev s.at s.deeds s.now s.run → NoneLost dev (calls_in s.at s.deeds s.now s.run)
    → AreCalls (new_disk s.p s.limit) s.base → rest.disk ≡ reached s.p s.limit s.base
    → (issue : Issue) → IsReadDone s.now s.tag issue → issue.dev ≡ dev → own_of s.many s.n dev ≡ true
    → (k : ℕ) → k < issue.work.len → ByteIsRead s dev k
