-- Read after write, as the guest of a machine sees it: the Data that it is given for a queued read have the bytes of a queued write that it saw completed
-- before it issued the read, at each sector of which no other store and no discard was asked for in between (AHCI 1.3.1, 3.3.13, PxSACT, and 5.3; Serial ATA 3.x, 10.5,
-- Data and Set Device Bits, and 13.6, native command queuing). So it is over each stretch of a run that begins at rest, in which the guest keeps to the
-- standard (Identity) and no FIS of the disk is lost or at fault (OwnSlots), if the medium gives what it was last told to keep (`sata_disk_media`).
use Rattle.std.specs.Prelude.{ℕ, zero, suc, ◌≡◌, ◌⊎◌, ◌<◌, Bool, true, false, List, [], ◌∷◌, ◌++◌, drop, Some}
use Rattle.fis_view.specs.Frames.{Stamped}
use Rattle.slots.specs.{Slots.{Issue, has_bit, issue_at}, declared.work.Kind.TheVariants.QueuedRead}
use Rattle.ahci_registers.specs.declared.register.Register.TheVariants.{PxSact}
use Rattle.hba_fbs.specs.{Taking.port_of, declared.report.Wrote.Wrote}
use Rattle.ahci_controller.specs.{Reading.shown, Taking.is_overflow, declared.taking.Took.Took}
use Rattle.controller_laws.specs.Events.{Event}
use Rattle.block_disk.specs.Laws.{Page}
use Rattle.disk_pages.specs.declared.profile.Profile.{Profile}
use Rattle.sata_disk.specs.State.{new_disk}
use Rattle.sata_disk.specs.declared.out.Out.TheVariants as out
use Rattle.sata_disk_books.specs.Books.{page_in}
use Rattle.sata_disk_laws.specs.{Calls.{AreCalls, Call, Sends}, Laws.reached}
use Rattle.sata_disk_media.specs.{Cells.{covers, sector_of}, Laws.{AreSparing, HasSector, IsUndisturbed, sector_in}, Media.IsHonest}
use Rattle.ahci_machine.specs.States.{IsOpeningMachine, MachineState}
use Rattle.ahci_machine.specs.declared.act.Act.TheVariants as act
use Rattle.machine_laws.specs.{ControllerLaws.{ControllerRuns, RunsRuled, calls_in}, Deeds.{Deed, Does, Moved}, Falling.{AllLast, HasLink}}
use Rattle.machine_laws.specs.Heard.{life_in, no_life}
use Rattle.machine_theorem.specs.{Commands.{IsOfSlot, issues_in}, Completions.IsDone, FirstDeeds.{AtSome, first_deeds, first_run, machine_at}}
use Rattle.machine_theorem.specs.{Following.AllHeardWell, Identity.{AllKeep, IsAtRest, calls_of, own_of}, Orders.standing_in, OwnSlots.AllKeepLine}
use Rattle.machine_theorem.specs.{OwnSlots.{BeginsClear, NoneLost, is_of}, Reads.IsBroughtAsRead, Writes.AreSupplied}

-- ---- what the guest sees

-- the slot's bit of PxSACT falls while the slot has a command for the disk
pub record Falls (own : ℕ → Bool) (slot : ℕ) (old new : MachineState) : Type 0 where
  pub shows : has_bit (shown PxSact old.controller) slot ≡ true
  pub hides : has_bit (shown PxSact new.controller) slot ≡ false
  pub issue : Issue
  pub is : issue_at old.controller.core.slots slot ≡ Some issue
  pub mine : own issue.dev ≡ true

-- it does as this FIS is taken
abbrev pub FallsBy : (own : ℕ → Bool) → (slot : ℕ) → (f : Stamped) → (old : MachineState) → (deed : Deed) → (new : MachineState) → Does old deed new → Type 0
FallsBy own slot f old (Moved (act.Takes took)) new does = Falls own slot old new × (does.does.frame ≡ f)
FallsBy own slot f old deed new does = ⊥

-- no queued command for the disk that was sent stands in the slot
abbrev pub IsFree : (own : ℕ → Bool) → (slot : ℕ) → MachineState → Type 0
IsFree own slot m = standing_in own slot m.controller ≡ 0

-- The bit of w falls by the deed behind the first k. At that deed's end or later slot r is free: so what stands there at the end was sent since.
abbrev pub FallsAt : (own : ℕ → Bool) → (w r : ℕ) → (f : Stamped) → (k : ℕ) → (old : MachineState) → (deeds : List Deed) → (now : MachineState)
    → RunsRuled old deeds now → Type 0
FallsAt own w r f k old [] now run = ⊥
FallsAt own w r f zero old (deed ∷ later) now run = FallsBy own w f old deed run.1.0 run.1.1 × AtSome (IsFree own r) run.1.0 later now run.1.2
FallsAt own w r f (suc k) old (deed ∷ later) now run = FallsAt own w r f k run.1.0 later now run.1.2

-- ---- what is read back

-- None of the later calls of a disk asks for a store or a discard of a sector; or at no moment of them a write that has it is under way, or a discard waits.
abbrev pub IsUntouched : (p : Profile) → (limit : ℕ) → (first later : List Call) → (s : ℕ) → Type 0
IsUntouched p limit first later s = AreSparing (reached p limit first) s later
    ⊎ ((before after : List Call) → later ≡ before ++ after → IsUndisturbed p limit (first ++ before) s)

-- By these calls of a disk the write of a page ended, and then came others; Data go next of slot r. Each whole sector in them that the write wrote has the
-- bytes that came for the write, unless another store or a discard of it was asked for since then.
pub record IsBack (p : Profile) (limit : ℕ) (ended calls : List Call) (written : Page) (r : ℕ) (bytes : List ℕ) : Type 0 where
  pub since : List Call
  pub is : calls ≡ ended ++ since
  pub same : (read : Page) → page_in p limit calls r ≡ Some read → written.command.write ≡ true
      → (s : ℕ) → covers written.command.lba written.command.count s ≡ true → HasSector read bytes s → IsUntouched p limit ended since s
      → sector_in read bytes s ≡ sector_of written.command.lba s written.ledger.came

-- so it is if the deed is one by which a disk sends Data for a queued command
abbrev pub IfQueuedData : Deed → Type 0 → Type 0
IfQueuedData (Moved (act.Speaks k (out.Data place len))) Holds = place < 32 → Holds
IfQueuedData deed Holds = Unit {0}

-- the disk at the port was new as it was put there last, and these are its calls since
pub record IsSinceNew (n : ℕ) (old : MachineState) (deeds : List Deed) (now : MachineState) (run : RunsRuled old deeds now) (p : Profile) (limit : ℕ)
    (calls : List Call) : Type 0 where
  pub new : (life_in n no_life old deeds now run).first ≡ Some (new_disk p limit)
  pub all : calls ≡ (life_in n no_life old deeds now run).calls

-- The command of a page came from a slot, and what came for it are the payload of Data FISes that went with what the caller had supplied for them.
pub record IsSuppliedPage (old : MachineState) (deeds : List Deed) (now : MachineState) (n : ℕ) (p : Profile) (limit : ℕ) (page : Page) : Type 0 where
  pub run : RunsRuled old deeds now
  pub command : IsOfSlot old deeds now run n p limit (life_in n no_life old deeds now run).calls page.command
  pub came : AreSupplied old deeds now run n command.asked.later page.ledger.came

pub record IsReadBack (many : Bool) (n w r : ℕ) (old : MachineState) (before : List Deed) (at : MachineState) (first : RunsRuled old before at)
    (sooner : List Deed) (mid : MachineState) (led : RunsRuled at sooner mid) (deeds : List Deed) (p : Profile) (limit : ℕ) (base : List Call)
    (end data' : Stamped) (wrote : Wrote) : Type 0 where
  -- The command whose bit fell is the one that the guest had supplied for its slot. The disk ended it at a moment before the bit fell.
  pub written : IsDone many n w old before at first sooner mid led p limit base end
  -- What came for it was supplied, too, if the disk was new as it was put at its port.
  pub supplied : IsSinceNew n old before at first p limit base
      → IsSuppliedPage old (before ++ written.end.before) written.end.moment n p limit written.page
  -- The Data FIS was sent at a moment of the stretch, for the read that the guest had supplied for its slot, and its bytes have their numbers.
  pub read : IsBroughtAsRead many n r old before at first deeds p limit base data' wrote
  -- They are what was written. Between the two moments the disk made these calls and no others.
  pub back : IfQueuedData read.deed (IsBack p limit
      (base ++ calls_of n at written.end.before written.end.moment written.end.first ++ Sends (out.Ends written.end.tags) ∷ [])
      (base ++ calls_of n at read.sooner read.mid read.led) written.page r (drop 4 data'.bytes))

-- ---- the law

-- Over each such stretch: the bit of w falls by a FIS, behind that slot r is free, and then a Data FIS of the connection brings bytes for slot r, in which a
-- queued read is issued, unless they go past its table.
abbrev pub GuestsReadBack : Type 0
GuestsReadBack = (ports : ℕ) (legacy : Bool) (old : MachineState) → IsOpeningMachine ports legacy old
    → (before : List Deed) (at : MachineState) (first : RunsRuled old before at) (many : Bool) (n c dev w r : ℕ) → n < 15 → dev < 16 → w < 32 → r < 32
    → (rest : IsAtRest many n w old before at first) → IsAtRest many n r old before at first → BeginsClear n c dev at
    → (deeds : List Deed) (now : MachineState) (run : RunsRuled at deeds now)
    → HasLink deeds → AllLast n at deeds now run → AllKeep many n w at deeds now run → AllKeep many n r at deeds now run
    → AllKeepLine many n c dev at deeds now run → (runs : ControllerRuns at deeds now run)
    → AllHeardWell dev at.controller (calls_in at deeds now run) now.controller runs.calls → NoneLost dev (calls_in at deeds now run)
    → (p : Profile) (limit : ℕ) (base : List Call) → AreCalls (new_disk p limit) base → rest.disk ≡ reached p limit base
    → IsHonest p limit (base ++ calls_of n at deeds now run)
    → (k : ℕ) (end : Stamped) → FallsAt (own_of many n) w r end k at deeds now run
    → (took : Took) (new : MachineState) → (does : Does now (Moved (act.Takes took)) new) → is_of n c does.does.frame ≡ true
    → port_of does.does.frame.bytes ≡ dev → is_overflow took.report.fault ≡ false → (wrote : Wrote) → took.brought ≡ Some wrote → wrote.slot ≡ r
    → (issue : Issue) → issue_at now.controller.core.slots wrote.slot ≡ Some issue → issue.work.kind ≡ QueuedRead
    → IsReadBack many n w r old before at first (first_deeds k deeds) (machine_at k at deeds now run) (first_run k at deeds now run) deeds p limit base
    end does.does.frame wrote

-- ---- where a slot is free

-- Where PxSACT does not show a slot, no queued command stands there: so the guest sees that the slot is free.
abbrev pub HiddenIsFree : Type 0
HiddenIsFree = (m : MachineState) → (own : ℕ → Bool) (slot : ℕ) → slot < 32 → has_bit (shown PxSact m.controller) slot ≡ false → IsFree own slot m

-- a command is issued in the slot by one of these calls
abbrev pub AreIssuedIn : ℕ → List Event → Type 0
AreIssuedIn slot [] = ⊥
AreIssuedIn slot (event ∷ later) = (issues_in slot event ≡ true) ⊎ AreIssuedIn slot later

-- Where a command is issued in a slot over a run, the slot was free at a machine of it.
abbrev pub IssuedWasFree : Type 0
IssuedWasFree = (ports : ℕ) (legacy : Bool) (old : MachineState) → IsOpeningMachine ports legacy old
    → (before : List Deed) (at : MachineState) → RunsRuled old before at
    → (deeds : List Deed) (now : MachineState) (run : RunsRuled at deeds now) (own : ℕ → Bool) (slot : ℕ) → AreIssuedIn slot (calls_in at deeds now run)
    → AtSome (IsFree own slot) at deeds now run
