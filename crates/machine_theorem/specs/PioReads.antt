-- Whose bytes those are of a read that is not queued, READ DMA or PIO data-in, and that the guest sees completed: byte k of the slot's command is
-- byte k of those that the caller gave for the sectors of the disk's command. The last Data of a PIO data-in end it, and no Register FIS follows
-- (ACS-3, 4, DMA and PIO data-in protocols; Serial ATA 3.x, 10.5, PIO Setup and Data; AHCI 1.3.1, 3.3.14, PxCI, and 5.3.13, a port takes a FIS). So
-- it is over each stretch of a run that begins while nothing is under way at the disk, whatever reads and writes end in it.
use Rattle.std.specs.Prelude.{ℕ, ◌≡◌, ◌⊎◌, ◌<◌, ◌-◌, Bool, true, false, List, [], ◌∷◌, ◌++◌, drop, length, slice_get, Some}
use Rattle.fis_view.specs.Frames.{Stamped}
use Rattle.guest_fetch.specs.Commands.{Fetched}
use Rattle.slots.specs.Slots.{Issue}
use Rattle.hba_fbs.specs.declared.report.Wrote.{Wrote}
use Rattle.ahci_controller.specs.States.{kept}
use Rattle.controller_laws.specs.{Sources.{command_of, unmoved}}
use Rattle.sata_disk.specs.{State.new_disk, declared.out.Out.Out}
use Rattle.sata_disk.specs.declared.out.Out.TheVariants as out
use Rattle.sata_disk_laws.specs.{Calls.{AreCalls, Call}, Laws.reached, Once.{host_of, new_host}}
use Rattle.ahci_machine.specs.States.{IsOpeningMachine, MachineState}
use Rattle.ahci_machine.specs.declared.act.Act.TheVariants as act
use Rattle.machine_laws.specs.{ControllerLaws.{RunsRuled, calls_in}, Deeds.{Deed, Does, Moved}, Falling.{AllLast, HasLink}}
use Rattle.machine_laws.specs.Rising.{sent_by}
use Rattle.machine_theorem.specs.{Brought.{AllTakenWell, DiskStretch}, Identity.calls_of, InTurn.{AreKeptOn, IsIdle}}
use Rattle.machine_theorem.specs.{OwnSlots.{AllKeepLine, NoneLost, is_of}, PioIn.AllKeepUnqueued, SingleBytes.IsSentFor}
use Rattle.machine_theorem.specs.{SingleNumbers.{SendsSingle, SingleIsRead}, SingleReads.{ComesLast, IsSingleDone}, Singles.{BeginsIdle, IsFromSlot}, Transfers.is_transferring}

-- ---- what is sent

-- The command that the guest had supplied for the slot, as it was issued there last before the bit fell, moves no sectors.
pub record IsOfNoSectors (s : DiskStretch) (dev : ℕ) : Type 0 where
  pub bytes : List ℕ
  pub slots : IsFromSlot dev s.tag s.old s.before s.at s.first s.deeds s.now s.run bytes
  pub none : is_transferring bytes ≡ false

-- The disk sent Data of a command that moves sectors, and is not queued; or a page that it has of itself, and then the command of the slot moves
-- none.
abbrev pub IsItsData : (s : DiskStretch) → (dev : ℕ) → Out → Type 0
IsItsData s dev (out.Data place len) = place ≡ 32
IsItsData s dev (out.Page page) = IsOfNoSectors s dev
IsItsData s dev other = ⊥

-- The byte was brought before the bit fell, and was written at its place before (SingleNumbers).
pub record CameIsRead (s : DiskStretch) (issue : Issue) (k : ℕ) : Type 0 where
  pub came : SingleIsRead s issue k
  pub data' : IsItsData s issue.dev came.said

-- ---- the byte of the last Data

-- The disk sent the FIS for the command that the guest had supplied for the slot. Its first byte has the number of those that were sent of it before,
-- and byte k of the slot's command, which it has, is byte k of those that the caller gave for the sectors of the disk's command.
pub record IsLastByte (s : DiskStretch) (dev k : ℕ) (calls : List Call) (f : Stamped) (wrote : Wrote) : Type 0 where
  pub for : IsSentFor s dev calls f
  pub number : wrote.offset ≡ length for.page.ledger.sent
  pub given : slice_get (drop 4 f.bytes) (k - wrote.offset) ≡ slice_get for.page.ledger.given k
  -- The table by which the FIS is taken is that of the command which was supplied for the last issue in the slot, as the disk's FIS is.
  pub command : Fetched
  pub has : kept s.now.controller s.tag ≡ Some command
  pub table : command_of for.slots.supplied.source ≡ Some (unmoved command)

abbrev pub OfLastByte : (s : DiskStretch) → (dev k : ℕ) → (calls : List Call) → Out → Stamped → Wrote → Type 0
OfLastByte s dev k calls (out.Data place len) f wrote = place ≡ 32 → IsLastByte s dev k calls f wrote
OfLastByte s dev k calls other f wrote = Unit {0}

-- The FIS by which the bit falls brings byte k, and the disk at the port sent it at a moment of the stretch.
pub record LastIsRead (s : DiskStretch) (issue : Issue) (done : IsSingleDone s.now s.tag issue) (k : ℕ) : Type 0 where
  pub comes : ComesLast s.tag k s.now issue done
  pub sooner : List Deed
  pub mid : MachineState
  pub led : RunsRuled s.at sooner mid
  pub said : Out
  pub next : MachineState
  pub does : Does mid (Moved (act.Speaks s.n said)) next
  pub between : List Deed
  pub until : RunsRuled next between s.now
  pub is : s.deeds ≡ sooner ++ Moved (act.Speaks s.n said) ∷ between
  pub sent : sent_by mid (Moved (act.Speaks s.n said)) next does ≡ done.does.does.frame ∷ []
  pub read : OfLastByte s issue.dev k (calls_of s.n s.at sooner mid led) said done.does.does.frame comes.brings.wrote
  pub data' : IsItsData s issue.dev said
  -- Behind the stretch its host has no queued command open at the disk, as at its beginning.
  pub shut : (tag : ℕ) → tag < 32 → (host_of new_host (s.base ++ calls_of s.n s.at s.deeds s.now s.run)).open_at tag ≡ false

-- ---- the law

-- So it is of each byte of each read that is not queued and that the guest sees completed behind such a stretch, in which the guest sends the disk no
-- queued command, and no FIS of the disk is lost or at fault.
abbrev pub UnqueuedReadsAreRead : Type 0
UnqueuedReadsAreRead = (ports : ℕ) (legacy : Bool) (s : DiskStretch) → IsOpeningMachine ports legacy s.old
    → (c dev : ℕ) → s.n < 15 → dev < 16 → s.tag < 32
    → (begins : BeginsIdle s.n c s.at) → AreCalls (new_disk s.p s.limit) s.base → begins.disk ≡ reached s.p s.limit s.base
    → IsIdle (host_of new_host s.base)
    → HasLink s.deeds → AllLast s.n s.at s.deeds s.now s.run → AllKeepLine s.many s.n c dev s.at s.deeds s.now s.run
    → AreKeptOn (calls_of s.n s.at s.deeds s.now s.run) → AllKeepUnqueued s.many s.n dev s.at s.deeds s.now s.run
    → AllTakenWell dev s.at s.deeds s.now s.run → NoneLost dev (calls_in s.at s.deeds s.now s.run) → SendsSingle s
    → (issue : Issue) (done : IsSingleDone s.now s.tag issue) → is_of s.n c done.does.does.frame ≡ true → issue.dev ≡ dev
    → (k : ℕ) → k < issue.work.len → CameIsRead s issue k ⊎ LastIsRead s issue done k
