-- Whose bytes those are of a READ DMA that the guest sees completed: the disk sent them for the command that the guest had supplied for the slot (AHCI 1.3.1,
-- 3.3.14, PxCI, 5.3.8 and 5.3.13, a port sends a command and takes a FIS; Serial ATA 3.x, 10.5, Data and Register Device to Host; ACS-3, 4, DMA data-in
-- protocol). A Data FIS names no command. So it is over each stretch of a run that begins while nothing is under way at the disk, and in which commands and
-- answers go in turn.
use Rattle.std.specs.Prelude.{ℕ, ◌≡◌, ◌<◌, Bool, true, false, List, [], ◌∷◌, ◌++◌, drop, Some}
use Rattle.fis_view.specs.Frames.{Stamped}
use Rattle.slots.specs.Slots.{Issue, is_pio}
use Rattle.block_disk.specs.Laws.{Page}
use Rattle.disk_pages.specs.declared.profile.Profile.{Profile}
use Rattle.sata_disk.specs.{Sending.IsOut, State.new_disk, declared.out.Out.Out}
use Rattle.sata_disk.specs.declared.out.Out.TheVariants as out
use Rattle.sata_disk_books.specs.Books.{AreNext, IsAskedFor, page_in}
use Rattle.sata_disk_laws.specs.{Calls.{AreCalls, Call}, Laws.reached, Once.{host_of, new_host}}
use Rattle.ahci_machine.specs.States.{IsOpeningMachine, MachineState}
use Rattle.ahci_machine.specs.declared.act.Act.TheVariants as act
use Rattle.machine_laws.specs.{ControllerLaws.RunsRuled, Deeds.{Deed, Does, Moved}, Falling.{AllLast, HasLink}}
use Rattle.machine_laws.specs.Rising.{sent_by}
use Rattle.machine_theorem.specs.{Brought.DiskStretch, Identity.calls_of, InTurn.{AreKeptOn, IsIdle, IsInTurn}, OwnSlots.{AllKeepLine, is_of}}
use Rattle.machine_theorem.specs.{PioIn.AllKeepUnqueued, SingleReads.{IsSingleDone, SingleIsBrought}, Singles.{BeginsIdle, IsFromSlot}}

-- ---- a disk alone

-- The Data of a command that moves sectors, and is not queued, go for the one that was heard behind all that were answered. So it is over each stretch of calls of
-- a disk that begins while its host waits for nothing.
abbrev pub SingleDataGoInTurn : Type 0
SingleDataGoInTurn = (p : Profile) (limit : ℕ) (base calls : List Call) → AreCalls (new_disk p limit) (base ++ calls) → IsIdle (host_of new_host base)
    → AreKeptOn calls → (len : ℕ) → IsOut (reached p limit (base ++ calls)) (Some (out.Data 32 len)) → (page : Page)
    → page_in p limit (base ++ calls) 32 ≡ Some page → IsInTurn p limit base calls page.command

-- ---- the command for which a FIS was sent

-- The books of the disk had this command, as it sent the FIS, and the bytes are the next ones that the caller gave for its sectors. It is what the FIS asked
-- for that the guest had supplied for the slot, as it was issued there last before the bit fell: it went from the slot in the stretch, and since then nothing was
-- issued there.
pub record IsSentFor (s : DiskStretch) (dev : ℕ) (calls : List Call) (f : Stamped) : Type 0 where
  pub page : Page
  pub books : page_in s.p s.limit (s.base ++ calls) 32 ≡ Some page
  pub next : AreNext page.ledger (drop 4 f.bytes)
  pub asked : IsAskedFor s.p s.limit (s.base ++ calls) page.command
  pub slots : IsFromSlot dev s.tag s.old s.before s.at s.first s.deeds s.now s.run asked.bytes

-- so it is where a disk sends Data for a command that moves sectors and is not queued
abbrev pub OfItsSectors : (s : DiskStretch) → (dev : ℕ) → (calls : List Call) → Out → Stamped → Type 0
OfItsSectors s dev calls (out.Data place len) f = place ≡ 32 → IsSentFor s dev calls f
OfItsSectors s dev calls other f = Unit {0}

-- Byte k was brought in the stretch, by a FIS that the disk at the port sent at a moment of the stretch before.
pub record SingleIsSent (s : DiskStretch) (issue : Issue) (k : ℕ) : Type 0 where
  pub brought : SingleIsBrought issue.work.kind issue.dev s.tag k s.at s.deeds s.now s.run
  pub sooner : List Deed
  pub mid : MachineState
  pub led : RunsRuled s.at sooner mid
  pub said : Out
  pub next : MachineState
  pub does : Does mid (Moved (act.Speaks s.n said)) next
  pub between : List Deed
  pub until : RunsRuled next between brought.mid
  pub is : brought.sooner ≡ sooner ++ Moved (act.Speaks s.n said) ∷ between
  pub sent : sent_by mid (Moved (act.Speaks s.n said)) next does ≡ brought.does.does.frame ∷ []
  pub for : OfItsSectors s issue.dev (calls_of s.n s.at sooner mid led) said brought.does.does.frame

-- ---- the law

-- So it is of each byte of a READ DMA for the device whose bit of PxCI falls behind such a stretch as a FIS of the connection is taken.
abbrev pub SinglesAreSent : Type 0
SinglesAreSent = (ports : ℕ) (legacy : Bool) (s : DiskStretch) → IsOpeningMachine ports legacy s.old
    → (c dev : ℕ) → s.n < 15 → dev < 16 → s.tag < 32
    → (begins : BeginsIdle s.n c s.at) → AreCalls (new_disk s.p s.limit) s.base → begins.disk ≡ reached s.p s.limit s.base → IsIdle (host_of new_host s.base)
    → HasLink s.deeds → AllLast s.n s.at s.deeds s.now s.run → AllKeepLine s.many s.n c dev s.at s.deeds s.now s.run
    → AreKeptOn (calls_of s.n s.at s.deeds s.now s.run) → AllKeepUnqueued s.many s.n dev s.at s.deeds s.now s.run
    → (issue : Issue) (done : IsSingleDone s.now s.tag issue) → is_of s.n c done.does.does.frame ≡ true → issue.dev ≡ dev → is_pio issue.work.kind ≡ false
    → (k : ℕ) → k < issue.work.len → SingleIsSent s issue k
