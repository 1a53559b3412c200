-- A guest that sends a disk queued commands alone: each byte of a queued read that it sees completed was brought by a FIS that this disk sent for the command
-- which the guest had supplied for the slot; it is the one of its number that the caller gave for its sectors, and was written at its place (AHCI 1.3.1,
-- 3.3.13, PxSACT, and 5.3.13; Serial ATA 3.x, 13.6, native command queuing; ACS-3, 4, protocols).
use Rattle.std.specs.Prelude.{ℕ, ◌≡◌, ◌<◌, ◌&&◌, Bool, true, false, not, List, [], ◌∷◌, ◌++◌, slice_get, Some, Result, Ok}
use Rattle.fis_view.specs.{Frames.Stamped, Seen.seen, Table.{H2d, Command, field}, declared.view.{Fis.Fis, FisFault.FisFault}}
use Rattle.fis_view.specs.declared.view.Fis.TheVariants as view
use Rattle.slots.specs.Slots.{Issue}
use Rattle.controller_laws.specs.Events as call
use Rattle.controller_laws.specs.Sources.{command_of, unmoved}
use Rattle.sata_disk.specs.{Hearing.is_command, State.new_disk}
use Rattle.sata_disk.specs.declared.out.Out.TheVariants as out
use Rattle.sata_disk_laws.specs.{Calls.AreCalls, Laws.reached, Once.{host_of, is_queued_code, new_host}}
use Rattle.ahci_machine.specs.States.{IsOpeningMachine, MachineState}
use Rattle.ahci_machine.specs.declared.act.Act.TheVariants as act
use Rattle.machine_laws.specs.{ControllerLaws.{RunsRuled, calls_in}, Deeds.{Deed, Does, Moved}, Falling.{AllLast, HasLink, sent_in}, Rising.sent_by}
use Rattle.machine_theorem.specs.{Brought.{AllTakenWell, ByteIsBrought, DiskStretch, IsItsByte, IsReadDone}, Identity.{AllKeep, IsAtRest, heard_as}}
use Rattle.machine_theorem.specs.{Identity.{is_for, own_of}, OwnSlots.{AllKeepLine, BeginsClear, NoneLost}, ReadsWritten.IsWritten}

-- ---- the guest

-- a FIS asks for a command that is not queued
abbrev pub asks_single : Result Fis FisFault → Bool
asks_single (Ok (view.RegH2D f)) = is_command f && not (is_queued_code (field H2d Command f))
asks_single other = false

-- no FIS for the disk does, as it hears them
abbrev pub NoneSingle : (many : Bool) → (n : ℕ) → List Stamped → Type 0
NoneSingle many n [] = Unit {0}
NoneSingle many n (f ∷ later) = (is_for many n f ≡ true → asks_single (seen (heard_as f)) ≡ false) × NoneSingle many n later

-- As the stretch began its host had none open at the disk (`sata_disk_laws`), and none was sent to it in the stretch.
pub record SendsQueued (s : DiskStretch) : Type 0 where
  pub begins : (host_of new_host s.base).open_at 32 ≡ false
  pub sends : NoneSingle s.many s.n (sent_in (calls_in s.at s.deeds s.now s.run))

-- ---- its reads

-- The disk at the port sent the FIS that brought the byte at a moment of the stretch before it was taken, for a queued command.
pub record ByteIsOfDisk (s : DiskStretch) (dev k : ℕ) : Type 0 where
  pub brought : ByteIsBrought dev s.tag k s.at s.deeds s.now s.run
  -- It was written at its place before the bit fell.
  pub written : IsWritten dev s.tag k s.at s.deeds s.now s.run brought
  pub sooner : List Deed
  pub mid : MachineState
  pub led : RunsRuled s.at sooner mid
  pub port : ℕ
  pub place : ℕ
  pub len : ℕ
  pub next : MachineState
  pub does : Does mid (Moved (act.Speaks port (out.Data place len))) next
  pub between : List Deed
  pub until : RunsRuled next between brought.mid
  pub is : brought.sooner ≡ sooner ++ Moved (act.Speaks port (out.Data place len)) ∷ between
  pub sent : sent_by mid (Moved (act.Speaks port (out.Data place len))) next does ≡ brought.does.does.frame ∷ []
  pub read : IsItsByte s k sooner mid led port place len next does brought.does.does.frame brought.brings.wrote (calls_in next between brought.mid until
      ++ call.Took brought.does.does.frame.bytes brought.took ∷ calls_in brought.after brought.later s.now brought.rest)
  -- So what was written at the place of byte k is byte k of those that the caller gave for the sectors of the disk's command.
  pub given : slice_get read.read.given.page.ledger.given k ≡ Some written.byte
  -- The table by which it was written is that of the command which was supplied for the last issue in the slot before the bit falls, as the disk's FIS is.
  pub table : command_of read.supplied.source ≡ Some (unmoved written.command)

-- So it is of each byte of each queued read that such a guest sees completed behind a stretch as in `CompletedReadsAreBrought`.
abbrev pub QueuedReadsAreBrought : Type 0
QueuedReadsAreBrought = (ports : ℕ) (legacy : Bool) (s : DiskStretch) → IsOpeningMachine ports legacy s.old
    → (c dev : ℕ) → s.n < 15 → dev < 16 → s.tag < 32
    → (rest : IsAtRest s.many s.n s.tag s.old s.before s.at s.first) → BeginsClear s.n c dev s.at
    → HasLink s.deeds → AllLast s.n s.at s.deeds s.now s.run → AllKeep s.many s.n s.tag s.at s.deeds s.now s.run
    → AllKeepLine s.many s.n c dev s.at s.deeds s.now s.run → AllTakenWell dev s.at s.deeds s.now s.run → NoneLost dev (calls_in s.at s.deeds s.now s.run)
    → AreCalls (new_disk s.p s.limit) s.base → rest.disk ≡ reached s.p s.limit s.base → SendsQueued s
    → (issue : Issue) → IsReadDone s.now s.tag issue → issue.dev ≡ dev → own_of s.many s.n dev ≡ true
    → (k : ℕ) → k < issue.work.len → ByteIsOfDisk s dev k
