-- A queued write that the guest sees completed, whole: each byte that came for it at its disk is the one of its number that the caller had supplied for the slot;
-- and the disk had exactly these stored, in order, at the sectors of the command, and flushed where they are to last (AHCI 1.3.1, 3.3.13, PxSACT, 4.2.3.3 and 5.3;
-- Serial ATA 3.x, 10.5, Data and Set Device Bits, and 13.6, native command queuing; ACS-3, 7, WRITE FPDMA QUEUED). So it is over each stretch of a run that begins
-- at rest, in which the guest keeps to the standard (Identity) and sends the disk queued commands alone (QueuedOnly), and no FIS of the disk is lost or at fault.
use Rattle.std.specs.Prelude.{ℕ, ◌≡◌, ◌+◌, ◌-◌, ◌<◌, ◌≤◌, Bool, true, false, List, [], ◌∷◌, ◌++◌, drop, length, slice_get, Option, Some}
use Rattle.fis_view.specs.Frames.{Stamped}
use Rattle.slots.specs.Slots.{Issue, has_bit, issue_at}
use Rattle.ahci_registers.specs.declared.register.Register.TheVariants.{PxSact}
use Rattle.ahci_controller.specs.{Reading.shown, declared.taking.Took.Took}
use Rattle.ahci_controller.specs.declared.next.Next.TheVariants as next
use Rattle.block_command.specs.Laws.{WriteIsEarned}
use Rattle.sata_disk.specs.{State.new_disk, declared.unheard.Unheard.Unheard}
use Rattle.sata_disk_books.specs.InTurn.{AwaitsNone}
use Rattle.sata_disk_laws.specs.{Calls.AreCalls, Laws.reached}
use Rattle.ahci_machine.specs.States.{HasRules, IsOpeningMachine, MachineState, bay_at}
use Rattle.ahci_machine.specs.declared.act.Act.TheVariants as act
use Rattle.machine_laws.specs.{ControllerLaws.{RunsRuled, calls_in}, Deeds.{Deed, Does, Moved}, Falling.{AllLast, HasLink}, Feeding.came_in}
use Rattle.machine_theorem.specs.{Brought.{AllTakenWell, DiskStretch}, Completions.IsDone, Identity.{AllKeep, IsAtRest, calls_of, own_of}}
use Rattle.machine_theorem.specs.{OwnSlots.{AllKeepLine, BeginsClear, NoneLost}, OwnWrites.AreOwnData, QueuedOnly.SendsQueued, QueuedWrites.AllQueued}
use Rattle.machine_theorem.specs.QueuedWrites.{IsFedWrite, OwesNothing, TakesAll}

-- a stretch until a moment of it
abbrev pub up_to : (s : DiskStretch) → (sooner : List Deed) → (mid : MachineState) → RunsRuled s.at sooner mid → DiskStretch
up_to s sooner mid led = record {
  many = s.many;
  n = s.n;
  tag = s.tag;
  old = s.old;
  before = s.before;
  at = s.at;
  first = s.first;
  deeds = sooner;
  now = mid;
  run = led;
  p = s.p;
  limit = s.limit;
  base = s.base;
}

-- ---- one byte

-- Byte k of those that came for the command that is done.
pub record ByteIsStored (s : DiskStretch) (dev k : ℕ) (fis : Stamped)
    (done : IsDone s.many s.n s.tag s.old s.before s.at s.first s.deeds s.now s.run s.p s.limit s.base fis) : Type 0 where
  -- At a moment of the stretch, before the disk said that the command ended well, it heard a Data FIS for the command.
  pub sooner : List Deed
  pub mid : MachineState
  pub led : RunsRuled s.at sooner mid
  pub unheard : Option Unheard
  pub after : MachineState
  pub hears : Does mid (Moved (act.Hears s.n unheard)) after
  pub later : List Deed
  pub is : done.end.before ≡ sooner ++ Moved (act.Hears s.n unheard) ∷ later
  pub frame : Stamped
  pub down : (bay_at mid s.n).down ≡ Some frame
  -- This went of the slot of the tag, with a queued write. Its first byte has the number of those that came for the command before, and its payload is what
  -- the caller had supplied for the slot from that byte on.
  pub fed : IsFedWrite (up_to s sooner mid led) dev frame
  pub from : fed.write.went.goes.offset ≤ k
  pub to : k < fed.write.went.goes.offset + length (drop 4 frame.bytes)
  -- It went behind the FIS of the command that is done. Since this went nothing was issued in the slot, until the bit falls (`alone` of `IsDone`): so the slot's
  -- command was this one, and its table the one that the guest had supplied with it.
  pub upto : List Deed
  pub ordering : MachineState
  pub until : RunsRuled s.at upto ordering
  pub behind : MachineState
  pub orders : Does ordering (Moved (act.Turns (next.Order done.dev s.tag done.order))) behind
  pub reads : List Deed
  pub run : RunsRuled behind reads fed.write.went.mid
  pub sent : fed.write.went.before ≡ upto ++ Moved (act.Turns (next.Order done.dev s.tag done.order)) ∷ reads
  pub calls : calls_in s.at upto ordering until ≡ done.ordered.before
  -- So was all of it supplied: byte k is the one of its number of those that the caller supplied for the slot since this FIS went.
  pub byte : slice_get done.page.ledger.came k ≡ slice_get (came_in dev [] behind reads fed.write.went.mid run) (k - fed.write.went.goes.offset)

-- ---- the write

pub record IsStoredWrite (s : DiskStretch) (dev : ℕ) (fis : Stamped) : Type 0 where
  -- The command whose bit falls is what the FIS asks for that the guest had supplied for the slot, as it was issued there last.
  pub done : IsDone s.many s.n s.tag s.old s.before s.at s.first s.deeds s.now s.run s.p s.limit s.base fis
  -- If it is a write, the caller was asked to store all that came, in order, at its sectors, and had answered that it did; and had answered a flush that was asked
  -- for behind that, where the write is to last. All of its bytes came.
  pub stored : done.page.command.write ≡ true → WriteIsEarned done.page.command done.page.ledger
  -- And each of them is the one of its number that the caller had supplied for the slot.
  pub bytes : (k : ℕ) → k < length done.page.ledger.came → ByteIsStored s dev k fis done

-- So it is of each queued command of the disk that such a guest sees completed by a FIS behind such a stretch.
abbrev pub CompletedWritesAreStored : Type 0
CompletedWritesAreStored = (ports : ℕ) (legacy : Bool) (s : DiskStretch) → IsOpeningMachine ports legacy s.old
    → (c dev : ℕ) → s.n < 15 → dev < 16 → s.tag < 32
    → (rest : IsAtRest s.many s.n s.tag s.old s.before s.at s.first) → BeginsClear s.n c dev s.at
    → HasLink s.deeds → AllLast s.n s.at s.deeds s.now s.run → AllKeep s.many s.n s.tag s.at s.deeds s.now s.run
    → AllKeepLine s.many s.n c dev s.at s.deeds s.now s.run → AllTakenWell dev s.at s.deeds s.now s.run → NoneLost dev (calls_in s.at s.deeds s.now s.run)
    → AreOwnData s.many s.n dev (calls_in s.at s.deeds s.now s.run)
    → AreCalls (new_disk s.p s.limit) s.base → rest.disk ≡ reached s.p s.limit s.base → AwaitsNone (reached s.p s.limit s.base)
    → SendsQueued s → AllQueued dev s.at s.deeds s.now s.run → OwesNothing (reached s.p s.limit s.base)
    → TakesAll (reached s.p s.limit s.base) (calls_of s.n s.at s.deeds s.now s.run)
    → (took : Took) (new : MachineState) → (does : Does s.now (Moved (act.Takes took)) new) → HasRules new
    → has_bit (shown PxSact s.now.controller) s.tag ≡ true → has_bit (shown PxSact new.controller) s.tag ≡ false
    → (issue : Issue) → issue_at s.now.controller.core.slots s.tag ≡ Some issue → own_of s.many s.n issue.dev ≡ true
    → IsStoredWrite s dev does.does.frame
