-- What the answers of a device, and commands that are not queued, leave of each queued command: AHCI 1.3.1,
-- 5.3 (how a port receives each type of FIS); Serial ATA 3.x, 10.5, FIS types, and 13.6, native command
-- queuing.
use Rattle.std.specs.Prelude.{ℕ, ◌≡◌, ◌==◌, ◌≤◌, Bool, true, false, List, [], ◌∷◌, length, slice_get, None, Some}
use Rattle.slots.specs.Slots.{has_bit}
use Rattle.disk_model.specs.{declared.request.Request.Request, Ends.{FitsRequest, IsFree}}
use Rattle.disk_model.specs.Ledger.{Ledger, Names, ReadOut, Written, answered, answers, asks, sends_data}
use Rattle.disk_model.specs.declared.request.Request.TheVariants as asked
use Rattle.hba_laws.specs.History.{Answered, Carried, History, Named, PioSetUp, Sent, filled, is_at, waiting_in}
use Rattle.disk_simulation.specs.Same.{InLife, IsReadOf, IsWriteOf, SlotCommand, Stand}

-- no queued command is outstanding or waits for an answer, and no data of one moves
pub record IsIdle (k : Ledger) : Type 0 where
  pub outstanding : k.outstanding ≡ []
  pub unanswered : k.unanswered ≡ []
  pub moving : k.moving ≡ None

-- a command that is not queued
abbrev pub IsAlone : Request → Type 0
IsAlone (asked.Reset on) = ⊥
IsAlone (asked.Queue c) = ⊥
IsAlone asked.ReadErrorLog = Unit {0}
IsAlone asked.Identify = Unit {0}
IsAlone asked.Flush = Unit {0}
IsAlone asked.Other = Unit {0}

-- a command that is not queued is transmitted from another slot, where it is allowed
abbrev pub OthersKeep : Type 0
OthersKeep = (s slot : ℕ) (c : SlotCommand) (request : Request) (past : History) (k : Ledger)
    → (slot == s) ≡ false → k.failed ≡ false → IsAlone request → FitsRequest k request
    → InLife s c past k → InLife s c (Sent slot ∷ past) (asks k request k.failed)

-- While no queued command is there, a Register FIS answers a command, and a PIO Setup and a page are
-- received.
pub record AnswersKeep : Type 0 where
  pub register : (s : ℕ) (c : SlotCommand) (past : History) (k : Ledger) → InLife s c past k
      → InLife s c (Answered ∷ past) (answered k)
  pub shows : (s count ends : ℕ) (to_host : Bool) (c : SlotCommand) (past : History) (k : Ledger)
      → IsIdle k → InLife s c past k → InLife s c (PioSetUp count to_host ends ∷ past) (answered k)
  pub page : (s : ℕ) (c : SlotCommand) (bytes : List ℕ) (past : History) (k : Ledger) → IsIdle k
      → InLife s c past k → InLife s c (Carried bytes ∷ past) (sends_data k k.moving bytes)

-- The command ended: the ledger has its read, or its write, with exactly the bytes that are filled. It came
-- after the writes that had ended when it was issued.
pub data HasEnded (s : ℕ) (c : SlotCommand) (past : History) (k : Ledger) : Type 0 where
  ByRead : (at : ℕ) (r : ReadOut) → slice_get k.reads at ≡ Some r → IsReadOf c.command r
      → Stand (filled s past) r.bytes → c.since ≤ length r.before → HasEnded s c past k
  ByWrite : (at : ℕ) (w : Written) → slice_get k.writes at ≡ Some w → IsWriteOf s c.command w
      → Stand (filled s past) w.bytes → c.since ≤ at → HasEnded s c past k

-- A Set Device Bits FIS without ERR names the tag that ended first. For a slot that it names, the command
-- ended and was answered before, and its tag is free from then on. The commands of other slots are unchanged.
pub record NamesKeep : Type 0 where
  pub own : (s mask : ℕ) (c : SlotCommand) (past : History) (k : Ledger) → Names k.unanswered mask
      → has_bit mask s ≡ true → InLife s c past k → HasEnded s c past k
  pub answered : (s mask : ℕ) (c : SlotCommand) (past : History) (k : Ledger) → Names k.unanswered mask
      → has_bit mask s ≡ true → InLife s c past k → is_at s (waiting_in past) ≡ false
  pub free : (s mask error : ℕ) (c : SlotCommand) (past : History) (k : Ledger)
      → Names k.unanswered mask → has_bit mask s ≡ true → InLife s c past k
      → IsFree (answers k error false) s
  pub other : (s mask error : ℕ) (c : SlotCommand) (past : History) (k : Ledger)
      → Names k.unanswered mask → has_bit mask s ≡ false → InLife s c past k
      → InLife s c (Named mask ∷ past) (answers k error false)
