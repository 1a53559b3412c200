-- What two views say of one queued command: the ledger of a disk's FISes, as the host's end of the link tells
-- it, and the history of the device's events at the host port. They say where the command stands, and that
-- each filled byte is the byte that the ledger has there (Serial ATA 3.x, 13.6, native command queuing; AHCI
-- 1.3.1, 5.3 and 9.3). No FIS is in transit between the two.
use Rattle.std.specs.Prelude.{ℕ, ◌≡◌, ◌+◌, ◌*◌, ◌==◌, ◌≤◌, ◌⊎◌, Bool, true, false, List, ◌∷◌, ◌++◌, length, slice_get, find, Option, Some, None}
use Rattle.std.specs.List.{list_any}
use Rattle.disk_model.specs.{declared.request.Command.Command, Chunks.put, Ends.{IsFree, MovesOther, has}, Laws.bytes_named}
use Rattle.disk_model.specs.{declared.request.Request.TheVariants.Queue, Ledger.{Ledger, Moving, ReadOut, Written, asks, starts_moving}}
use Rattle.hba_laws.specs.History.{Carried, History, Issued, Sent, SetUp, Setup, Transfer, carried, filled, is_at, is_set_up, last_setup, none_filled}
use Rattle.hba_laws.specs.History.{waiting_in}

-- each filled byte is the one at its place in these bytes
abbrev pub Stand : (ℕ → Option ℕ) → List ℕ → Type 0
Stand filled bytes = (i b : ℕ) → filled i ≡ Some b → slice_get bytes i ≡ Some b

-- if data moves, it is not that of the slot
abbrev pub Unset : Option Moving → Bool → Type 0
Unset None set_up = Unit {0}
Unset (Some v) set_up = set_up ≡ false

-- the tag is once among these
pub record StandsOnce (s : ℕ) (tags : List ℕ) : Type 0 where
  pub ahead : List ℕ
  pub behind : List ℕ
  pub is : tags ≡ ahead ++ s ∷ behind
  pub not_ahead : has s ahead ≡ false
  pub not_behind : has s behind ≡ false

-- a tag that ended and was not answered, where the last DMA Setup was its own or not
pub record IsEndedBy (s : ℕ) (set_up : Bool) (k : Ledger) : Type 0 where
  pub unanswered : StandsOnce s k.unanswered
  pub outstanding : list_any (λ q. q.tag == s) k.outstanding ≡ false
  pub moving : MovesOther s k.moving
  pub unset : Unset k.moving set_up

abbrev pub IsEnded : ℕ → History → Ledger → Type 0
IsEnded s past k = IsEndedBy s (is_set_up s past) k

-- a read that ended is that of the command, and has as many bytes as the command asks for
pub record IsReadOf (c : Command) (r : ReadOut) : Type 0 where
  pub command : r.command ≡ c
  pub reads : c.write ≡ false
  pub long : length r.bytes ≡ 512 * c.count

-- a write that ended is that of the command, which has the tag
pub record IsWriteOf (s : ℕ) (c : Command) (w : Written) : Type 0 where
  pub tag : w.tag ≡ s
  pub at : w.at ≡ 512 * c.lba
  pub writes : c.write ≡ true
  pub long : length w.bytes ≡ 512 * c.count

-- the last setup of the history is that of the data that moves
pub record IsLastOf (v : Moving) (past : History) : Type 0 where
  pub setup : Setup
  pub last : last_setup past ≡ Some setup
  pub offset : setup.offset ≡ v.offset
  pub count : setup.count ≡ v.count

-- The data of slot s moves: its command was answered, its DMA Setup was the last one, and nothing was
-- transferred since, or all of it was.
pub record IsMovingAt (s : ℕ) (v : Moving) (past : History) : Type 0 where
  pub long : length v.bytes ≡ 512 * v.command.count
  pub quiet : is_at s (waiting_in past) ≡ false
  pub set_up : is_set_up s past ≡ true
  pub inside : v.offset + v.count ≤ 512 * v.command.count
  pub names : IsLastOf v past
  pub fresh : (carried past ≡ 0) ⊎ (v.moved ≡ bytes_named v.setups)
  pub asked : v.active ≡ true → v.moved + v.count ≡ bytes_named v.setups
  pub stands : Stand (filled s past) v.bytes

-- the queued command of a slot, and how many writes, by the FISes, had ended when it was issued
pub record SlotCommand : Type 0 where
  pub command : Command
  pub since : ℕ

-- the data of the command began to move after those writes
pub record IsMovingSince (since : ℕ) (v : Moving) (k : Ledger) : Type 0 where
  pub before : since ≤ length v.before
  pub now : since ≤ length k.writes

-- A queued command c that is issued in slot s, by what the FISes tell: it was not sent, it is outstanding,
-- its data moves, or it ended. A read that ended had before it all writes that had ended when it was issued.
-- A write that ended was entered after them.
pub data InLife (s : ℕ) (c : SlotCommand) (past : History) (k : Ledger) : Type 0 where
  Unsent : IsFree k s → is_at s (waiting_in past) ≡ false → is_set_up s past ≡ false
      → filled s past ≡ none_filled → c.since ≤ length k.writes → InLife s c past k
  Open : find (λ q. q.tag == s) k.outstanding ≡ Some c.command → has s k.unanswered ≡ false
      → MovesOther s k.moving
      → is_set_up s past ≡ false → filled s past ≡ none_filled → c.since ≤ length k.writes
      → InLife s c past k
  Moves : (v : Moving) → k.moving ≡ Some v → v.command ≡ c.command → has s k.unanswered ≡ false
      → IsMovingAt s v past → IsMovingSince c.since v k
      → InLife s c past k
  ReadEnded : (at : ℕ) (r : ReadOut) → IsEnded s past k → is_at s (waiting_in past) ≡ false
      → slice_get k.reads at ≡ Some r → IsReadOf c.command r
      → Stand (filled s past) r.bytes → c.since ≤ length r.before → InLife s c past k
  WriteEnded : (at : ℕ) (w : Written) → IsEnded s past k → is_at s (waiting_in past) ≡ false
      → slice_get k.writes at ≡ Some w → IsWriteOf s c.command w
      → Stand (filled s past) w.bytes → c.since ≤ at → InLife s c past k

-- ---- the laws, one for each kind of event

-- a command is issued in the slot, whose tag is free; or issued in another slot
pub record IssuesKeep : Type 0 where
  pub own : (s : ℕ) (c : SlotCommand) (t : Transfer) (past : History) (k : Ledger) → IsFree k s
      → c.since ≤ length k.writes → InLife s c (Issued s t ∷ past) k
  pub other : (s slot : ℕ) (c : SlotCommand) (t : Transfer) (past : History) (k : Ledger)
      → (slot == s) ≡ false
      → InLife s c past k → InLife s c (Issued slot t ∷ past) k

-- the command of the slot is transmitted while its tag is free, or that of another slot is
pub record CommandsKeep : Type 0 where
  pub own : (s : ℕ) (c : SlotCommand) (past : History) (k : Ledger) → c.command.tag ≡ s
      → k.failed ≡ false → IsFree k s
      → InLife s c past k → InLife s c (Sent s ∷ past) (asks k (Queue c.command) k.failed)
  pub other : (s : ℕ) (c : SlotCommand) (other : Command) (past : History) (k : Ledger)
      → (other.tag == s) ≡ false → k.failed ≡ false
      → IsFree k other.tag → InLife s c past k
      → InLife s c (Sent other.tag ∷ past) (asks k (Queue other) k.failed)

-- the first DMA Setup of an outstanding command that was answered: if the command is the slot's, its data
-- moves
abbrev pub SetupsStart : Type 0
SetupsStart = (s tag offset count : ℕ) (to_host : Bool) (c : SlotCommand) (q : Command)
    (past : History) (k : Ledger) → k.moving ≡ None
    → find (λ p. p.tag == tag) k.outstanding ≡ Some q → is_at tag (waiting_in past) ≡ false
    → offset + count ≤ 512 * q.count → InLife s c past k
    → InLife s c (SetUp tag offset count to_host ∷ past) (starts_moving k offset count (Some q))

-- Data of the command whose data moves, no more than its DMA Setup named: if the command is the slot's, each
-- byte that it fills is the one that is put there
abbrev pub DataFills : Type 0
DataFills = (s : ℕ) (v : Moving) (bytes : List ℕ) (past : History) → IsMovingAt s v past
    → length bytes ≡ v.count
    → v.moved + length bytes ≡ bytes_named v.setups
    → Stand (filled s (Carried bytes ∷ past)) (put v.bytes v.offset bytes)
