-- What the run of a command tells by itself, which Data it may send, and when its end is earned. The ledger knows no stage
-- and no part: it looks at what was asked, answered, sent and received, and at nothing else.
use Rattle.std.specs.Prelude.{ℕ, ◌≡◌, ◌+◌, ◌*◌, ◌==◌, Bool, true, false, List, [], ◌∷◌, ◌++◌, length, if◌then◌else◌, ◌&&◌, Option, Some, None}
use Rattle.block_command.specs.{declared.command.{Command.Command, Turn.Turn}, Moments.{IsCommand, Moment, opening, turn_of, part_of, part_lba}}
use Rattle.block_command.specs.Moments.{part_count, gone, after_loaded, after_came, load_fault, store_fault, flush_fault, failure_fault, after_stored}
use Rattle.block_command.specs.{Moments.{after_flushed, after_failed, whole, is_verify}, declared.answer.AnswerError.AnswerError}
use Rattle.block_command.specs.declared.answer.AnswerError.TheVariants.{OtherKind}
use Rattle.block_command.specs.declared.command.Turn.TheVariants as turn

-- what can be done with a command
pub data Input : Type 0 where
  -- what was next was done
  Goes : Input
  -- the caller gives these bytes for the sectors
  Loads : List ℕ → Input
  -- a Data FIS with these bytes comes
  Comes : List ℕ → Input
  -- the caller says that it stored, that it flushed, that it could not
  Stores : Input
  Flushes : Input
  Fails : Input

abbrev pub after : Moment → Input → Moment
after m Goes = gone m m.stage
after m (Loads bytes) = after_loaded m m.stage bytes
after m (Comes part) = after_came m m.stage part
after m Stores = after_stored m m.stage
after m Flushes = after_flushed m m.stage
after m Fails = after_failed m m.stage

-- why an answer is refused
abbrev pub refusal : Moment → Input → Option AnswerError
refusal m (Loads bytes) = load_fault m m.stage bytes
refusal m Stores = store_fault m.stage
refusal m Flushes = flush_fault m.stage
refusal m Fails = failure_fault m.stage
refusal m _ = Some OtherKind

-- what a run shows
pub data Happening : Type 0 where
  -- nothing was next, or nothing that anybody sees
  Waited : Happening
  -- asked: so many sectors from this one on, the store of these bytes from this sector on, a flush
  AskedLoad : ℕ → ℕ → Happening
  AskedStore : ℕ → List ℕ → Happening
  AskedFlush : Happening
  -- answered
  Loaded : List ℕ → Happening
  Stored : Happening
  Flushed : Happening
  Failed : Happening
  -- sent
  SentSetUp : Happening
  SentAnnounce : Happening
  SentData : List ℕ → Happening
  SentActivate : Happening
  SentEnd : Happening
  SentError : Happening
  -- received
  CameData : List ℕ → Happening

abbrev pub shown : Moment → Turn → Happening
shown m turn.Nothing = Waited
shown m turn.Start = Waited
shown m turn.Load = AskedLoad (part_lba m) (part_count m.command m.done)
shown m turn.SetUp = SentSetUp
shown m turn.Announce = SentAnnounce
shown m turn.Data = SentData (part_of m)
shown m turn.Activate = SentActivate
shown m turn.Store = AskedStore (part_lba m) m.bytes
shown m turn.Flush = AskedFlush
shown m turn.End = SentEnd
shown m turn.Fail = SentError

abbrev pub happening : Moment → Input → Happening
happening m Goes = shown m (turn_of m.stage)
happening m (Loads bytes) = Loaded bytes
happening m (Comes part) = CameData part
happening m Stores = Stored
happening m Flushes = Flushed
happening m Fails = Failed

-- the account of a run
unfoldable pub account : Moment → List Input → List Happening
account m [] = []
account m (i ∷ later) = happening m i ∷ account (after m i) later

-- ## The ledger of an account

pub record Ledger : Type 0 where
  -- the bytes that the caller gave for the sectors of the command, in order
  pub given : List ℕ
  -- a load of the sectors behind these is out, and asks for so many bytes
  pub wanting : Option ℕ
  -- the Data that went
  pub sent : List ℕ
  -- Data may come, and the Data that came
  pub active : Bool
  pub came : List ℕ
  -- the bytes that the caller stored at the sectors of the command, in order
  pub kept : List ℕ
  -- a store of these bytes is out, at the sectors behind those
  pub storing : Option (List ℕ)
  -- a flush was asked for after all bytes were stored; it was answered
  pub flushing : Bool
  pub flushed : Bool

abbrev pub blank : Ledger
blank = record {
  given = [];
  wanting = None;
  sent = [];
  active = false;
  came = [];
  kept = [];
  storing = None;
  flushing = false;
  flushed = false;
}

-- the sector is the one behind so many bytes of the command
abbrev pub is_behind : Command → ℕ → List ℕ → Bool
is_behind c at bytes = at * 512 == c.lba * 512 + length bytes

-- an answer counts where it has as many bytes as were asked for
abbrev pub given_to : Ledger → Option ℕ → List ℕ → Ledger
given_to l None bytes = l
given_to l (Some n) bytes = if length bytes == n then record l { given = l.given ++ bytes; wanting = None } else l

abbrev pub stored_in : Ledger → Option (List ℕ) → Ledger
stored_in l None = l
stored_in l (Some bytes) = record l { kept = l.kept ++ bytes; storing = None }

-- the first Data FIS after a DMA Activate or PIO Setup FIS counts, and that after the DMA Setup FIS of a write that activates
-- it
abbrev pub entered : Command → Ledger → Happening → Ledger
entered c l (AskedLoad at n) = record l { wanting = if is_behind c at l.given then Some (n * 512) else None }
entered c l (Loaded bytes) = given_to l l.wanting bytes
entered c l (SentData part) = record l { sent = l.sent ++ part }
entered c l SentSetUp = (if c.write && c.auto_activate then record l { active = true } else l)
entered c l SentActivate = record l { active = true }
entered c l (CameData part) = (if l.active then record l { came = l.came ++ part; active = false } else l)
entered c l (AskedStore at bytes) = record l { storing = if is_behind c at l.kept then Some bytes else None }
entered c l Stored = stored_in l l.storing
entered c l AskedFlush = record l { flushing = length l.kept == whole c }
entered c l Flushed = (if l.flushing then record l { flushed = true } else l)
entered c l _ = l

-- Data go only as the caller gave them, from the first byte on
pub record IsLoaded (l : Ledger) (part : List ℕ) : Type 0 where
  pub rest : List ℕ
  pub is : l.given ≡ (l.sent ++ part) ++ rest

-- a read: the Data that went are the bytes that the caller gave for its sectors, all of them, in order; a verify sends none
pub record ReadIsEarned (c : Command) (l : Ledger) : Type 0 where
  pub bytes : is_verify c.protocol ≡ false → l.sent ≡ l.given
  pub all : length l.given ≡ whole c

-- a write: the caller stored what came, all of it, in order, at its sectors, and answered a flush asked for after that
pub record WriteIsEarned (c : Command) (l : Ledger) : Type 0 where
  pub bytes : l.kept ≡ l.came
  pub all : length l.came ≡ whole c
  pub flushed : c.lasting ≡ true → l.flushed ≡ true

abbrev pub IsEarned : Command → Ledger → Bool → Type 0
IsEarned c l false = ReadIsEarned c l
IsEarned c l true = WriteIsEarned c l

-- what must hold where this happens
abbrev pub HappensRightly : Command → Ledger → Happening → Type 0
HappensRightly c l SentEnd = IsEarned c l c.write
HappensRightly c l (SentData part) = IsLoaded l part
HappensRightly c l _ = Unit {0}

-- each Data FIS and each end of the account is earned by what stands before it
abbrev pub Earned : Command → Ledger → List Happening → Type 0
Earned c l [] = Unit {0}
Earned c l (h ∷ later) = HappensRightly c l h × Earned c (entered c l h) later

abbrev pub EndsAreEarned : Type 0
EndsAreEarned = (c : Command) (inputs : List Input) → IsCommand c → Earned c blank (account (opening c) inputs)
