-- Requests have numbers: what a command asks of its caller has a number that no other request has had, and an answer counts
-- only where it names the number of the request that is out at its place.
use Rattle.std.specs.Prelude.{ℕ, ◌+◌, ◌≡◌, ◌==◌, ◌<◌, ◌&&◌, nat_lt, Bool, true, false, List, [], ◌∷◌, ◌++◌, Option, Some, None, replicate}
use Rattle.std.specs.Prelude.{slice_index_or, slice_set, if◌then◌else◌}
use Rattle.block_command.specs.{declared.command.{Command.Command, Turn.Turn}, Moments.{IsCommand, Moment, is_queued, turn_of}, Laws.Input}
use Rattle.block_command.specs.Laws.{Happening, Goes, Comes, Loads, Stores, Flushes, Fails, Waited, Loaded, Stored, Flushed, Failed}
use Rattle.block_command.specs.declared.answer.AnswerError.{AnswerError, TheVariants.NotOut}
use Rattle.block_command.specs.declared.command.Turn.TheVariants as turn
use Rattle.block_disk.specs.{Table.{Table, at, is_under_way, may_go, none_under_way, refusal_at, with_input, with_taken}, Laws.{Page, Shown, Took}}
use Rattle.block_disk.specs.Laws.{Refused, At, Reset, IsAllowedBy, entered_in, shown_at}

pub record Queue : Type 0 where
  pub table : Table
  -- the number of the request that is out at each place, 0 where none is
  pub out : List ℕ
  -- the number of the next request: none has had it
  pub next : ℕ

abbrev pub none_queued : Queue
none_queued = record { table = none_under_way; out = replicate 33 0; next = 1 }

abbrev pub is_request : Turn → Bool
is_request turn.Load = true
is_request turn.Store = true
is_request turn.Flush = true
is_request _ = false

abbrev pub asks_at : Option Moment → Bool
asks_at None = false
asks_at (Some m) = is_request (turn_of m.stage)

-- whether what is next at a place is a request
abbrev pub asks : Queue → ℕ → Bool
asks q place = asks_at (at q.table place)

-- whether this is a FIS
abbrev pub is_fis : Turn → Bool
is_fis turn.SetUp = true
is_fis turn.Announce = true
is_fis turn.Data = true
is_fis turn.Activate = true
is_fis turn.End = true
is_fis turn.Fail = true
is_fis _ = false

abbrev pub sends_at : Option Moment → Bool
sends_at None = false
sends_at (Some m) = is_fis (turn_of m.stage)

-- whether the FIS that is next at a place may be sent now
abbrev pub may_send : Queue → ℕ → Bool
may_send q place = sends_at (at q.table place) && may_go q.table place

abbrev pub is_out : List ℕ → ℕ → ℕ → Bool
is_out out place number = nat_lt 0 number && (slice_index_or out place 0 == number)

abbrev pub number_of : ℕ → Option ℕ
number_of number = if nat_lt 0 number then Some number else None

-- the number of the request that is out at a place
abbrev pub number_at : List ℕ → ℕ → Option ℕ
number_at out place = number_of (slice_index_or out place 0)

abbrev pub with_table : Queue → Table → Queue
with_table q t = record q { table = t }

-- a request is asked
abbrev pub with_asked : Queue → ℕ → Queue
with_asked q place = record {
  table = with_input q.table place Goes;
  out = slice_set q.out place q.next;
  next = q.next + 1;
}

-- a number is given to a request of another crate
abbrev pub with_drawn : Queue → Queue
with_drawn q = record q { next = q.next + 1 }

-- why an answer is refused: its number is of no request that is out, or it is none to what was asked
abbrev pub answer_refusal : Queue → (place number : ℕ) → Input → Option AnswerError
answer_refusal q place number i = if is_out q.out place number then refusal_at (at q.table place) i else Some NotOut

-- the answer to the request that is out; any other is one to nothing
abbrev pub with_answer : Queue → ℕ → ℕ → Input → Queue
with_answer q place number i = if is_out q.out place number
    then record q { table = with_input q.table place i; out = slice_set q.out place 0 } else q

-- nothing is under way any more: an answer that is still to come is one to nothing
abbrev pub queue_reset : Queue → Queue
queue_reset q = record { table = none_under_way; out = replicate 33 0; next = q.next }

-- ## Runs. A call that refuses an answer changes nothing and is none of their acts; they have more answers than are taken.

pub data Act : Type 0 where
  Takes : Command → Act
  -- what is next at a place was done, and is no request
  Sends : ℕ → Act
  Asks : ℕ → Act
  Hears : ℕ → List ℕ → Act
  Answers : (place number : ℕ) → Input → Act
  Resets : Act
  -- a number is given to a request of another crate
  Draws : Act

abbrev pub is_answer : Input → Bool
is_answer Goes = false
is_answer (Comes part) = false
is_answer _ = true

abbrev pub IsAct : Act → Type 0
IsAct (Takes c) = (c.place < 33) × IsCommand c × (is_queued c.protocol ≡ nat_lt c.place 32)
IsAct (Sends place) = place < 33
IsAct (Asks place) = place < 33
IsAct (Hears place part) = place < 33
IsAct (Answers place number i) = (place < 33) × (is_answer i ≡ true)
IsAct Resets = Unit {0}
IsAct Draws = Unit {0}

abbrev pub AreActs : List Act → Type 0
AreActs [] = Unit {0}
AreActs (a ∷ later) = IsAct a × AreActs later

abbrev pub after_act : Queue → Act → Queue
after_act q (Takes c) = with_table q (with_taken q.table c)
after_act q (Sends place) = with_table q (with_input q.table place Goes)
after_act q (Asks place) = with_asked q place
after_act q (Hears place part) = with_table q (with_input q.table place (Comes part))
after_act q (Answers place number i) = with_answer q place number i
after_act q Resets = queue_reset q
after_act q Draws = with_drawn q

-- what an answer says
abbrev pub told : Input → Happening
told (Loads bytes) = Loaded bytes
told Stores = Stored
told Flushes = Flushed
told Fails = Failed
told _ = Waited

-- what the host and the caller see
pub data Seen : Type 0 where
  OnLink : Shown → Seen
  Asked : (place number : ℕ) → Shown → Seen
  Answered : (place number : ℕ) → Happening → Seen
  Drawn : ℕ → Seen

abbrev pub seen : Queue → Act → Seen
seen q (Takes c) = OnLink (if is_under_way (at q.table c.place) then Refused c else Took c)
seen q (Sends place) = OnLink (shown_at place (at q.table place) Goes)
seen q (Asks place) = Asked place q.next (shown_at place (at q.table place) Goes)
seen q (Hears place part) = OnLink (shown_at place (at q.table place) (Comes part))
seen q (Answers place number i) = Answered place number (told i)
seen q Resets = OnLink Reset
seen q Draws = Drawn q.next

unfoldable pub seen_by : Queue → List Act → List Seen
seen_by q [] = []
seen_by q (a ∷ later) = seen q a ∷ seen_by (after_act q a) later

-- ## The books: an answer is entered where its number is that of the last request of its place, and that was not answered

pub record Books : Type 0 where
  pub pages : List (Option Page)
  pub out : List ℕ

abbrev pub no_books : Books
no_books = record { pages = replicate 33 None; out = replicate 33 0 }

abbrev pub out_after : List ℕ → Shown → List ℕ
out_after out Reset = replicate 33 0
out_after out _ = out

abbrev pub entered_by : Books → Seen → Books
entered_by b (OnLink s) = record { pages = entered_in b.pages s; out = out_after b.out s }
entered_by b (Asked place number s) = record { pages = entered_in b.pages s; out = slice_set b.out place number }
entered_by b (Answered place number h) = if is_out b.out place number
    then record { pages = entered_in b.pages (At place h); out = slice_set b.out place 0 } else b
entered_by b (Drawn number) = b

abbrev pub IsSeenRightly : Books → Seen → Type 0
IsSeenRightly b (OnLink s) = IsAllowedBy b.pages s
IsSeenRightly b _ = Unit {0}

abbrev pub AreSeenRightly : Books → List Seen → Type 0
AreSeenRightly b [] = Unit {0}
AreSeenRightly b (s ∷ later) = IsSeenRightly b s × AreSeenRightly (entered_by b s) later

abbrev pub LateAnswersCountForNothing : Type 0
LateAnswersCountForNothing = (acts : List Act) → AreActs acts → AreSeenRightly no_books (seen_by none_queued acts)

-- ## Numbers are given once

abbrev pub numbers_of : Seen → List ℕ
numbers_of (Asked place number s) = number ∷ []
numbers_of (Drawn number) = number ∷ []
numbers_of _ = []

unfoldable pub numbers_given : Queue → List Act → List ℕ
numbers_given q [] = []
numbers_given q (a ∷ later) = numbers_of (seen q a) ++ numbers_given (after_act q a) later

-- each number is above all that were given before
abbrev pub Rises : ℕ → List ℕ → Type 0
Rises last [] = Unit {0}
Rises last (x ∷ xs) = (last < x) × Rises x xs

abbrev pub NumbersAreFresh : Type 0
NumbersAreFresh = (acts : List Act) → Rises 0 (numbers_given none_queued acts)
