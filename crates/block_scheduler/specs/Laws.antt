-- Runs of a scheduler: each call does to the queue what some calls of the queue do, so what holds of each run of a queue holds of
-- what a scheduler shows.
use Rattle.std.specs.Prelude.{ℕ, zero, suc, ◌≡◌, ◌<◌, ◌≤◌, ◌&&◌, nat_lt, true, List, [], ◌∷◌, ◌++◌, map, Some, None, if◌then◌else◌}
use Rattle.block_command.specs.{declared.command.Command.Command, Moments.{IsCommand, is_queued}, Laws.{Input, Comes}}
use Rattle.block_disk.specs.{Table.{is_under_way, with_input}, Requests.{AreSeenRightly, Rises, Seen, asks, is_answer, no_books, none_queued}}
use Rattle.block_disk.specs.Requests.{numbers_given, seen_by, with_asked, with_drawn, with_table}
use Rattle.block_queue.specs.Line.{Line, command_at, line_answered, line_gone, line_reset, line_taken, may_send, may_start, none_in_line, with_queue}
use Rattle.block_queue.specs.Deeds.{AllAreApart, AreNamed, Deed, Goes, act_of, after_deed, seen_of}
use Rattle.block_queue.specs.Deeds as deed
use Rattle.block_scheduler.specs.{Sets.ends_at, Schedule.{IsNextStart, Schedule, ends_all, ends_sent, line_sent, none_scheduled, with_line}}

-- the calls of a scheduler that change it; a refused answer changes nothing and is none of them
pub data Move : Type 0 where
  Takes : Command → Move
  Starts : ℕ → Move
  Asks : ℕ → Move
  Sends : ℕ → Move
  SendsEnds : Move
  Hears : ℕ → List ℕ → Move
  Answers : (place number : ℕ) → Input → Move
  Draws : Move
  Forgives : Move
  Resets : Move

-- what the conditions of the calls say; the queued commands have the tags' places
abbrev pub IsMove : Schedule → Move → Type 0
IsMove s (Takes c) = (c.place < 33) × IsCommand c × (is_queued c.protocol ≡ nat_lt c.place 32)
IsMove s (Starts place) = (place < 33) × (may_start s.line place ≡ true)
IsMove s (Asks place) = (place < 33) × (asks s.line.queue place ≡ true)
IsMove s (Sends place) = (place < 33) × (may_send s.line place ≡ true)
IsMove s SendsEnds = Unit {0}
IsMove s (Hears place part) = place < 33
IsMove s (Answers place number i) = (place < 33) × (is_answer i ≡ true)
IsMove s Draws = Unit {0}
IsMove s Forgives = Unit {0}
IsMove s Resets = Unit {0}

-- what the calls leave
abbrev pub after_move : Schedule → Move → Schedule
after_move s (Takes c) = with_line s (line_taken s.line c)
after_move s (Starts place) = with_line s (line_gone s.line place)
after_move s (Asks place) = with_line s (with_queue s.line (with_asked s.line.queue place))
after_move s (Sends place) = line_sent s place
after_move s SendsEnds = with_line s (ends_sent s.line 32)
after_move s (Hears place part) = with_line s (with_queue s.line (with_table s.line.queue (with_input s.line.queue.table place (Comes part))))
after_move s (Answers place number i) = with_line s (line_answered s.line place number i)
after_move s Draws = with_line s (with_queue s.line (with_drawn s.line.queue))
after_move s Forgives = record { line = s.line; limit = s.limit; fault = None }
after_move s Resets = record { line = line_reset s.line; limit = s.limit; fault = None }

abbrev pub AreMoves : Schedule → List Move → Type 0
AreMoves s [] = Unit {0}
AreMoves s (m ∷ later) = IsMove s m × AreMoves (after_move s m) later

unfoldable pub after_moves : Schedule → List Move → Schedule
after_moves s [] = s
after_moves s (m ∷ later) = after_moves (after_move s m) later

-- ## What they do to the queue

abbrev pub end_deeds : Line → ℕ → List Deed
end_deeds l tag = if ends_at l tag && may_send l tag then deed.Sends tag ∷ [] else []

-- the ends of the tags below n
unfoldable pub ends_deeds : Line → ℕ → List Deed
ends_deeds l zero = []
ends_deeds l (suc n) = ends_deeds l n ++ end_deeds (ends_sent l n) n

abbrev pub deeds_of : Schedule → Move → List Deed
deeds_of s (Takes c) = deed.Takes c ∷ []
deeds_of s (Starts place) = deed.Starts place ∷ []
deeds_of s (Asks place) = deed.Asks place ∷ []
deeds_of s (Sends place) = if ends_all s.line place then deed.Sends place ∷ deed.Resets ∷ [] else deed.Sends place ∷ []
deeds_of s SendsEnds = ends_deeds s.line 32
deeds_of s (Hears place part) = deed.Hears place part ∷ []
deeds_of s (Answers place number i) = deed.Answers place number i ∷ []
deeds_of s Draws = deed.Draws ∷ []
deeds_of s Forgives = []
deeds_of s Resets = deed.Resets ∷ []

unfoldable pub all_deeds : Schedule → List Move → List Deed
all_deeds s [] = []
all_deeds s (m ∷ later) = deeds_of s m ++ all_deeds (after_move s m) later

-- what a run from the start shows: FISes, Data, requests and answers
abbrev pub deeds_in : ℕ → List Move → List Deed
deeds_in limit moves = all_deeds (none_scheduled limit) moves

abbrev pub seen_in : ℕ → List Move → List Seen
seen_in limit moves = seen_of none_in_line (deeds_in limit moves)

-- ## The laws

abbrev pub RequestsAreApart : Type 0
RequestsAreApart = (limit : ℕ) (moves : List Move) → AreMoves (none_scheduled limit) moves → AllAreApart [] (seen_in limit moves)

abbrev pub EndsAreEarned : Type 0
EndsAreEarned = (limit : ℕ) (moves : List Move) → AreMoves (none_scheduled limit) moves → AreSeenRightly no_books (seen_in limit moves)

-- Data of queued commands come for the command that has the link
abbrev pub IsHeard : Schedule → Move → Type 0
IsHeard s (Hears place part) = place < 32 → s.line.queue.table.wire ≡ Some place
IsHeard s m = Unit {0}

abbrev pub AreHeard : Schedule → List Move → Type 0
AreHeard s [] = Unit {0}
AreHeard s (m ∷ later) = IsHeard s m × AreHeard (after_move s m) later

abbrev pub DataAreNamed : Type 0
DataAreNamed = (limit : ℕ) (moves : List Move) → AreMoves (none_scheduled limit) moves → AreHeard (none_scheduled limit) moves
    → AreNamed None (seen_in limit moves)

abbrev pub NumbersAreFresh : Type 0
NumbersAreFresh = (limit : ℕ) (moves : List Move) → (seen_in limit moves ≡ seen_by none_queued (map act_of (deeds_in limit moves)))
    × Rises 0 (numbers_given none_queued (map act_of (deeds_in limit moves)))

-- While a command is under way, one starts next, or a FIS may be sent, or a request is to be asked, or the caller or the host
-- owes something: commands that wait for room never wait for each other in a circle.
abbrev pub SomethingMoves : Type 0
SomethingMoves = (limit : ℕ) (moves : List Move) (p : ℕ) → AreMoves (none_scheduled limit) moves → 1048576 ≤ limit → p < 33
    → is_under_way (command_at (after_moves (none_scheduled limit) moves).line p) ≡ true
    → IsNextStart (after_moves (none_scheduled limit) moves) None → Goes (after_moves (none_scheduled limit) moves).line
