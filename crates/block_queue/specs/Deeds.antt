-- Runs of a line, and the laws over them. A run shows what one of its requests by number shows (`block_disk`).
use Rattle.std.specs.Prelude.{ℕ, ◌≡◌, ◌+◌, ◌*◌, ◌<◌, ◌≤◌, ◌==◌, ◌&&◌, nat_lt, Bool, true, false, not, List, [], ◌∷◌, map, length, Option, Some, None}
use Rattle.std.specs.{Prelude.is_none, List.filter}
use Rattle.block_command.specs.{declared.command.{Command.Command, Stage.Stage}, Moments.{IsCommand, Moment, is_queued}, Laws.{Input, Comes}}
use Rattle.block_command.specs.Laws.{Happening, AskedLoad, AskedStore}
use Rattle.block_command.specs.declared.command.Stage.TheVariants as stage
use Rattle.block_disk.specs.{Table.{is_under_way, with_input}, Laws.{At, Reset, IsWired, wire_after}, Requests.{Act, AreSeenRightly, Rises, Seen}}
use Rattle.block_disk.specs.Requests.{OnLink, Asked, Answered, asks, is_answer, no_books, none_queued, numbers_given, seen, seen_by, with_asked}
use Rattle.block_disk.specs.Requests.{with_drawn, with_table}
use Rattle.block_disk.specs.Requests as requests
use Rattle.block_queue.specs.Line.{Line, IsLine, command_at, is_before, line_answered, line_gone, line_reset, line_taken, may_send, may_start}
use Rattle.block_queue.specs.Line.{none_in_line, orphan, with_queue}

-- what can be done with a line
pub data Deed : Type 0 where
  Takes : Command → Deed
  Starts : ℕ → Deed
  -- the FIS that is next at a place was sent
  Sends : ℕ → Deed
  -- the request that is next at a place was asked
  Asks : ℕ → Deed
  -- a Data FIS with these bytes came for a place
  Hears : ℕ → List ℕ → Deed
  Answers : (place number : ℕ) → Input → Deed
  Resets : Deed
  -- a number is given to a request of another crate
  Draws : Deed

-- what the conditions of the calls say; the queued commands have the tags' places
abbrev pub IsDeed : Line → Deed → Type 0
IsDeed l (Takes c) = (c.place < 33) × IsCommand c × (is_queued c.protocol ≡ nat_lt c.place 32)
IsDeed l (Starts place) = (place < 33) × (may_start l place ≡ true)
IsDeed l (Sends place) = (place < 33) × (may_send l place ≡ true)
IsDeed l (Asks place) = (place < 33) × (asks l.queue place ≡ true)
IsDeed l (Hears place part) = place < 33
IsDeed l (Answers place number i) = (place < 33) × (is_answer i ≡ true)
IsDeed l Resets = Unit {0}
IsDeed l Draws = Unit {0}

abbrev pub after_deed : Line → Deed → Line
after_deed l (Takes c) = line_taken l c
after_deed l (Starts place) = line_gone l place
after_deed l (Sends place) = line_gone l place
after_deed l (Asks place) = with_queue l (with_asked l.queue place)
after_deed l (Hears place part) = with_queue l (with_table l.queue (with_input l.queue.table place (Comes part)))
after_deed l (Answers place number i) = line_answered l place number i
after_deed l Resets = line_reset l
after_deed l Draws = with_queue l (with_drawn l.queue)

abbrev pub AreDeeds : Line → List Deed → Type 0
AreDeeds l [] = Unit {0}
AreDeeds l (d ∷ later) = IsDeed l d × AreDeeds (after_deed l d) later

-- the same of the requests by number
abbrev pub act_of : Deed → Act
act_of (Takes c) = requests.Takes c
act_of (Starts place) = requests.Sends place
act_of (Sends place) = requests.Sends place
act_of (Asks place) = requests.Asks place
act_of (Hears place part) = requests.Hears place part
act_of (Answers place number i) = requests.Answers place number i
act_of Resets = requests.Resets
act_of Draws = requests.Draws

-- what a run shows
unfoldable pub seen_of : Line → List Deed → List Seen
seen_of l [] = []
seen_of l (d ∷ later) = seen l.queue (act_of d) ∷ seen_of (after_deed l d) later

-- ## What the requests by number keep

abbrev pub EndsAreEarned : Type 0
EndsAreEarned = (deeds : List Deed) → AreDeeds none_in_line deeds → AreSeenRightly no_books (seen_of none_in_line deeds)

abbrev pub NumbersAreFresh : Type 0
NumbersAreFresh = (deeds : List Deed) → (seen_of none_in_line deeds ≡ seen_by none_queued (map act_of deeds))
    × Rises 0 (numbers_given none_queued (map act_of deeds))

-- Data of queued commands come for the command that has the link
abbrev pub IsHeard : Line → Deed → Type 0
IsHeard l (Hears place part) = place < 32 → l.queue.table.wire ≡ Some place
IsHeard l d = Unit {0}

abbrev pub AreHeard : Line → List Deed → Type 0
AreHeard l [] = Unit {0}
AreHeard l (d ∷ later) = IsHeard l d × AreHeard (after_deed l d) later

abbrev pub named_after : Option ℕ → Seen → Option ℕ
named_after w (OnLink s) = wire_after w s
named_after w _ = w

abbrev pub IsNamed : Option ℕ → Seen → Type 0
IsNamed w (OnLink s) = IsWired w s
IsNamed w _ = Unit {0}

abbrev pub AreNamed : Option ℕ → List Seen → Type 0
AreNamed w [] = Unit {0}
AreNamed w (s ∷ later) = IsNamed w s × AreNamed (named_after w s) later

abbrev pub DataAreNamed : Type 0
DataAreNamed = (deeds : List Deed) → AreDeeds none_in_line deeds → AreHeard none_in_line deeds → AreNamed None (seen_of none_in_line deeds)

-- ## Requests are apart

-- a request that was asked
pub record Out : Type 0 where
  pub place : ℕ
  pub number : ℕ
  pub what : Happening

-- a request has this sector, of 512 bytes
abbrev pub Has : Happening → ℕ → Type 0
Has (AskedLoad lba n) s = (lba ≤ s) × (s < lba + n)
Has (AskedStore lba bytes) s = (lba ≤ s) × (s * 512 < lba * 512 + length bytes)
Has _ s = ⊥

abbrev pub is_store : Happening → Bool
is_store (AskedStore lba bytes) = true
is_store _ = false

-- two requests have no sector in common, unless both are loads
abbrev pub AreApart : Happening → Happening → Type 0
AreApart a b = (s : ℕ) → Has a s → Has b s → (is_store a ≡ false) × (is_store b ≡ false)

-- it holds of each request
abbrev pub Each : (Out → Type 0) → List Out → Type 0
Each holds [] = Unit {0}
Each holds (r ∷ later) = holds r × Each holds later

-- an answer is to the request of its place and number
abbrev pub is_other : ℕ → ℕ → Out → Bool
is_other place number r = not (r.place == place && r.number == number)

abbrev pub is_stored : Out → Bool
is_stored r = is_store r.what

-- The requests that are out: asked, and not answered. A reset ends the others, since their answers count for nothing, and
-- not the stores, since the caller may still do them.
abbrev pub out_after : List Out → Seen → List Out
out_after out (Asked place number (At where' what)) = record { place = place; number = number; what = what } ∷ out
out_after out (Answered place number what) = filter (is_other place number) out
out_after out (OnLink Reset) = filter is_stored out
out_after out _ = out

-- what is asked is apart from all that is out
abbrev pub IsApart : List Out → Seen → Type 0
IsApart out (Asked place number (At where' what)) = Each (λ r. AreApart what r.what) out
IsApart out _ = Unit {0}

abbrev pub AllAreApart : List Out → List Seen → Type 0
AllAreApart out [] = Unit {0}
AllAreApart out (s ∷ later) = IsApart out s × AllAreApart (out_after out s) later

abbrev pub RequestsAreApart : Type 0
RequestsAreApart = (deeds : List Deed) → AreDeeds none_in_line deeds → AllAreApart [] (seen_of none_in_line deeds)

-- ## Something goes

-- the caller is to answer a request of the place, or a store that a reset dropped
abbrev pub waits_for_caller : Stage → Bool
waits_for_caller stage.Loading = true
waits_for_caller stage.Storing = true
waits_for_caller stage.Flushing = true
waits_for_caller _ = false

-- the host is to send Data
abbrev pub waits_for_host : Stage → Bool
waits_for_host stage.Receiving = true
waits_for_host _ = false

-- the disk has something to do at this place, or somebody else has
pub data MovesAt (l : Line) (p : ℕ) : Type 0 where
  MayStart : may_start l p ≡ true → MovesAt l p
  MaySend : may_send l p ≡ true → MovesAt l p
  MayAsk : asks l.queue p ≡ true → MovesAt l p
  CallerOwes : (m : Moment) → command_at l p ≡ Some m → waits_for_caller m.stage ≡ true → MovesAt l p
  HostOwes : (m : Moment) → command_at l p ≡ Some m → waits_for_host m.stage ≡ true → MovesAt l p
  StoreOwed : is_none (orphan l p) ≡ false → MovesAt l p

pub record Moves (l : Line) : Type 0 where
  pub place : ℕ
  pub below : place < 33
  pub moves : MovesAt l place

-- something moves, and it is no start
pub record Goes (l : Line) : Type 0 where
  pub place : ℕ
  pub below : place < 33
  pub moves : MovesAt l place
  pub started : may_start l place ≡ false

-- while a command is under way, the disk may do something, or waits for an answer of the caller or for Data of the host
abbrev pub SomethingMoves : Type 0
SomethingMoves = (l : Line) (p : ℕ) → IsLine l → p < 33 → is_under_way (command_at l p) ≡ true → Moves l

-- ## Places are in the order in which their commands were taken

-- the new command is behind all others, whose order is as it was
pub record IsLast (old new : Line) (p : ℕ) : Type 0 where
  pub last : (q : ℕ) → q < 33 → (q ≡ p → ⊥) → is_before new.ranks q p ≡ true
  pub others : (q t : ℕ) → q < 33 → t < 33 → (q ≡ p → ⊥) → (t ≡ p → ⊥)
      → is_before new.ranks q t ≡ is_before old.ranks q t

abbrev pub TakenIsLast : Type 0
TakenIsLast = (l : Line) (c : Command) → IsLine l → c.place < 33 → is_under_way (command_at l c.place) ≡ false
    → IsLast l (line_taken l c) c.place
