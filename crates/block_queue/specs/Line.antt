-- Commands that share a sector are kept apart, if one of them writes: who was taken first goes first, and nobody passes a store
-- that a reset dropped while it was out.
use Rattle.std.specs.Prelude.{ℕ, zero, suc, ◌≡◌, ◌<◌, ◌+◌, ◌-◌, ◌==◌, nat_lt, Bool, true, false, not, ◌&&◌, ◌||◌, if◌then◌else◌, List, length, map}
use Rattle.std.specs.{Prelude.{replicate, slice_index_or, slice_set, Option, Some, None, is_none}, List.range_with_len, Int.bit_at}
use Rattle.block_command.specs.{declared.command.{Command.Command, Turn.Turn}, Moments.{Moment, is_ended, is_storing, runs, turn_of}, Laws.Input}
use Rattle.block_command.specs.{Laws.{Goes, Stores, Fails}, declared.answer.AnswerError.{AnswerError, TheVariants.{NotOut, OtherKind}}}
use Rattle.block_command.specs.declared.command.Turn.TheVariants as turn
use Rattle.block_disk.specs.{Table.{Table, at, has_wire, is_under_way, may_go, refusal_at, with_input, with_taken}, Requests.{Queue, is_out}}
use Rattle.block_disk.specs.Requests.{none_queued, number_at, queue_reset, sends_at, with_answer, with_table}
use Rattle.block_queue.specs.declared.queue.Orphan.{Orphan}

pub record Line : Type 0 where
  pub queue : Queue
  -- of each place, how many places took their last command before it did
  pub ranks : List ℕ
  -- of each place, the store that a reset dropped while it was out, and that is not answered
  pub orphans : List (Option Orphan)

-- some number below n passes the test
unfoldable pub any_below : (ℕ → Bool) → ℕ → Bool
any_below test zero = false
any_below test (suc n) = test n || any_below test n

-- the numbers of the places; each is written as it stands
unfoldable pub first_ranks : ℕ → List ℕ
first_ranks n = range_with_len 0 n

abbrev pub or_this : Option ℕ → Option ℕ → Option ℕ
or_this None other = other
or_this found other = found

-- the first number below n that passes the test
unfoldable pub first_below : (ℕ → Bool) → ℕ → Option ℕ
first_below test zero = None
first_below test (suc n) = or_this (first_below test n) (if test n then Some n else None)

abbrev pub none_in_line : Line
none_in_line = record { queue = none_queued; ranks = first_ranks 33; orphans = replicate 33 None }

abbrev pub rank : Line → ℕ → ℕ
rank l place = slice_index_or l.ranks place 0

abbrev pub orphan : Line → ℕ → Option Orphan
orphan l place = slice_index_or l.orphans place None

abbrev pub command_at : Line → ℕ → Option Moment
command_at l place = at l.queue.table place

-- ## Who waits for whom

-- so many sectors from one on, and so many from another on, have one in common
abbrev pub share : (lba count other many : ℕ) → Bool
share lba count other many = nat_lt lba (other + many) && nat_lt other (lba + count)

-- two commands have a sector in common, and one of them writes
abbrev pub conflict : Command → Command → Bool
conflict c d = (c.write || d.write) && share c.lba c.count d.lba d.count

-- the command of a place is under way, and is in the way of this one
abbrev pub is_in_way : Command → Option Moment → Bool
is_in_way c None = false
is_in_way c (Some m) = not (is_ended m.stage) && conflict c m.command

-- a dropped store has a sector of this command
abbrev pub bars : Command → Option Orphan → Bool
bars c None = false
bars c (Some o) = share c.lba c.count o.lba o.count

-- the last command of one place was taken before that of another
abbrev pub is_before : List ℕ → ℕ → ℕ → Bool
is_before ranks first then' = nat_lt (slice_index_or ranks first 0) (slice_index_or ranks then' 0)

-- the command of a place waits for what stands at another
abbrev pub waits_for : Line → Command → ℕ → ℕ → Bool
waits_for l c place other = (is_before l.ranks other place && is_in_way c (command_at l other)) || bars c (orphan l other)

abbrev pub starts : Turn → Bool
starts turn.Start = true
starts _ = false

abbrev pub may_start_at : Line → ℕ → Option Moment → Bool
may_start_at l place None = false
may_start_at l place (Some m) =
    starts (turn_of m.stage) && (is_none (orphan l place) && not (any_below (waits_for l m.command place) 33))

-- whether the command of a place may start
abbrev pub may_start : Line → ℕ → Bool
may_start l place = may_start_at l place (command_at l place)

-- whether the FIS that is next at a place may be sent now
abbrev pub may_send : Line → ℕ → Bool
may_send l place = sends_at (command_at l place) && may_go l.queue.table place

-- ## Who goes first

-- the place is in a set of places
abbrev pub has_bit : ℕ → ℕ → Bool
has_bit set place = bit_at set place == 1

-- of the places below n that pass the test, this one's command was taken first
pub record IsOldestBelow (n : ℕ) (ranks : List ℕ) (test : ℕ → Bool) (p : ℕ) : Type 0 where
  pub below : p < n
  pub passes : test p ≡ true
  pub first : (q : ℕ) → q < n → test q ≡ true → is_before ranks q p ≡ false

abbrev pub IsOldest : List ℕ → (ℕ → Bool) → ℕ → Type 0
IsOldest ranks test p = IsOldestBelow 33 ranks test p

-- no place passes the test
abbrev pub PassesNowhere : (ℕ → Bool) → Type 0
PassesNowhere test = (q : ℕ) → q < 33 → test q ≡ false

-- ## What each call leaves

abbrev pub with_queue : Line → Queue → Line
with_queue l q = record l { queue = q }

-- a place goes behind all others
abbrev pub moved_up : ℕ → ℕ → ℕ
moved_up last r = if nat_lt last r then r - 1 else r

abbrev pub moved_back : List ℕ → ℕ → List ℕ
moved_back ranks place = slice_set (map (moved_up (slice_index_or ranks place 0)) ranks) place 32

abbrev pub line_taken : Line → Command → Line
line_taken l c = if is_under_way (command_at l c.place) then l else record l {
  queue = with_table l.queue (with_taken l.queue.table c);
  ranks = moved_back l.ranks c.place;
}

-- what was next at a place was done, and it is no request
abbrev pub line_gone : Line → ℕ → Line
line_gone l place = with_queue l (with_table l.queue (with_input l.queue.table place Goes))

-- this is the answer that a dropped store waits for
abbrev pub is_of : ℕ → Option Orphan → Bool
is_of number None = false
is_of number (Some o) = o.number == number

-- an answer that a dropped store may get: it was done, or could not be
abbrev pub settles : Input → Bool
settles Stores = true
settles Fails = true
settles _ = false

-- why an answer that no dropped store may get is refused
abbrev pub refused_by : Option Orphan → ℕ → AnswerError
refused_by o number = if is_of number o then OtherKind else NotOut

abbrev pub orphan_refusal : Option Orphan → ℕ → Input → Option AnswerError
orphan_refusal o number i = if is_of number o then (if settles i then None else Some OtherKind) else Some NotOut

-- why an answer is refused
abbrev pub line_refusal : Line → (place number : ℕ) → Input → Option AnswerError
line_refusal l place number i = if is_out l.queue.out place number then refusal_at (command_at l place) i
    else orphan_refusal (orphan l place) number i

-- the place is that of the request of this number, or of the dropped store of it
abbrev pub awaits : Line → (number place : ℕ) → Bool
awaits l number place = is_out l.queue.out place number || is_of number (orphan l place)

abbrev pub orphans_answered : List (Option Orphan) → ℕ → ℕ → List (Option Orphan)
orphans_answered orphans place number =
    if is_of number (slice_index_or orphans place None) then slice_set orphans place None else orphans

abbrev pub line_forgets : Line → (place number : ℕ) → Line
line_forgets l place number = record l { orphans = orphans_answered l.orphans place number }

-- a command answers, or a dropped store
abbrev pub line_answered : Line → (place number : ℕ) → Input → Line
line_answered l place number i = record l {
  queue = with_answer l.queue place number i;
  orphans = orphans_answered l.orphans place number;
}

abbrev pub orphan_of : Command → ℕ → Orphan
orphan_of c number = record { lba = c.lba; count = c.count; number = number }

-- what a reset leaves of a place whose request has this number: a store that is out
abbrev pub left_of : Option Moment → Option ℕ → Option Orphan → Option Orphan
left_of None number was = was
left_of (Some m) None was = was
left_of (Some m) (Some number) was = if is_storing m.stage then Some (orphan_of m.command number) else was

abbrev pub left_at : Line → ℕ → Option Orphan
left_at l place = left_of (command_at l place) (number_at l.queue.out place) (orphan l place)

-- the first n of these
unfoldable pub left_below : Line → ℕ → List (Option Orphan)
left_below l n = map (left_at l) (range_with_len 0 n)

abbrev pub line_reset : Line → Line
line_reset l = record l { queue = queue_reset l.queue; orphans = left_below l 33 }

-- ## What every line keeps

-- this command may run at a place: none that was taken before it is in its way, and no dropped store is
pub record IsClear (l : Line) (p : ℕ) (c : Command) : Type 0 where
  pub first : (q : ℕ) → q < 33 → is_before l.ranks q p ≡ true → is_in_way c (command_at l q) ≡ false
  pub spared : (q : ℕ) → q < 33 → bars c (orphan l q) ≡ false
  pub vacant : orphan l p ≡ None

-- the link is of a command that holds it
abbrev pub IsWired : Table → Type 0
IsWired d = (p : ℕ) → d.wire ≡ Some p → (p < 33) × (has_wire (at d p) ≡ true)

pub record IsLine (l : Line) : Type 0 where
  pub places : length l.queue.table.places ≡ 33
  pub ranks : length l.ranks ≡ 33
  pub orphans : length l.orphans ≡ 33
  -- each place has a rank of its own
  pub below : (p : ℕ) → p < 33 → rank l p < 33
  pub own : (p q : ℕ) → p < 33 → q < 33 → rank l p ≡ rank l q → p ≡ q
  -- what runs has passed nobody
  pub clear : (p : ℕ) (m : Moment) → p < 33 → command_at l p ≡ Some m → runs m.stage ≡ true → IsClear l p m.command
  pub wired : IsWired l.queue.table
  -- what has not started has moved nothing
  pub fresh : (p : ℕ) (m : Moment) → p < 33 → command_at l p ≡ Some m → starts (turn_of m.stage) ≡ true → m.done ≡ 0
