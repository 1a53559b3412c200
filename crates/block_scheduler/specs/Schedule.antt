-- What goes next at a disk, and how many bytes its commands may hold.
use Rattle.std.specs.Prelude.{ℕ, zero, suc, ◌≡◌, ◌+◌, ◌*◌, ◌<◌, ◌≤◌, nat_le, nat_lt, Bool, true, false, not, ◌&&◌, ◌||◌, ◌⊎◌, Option, Some, None}
use Rattle.std.specs.{Prelude.{if◌then◌else◌}, Option.is_some}
use Rattle.block_command.specs.Moments.{Moment, runs}
use Rattle.block_disk.specs.Table.{is_under_way}
use Rattle.block_queue.specs.Line.{Line, any_below, IsOldest, PassesNowhere, command_at, line_gone, line_reset, may_send, may_start, none_in_line}
use Rattle.block_queue.specs.{Line.orphan, declared.queue.Orphan.Orphan}
use Rattle.block_scheduler.specs.{declared.{scheduler.NextFis.{NextFis, TheVariants.{Ends, Alone}}, sets.Sets.Sets}, Sets.{AreSets, IsTagsOf}}
use Rattle.block_scheduler.specs.Sets.{ends_at, is_fail, sends_at, turn_at}

pub record Schedule : Type 0 where
  pub line : Line
  -- the most bytes that commands and dropped stores may hold
  pub limit : ℕ
  -- the tag of a queued command that failed: all of them ended with it, and the host has not read the error
  pub fault : Option ℕ

abbrev pub with_line : Schedule → Line → Schedule
with_line s l = record s { line = l }

abbrev pub none_scheduled : ℕ → Schedule
none_scheduled limit = record { line = none_in_line; limit = limit; fault = None }

-- ## Bytes

-- the most sectors that are held of so many: those of a part
abbrev pub held_of : ℕ → ℕ
held_of count = (if nat_lt count 2048 then count else 2048) * 512

-- a command holds the bytes of a part from its start to its end
abbrev pub held_by : Option Moment → ℕ
held_by None = 0
held_by (Some m) = if runs m.stage then held_of m.command.count else 0

-- and a dropped store until it is answered
abbrev pub held_for : Option Orphan → ℕ
held_for None = 0
held_for (Some o) = held_of o.count

abbrev pub held_at : Line → ℕ → ℕ
held_at l place = held_by (command_at l place) + held_for (orphan l place)

-- at the places below n
unfoldable pub held_below : Line → ℕ → ℕ
held_below l zero = 0
held_below l (suc n) = held_at l n + held_below l n

abbrev pub held : Line → ℕ
held l = held_below l 33

abbrev pub fits_at : Schedule → Option Moment → Bool
fits_at s None = false
fits_at s (Some m) = nat_le (held s.line + held_of m.command.count) s.limit

-- whether there is room for the command of a place
abbrev pub fits : Schedule → ℕ → Bool
fits s place = fits_at s (command_at s.line place)

-- ## Whether anything is under way

-- the place is under way, or the caller may still do a store of it
abbrev pub is_busy : Line → ℕ → Bool
is_busy l place = is_under_way (command_at l place) || is_some (orphan l place)

abbrev pub is_quiet : Line → Bool
is_quiet l = not (any_below (is_busy l) 33)

-- ## What goes next

-- the oldest that may start does not fit
pub record IsTooLarge (s : Schedule) : Type 0 where
  pub place : ℕ
  pub oldest : IsOldest s.line.ranks (may_start s.line) place
  pub large : fits s place ≡ false

-- the command that starts next is the oldest that may; where it does not fit, all others wait for it
abbrev pub IsNextStart : Schedule → Option ℕ → Type 0
IsNextStart s (Some p) = IsOldest s.line.ranks (may_start s.line) p × (fits s p ≡ true)
IsNextStart s None = PassesNowhere (may_start s.line) ⊎ IsTooLarge s

-- no queued command is to say that it ended well
abbrev pub EndsNowhere : Line → Type 0
EndsNowhere l = (q : ℕ) → q < 32 → ends_at l q ≡ false

-- The FIS that goes next. While a command has the link nothing else is sent. Else the ends of queued commands go, all in one FIS,
-- and else the FIS of the command that was taken first.
abbrev pub IsNextFis : Line → Option ℕ → Option NextFis → Type 0
IsNextFis l (Some h) None = sends_at l h ≡ false
IsNextFis l (Some h) (Some (Alone p)) = (p ≡ h) × (sends_at l h ≡ true)
IsNextFis l (Some h) (Some (Ends tags)) = ⊥
IsNextFis l None None = EndsNowhere l × PassesNowhere (sends_at l)
IsNextFis l None (Some (Alone p)) = EndsNowhere l × IsOldest l.ranks (sends_at l) p
IsNextFis l None (Some (Ends tags)) = IsTagsOf tags (ends_at l) × (0 < tags)

-- an error of this place ends all queued commands
abbrev pub ends_all : Line → ℕ → Bool
ends_all l place = nat_lt place 32 && is_fail (turn_at (command_at l place))

-- the FIS of a command was sent
abbrev pub line_sent : Schedule → ℕ → Schedule
line_sent s place = if ends_all s.line place
    then record s { line = line_reset (line_gone s.line place); fault = Some place }
    else with_line s (line_gone s.line place)

-- what goes next may be sent
abbrev pub MayGo : Line → NextFis → Type 0
MayGo l (Alone p) = (p < 33) × (may_send l p ≡ true)
MayGo l (Ends tags) = l.queue.table.wire ≡ None

-- the end of a queued command goes, if it is next and may be sent
abbrev pub end_sent : Line → ℕ → Line
end_sent l tag = if ends_at l tag && may_send l tag then line_gone l tag else l

-- those of the tags below n
unfoldable pub ends_sent : Line → ℕ → Line
ends_sent l zero = l
ends_sent l (suc n) = end_sent (ends_sent l n) n

-- ## What every schedule keeps

pub record IsKept (l : Line) (limit : ℕ) (s : Sets) : Type 0 where
  pub sets : AreSets l s
  pub held : held l ≤ limit
