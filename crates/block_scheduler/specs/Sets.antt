-- Sets of places, by what is next for their commands.
use Rattle.std.specs.Prelude.{ℕ, ◌≡◌, ◌≢◌, ◌<◌, nat_lt, Bool, true, false, not, ◌&&◌, Option, Some, None}
use Rattle.block_command.specs.{declared.command.Turn.Turn, Moments.{Moment, turn_of}}
use Rattle.block_command.specs.declared.command.Turn.TheVariants as turn
use Rattle.block_disk.specs.Requests.{asks, is_fis, is_request}
use Rattle.block_queue.specs.Line.{Line, command_at, has_bit, starts}
use Rattle.block_scheduler.specs.declared.sets.Sets.{Sets}

abbrev pub no_sets : Sets
no_sets = record { waiting = 0; asking = 0; sending = 0; ending = 0 }

abbrev pub is_end : Turn → Bool
is_end turn.End = true
is_end _ = false

abbrev pub is_fail : Turn → Bool
is_fail turn.Fail = true
is_fail _ = false

abbrev pub turn_at : Option Moment → Turn
turn_at None = turn.Nothing
turn_at (Some m) = turn_of m.stage

-- the ends of queued commands go together
abbrev pub ends_together : ℕ → Turn → Bool
ends_together place t = nat_lt place 32 && is_end t

abbrev pub sends_alone : ℕ → Turn → Bool
sends_alone place t = is_fis t && not (ends_together place t)

-- a set with or without a place, and with the others that it had
pub record IsWith (old new place : ℕ) (is : Bool) : Type 0 where
  pub here : has_bit new place ≡ is
  pub others : (q : ℕ) → q < 33 → q ≢ place → has_bit new q ≡ has_bit old q

-- the same of tags
pub record IsWithTag (old new place : ℕ) (is : Bool) : Type 0 where
  pub here : place < 32 → has_bit new place ≡ is
  pub others : (q : ℕ) → q < 32 → q ≢ place → has_bit new q ≡ has_bit old q

pub record IsNoted (old new : Sets) (place : ℕ) (t : Turn) : Type 0 where
  pub waiting : IsWith old.waiting new.waiting place (starts t)
  pub asking : IsWith old.asking new.asking place (is_request t)
  pub sending : IsWith old.sending new.sending place (sends_alone place t)
  pub ending : IsWithTag old.ending new.ending place (is_end t)

-- the set has the places below 33 that pass
abbrev pub IsSetOf : ℕ → (ℕ → Bool) → Type 0
IsSetOf set test = (q : ℕ) → q < 33 → has_bit set q ≡ test q

-- the set has the tags that pass
abbrev pub IsTagsOf : ℕ → (ℕ → Bool) → Type 0
IsTagsOf tags test = (q : ℕ) → q < 32 → has_bit tags q ≡ test q

abbrev pub waits_at : Line → ℕ → Bool
waits_at l place = starts (turn_at (command_at l place))

abbrev pub asks_at : Line → ℕ → Bool
asks_at l place = asks l.queue place

abbrev pub sends_at : Line → ℕ → Bool
sends_at l place = sends_alone place (turn_at (command_at l place))

abbrev pub ends_at : Line → ℕ → Bool
ends_at l place = is_end (turn_at (command_at l place))

pub record AreSets (l : Line) (s : Sets) : Type 0 where
  pub waiting : IsSetOf s.waiting (waits_at l)
  pub asking : IsSetOf s.asking (asks_at l)
  pub sending : IsSetOf s.sending (sends_at l)
  pub ending : IsTagsOf s.ending (ends_at l)
