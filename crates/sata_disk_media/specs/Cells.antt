-- What is known of one sector of a medium from what its caller was asked for, and from what it answered.
use Rattle.std.specs.Prelude.{ℕ, ◌+◌, ◌-◌, ◌*◌, ◌==◌, ◌&&◌, nat_le, nat_lt, Bool, List, [], take, drop, Option, Some, None, if◌then◌else◌}
use Rattle.std.specs.List.{list_any}
use Rattle.block_command.specs.Moments.{Moment}
use Rattle.block_engine.specs.declared.request.{Answer.{Answer, TheVariants.{Done, Failed}}, Range.Range, What.What}
use Rattle.block_engine.specs.declared.request.What.TheVariants as what

pub data Cell : Type 0 where
  -- nothing was stored there, or the last store of it failed, or a discard of it was asked for since
  Unknown : Cell
  -- the store of this number is out, and has these bytes for it
  Storing : ℕ → List ℕ → Cell
  -- the last store of it was done, and had these bytes for it
  Kept : List ℕ → Cell

-- so many sectors from one on have this one
abbrev pub covers : (lba count s : ℕ) → Bool
covers lba count s = nat_le lba s && nat_lt s (lba + count)

abbrev pub in_ranges : List Range → ℕ → Bool
in_ranges ranges s = list_any (λ r. covers r.lba r.count s) ranges

-- of the bytes for the sectors from one on, those for this one
abbrev pub sector_of : (lba s : ℕ) → List ℕ → List ℕ
sector_of lba s bytes = take 512 (drop ((s - lba) * 512) bytes)

-- the bytes of the command of a place
abbrev pub bytes_at : Option Moment → List ℕ
bytes_at None = []
bytes_at (Some m) = m.bytes

-- a request is asked: a store has these bytes, and a discard is of these ranges
abbrev pub asked_cell : (s : ℕ) → Cell → What → (number : ℕ) → List ℕ → List Range → Cell
asked_cell s was (what.Store lba count) number bytes ranges = if covers lba count s then Storing number (sector_of lba s bytes) else was
asked_cell s was what.Discard number bytes ranges = if in_ranges ranges s then Unknown else was
asked_cell s was _ number bytes ranges = was

-- the request of a number is answered
abbrev pub answered_cell : Cell → (number : ℕ) → Answer → Cell
answered_cell (Storing n bytes) number Done = if n == number then Kept bytes else Storing n bytes
answered_cell (Storing n bytes) number (Failed f) = if n == number then Unknown else Storing n bytes
answered_cell was number a = was

-- the bytes that the medium is known to keep
abbrev pub kept_in : Cell → Option (List ℕ)
kept_in (Kept bytes) = Some bytes
kept_in _ = None
