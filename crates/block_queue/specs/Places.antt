-- Sets of places: bit n of a set is place n.
use Rattle.std.specs.Prelude.{ℕ, ◌≡◌, ◌≢◌, ◌<◌, Bool, true, false, ◌||◌, List, slice_index_or, Option, Some, None, is_some, if◌then◌else◌}
use Rattle.block_disk.specs.{Table.{at, is_under_way}, Requests.{Queue, number_at}}
use Rattle.block_queue.specs.{declared.queue.Orphan.Orphan, Line.{IsLine, Line, has_bit, is_before}}

-- of the places in a set this one is the first
pub record IsFirstIn (set p : ℕ) : Type 0 where
  pub below : p < 33
  pub has : has_bit set p ≡ true
  pub before : (q : ℕ) → q < p → has_bit set q ≡ false

-- a set without a place, and with the others that it had
pub record IsWithout (old new place : ℕ) : Type 0 where
  pub here : has_bit new place ≡ false
  pub others : (q : ℕ) → q < 33 → q ≢ place → has_bit new q ≡ has_bit old q

-- of a place and of one that was found before, the one whose command was taken first
abbrev pub older : List ℕ → Option ℕ → ℕ → ℕ
older ranks None place = place
older ranks (Some found) place = if is_before ranks place found then place else found

-- a set with or without a place, and with the others that it had
pub record IsNoted (old new place : ℕ) (is : Bool) : Type 0 where
  pub here : has_bit new place ≡ is
  pub others : (q : ℕ) → q < 33 → q ≢ place → has_bit new q ≡ has_bit old q

-- ## Places at which something stands

-- the command of the place is under way, or the caller is to answer a dropped store or a request of it
abbrev pub is_watched_in : Queue → List (Option Orphan) → ℕ → Bool
is_watched_in queue orphans place =
    (is_under_way (at queue.table place) || is_some (slice_index_or orphans place None)) || is_some (number_at queue.out place)

abbrev pub IsWatchedIn : Queue → List (Option Orphan) → ℕ → Type 0
IsWatchedIn queue orphans set = (q : ℕ) → q < 33 → has_bit set q ≡ is_watched_in queue orphans q

-- the set has the places at which something stands, and no other
abbrev pub IsWatched : Line → ℕ → Type 0
IsWatched l set = IsWatchedIn l.queue l.orphans set

-- what every queue keeps
pub record IsKept (l : Line) (busy : ℕ) : Type 0 where
  pub line : IsLine l
  pub watched : IsWatched l busy
