-- Schedulers that a run led to.
use Rattle.std.specs.Prelude.{ℕ, ◌≡◌, ◌<◌, ◌≤◌, Bool, true, List, [], ◌∷◌, ◌++◌, map, Option, Some, None}
use Rattle.block_disk.specs.{Table.is_under_way, Requests.{AreSeenRightly, Rises, no_books, none_queued, numbers_given}}
use Rattle.block_queue.specs.{Line.command_at, Deeds.{AllAreApart, Goes, act_of}}
use Rattle.block_scheduler.specs.{Schedule.{Schedule, none_scheduled}, Laws.{AreMoves, Move, Starts, after_moves, deeds_in, seen_in}}

abbrev pub IsReached : ℕ → List Move → Schedule → Type 0
IsReached limit moves s = AreMoves (none_scheduled limit) moves × (s ≡ after_moves (none_scheduled limit) moves)

-- whatever run led to the old one, a longer one leads to the new one
abbrev pub Extends : Schedule → Schedule → List Move → Type 0
Extends old new more = (limit : ℕ) (moves : List Move) → IsReached limit moves old → IsReached limit (moves ++ more) new

abbrev pub starts_of : Option ℕ → List Move
starts_of None = []
starts_of (Some p) = Starts p ∷ []

-- what a run showed that led here
pub record HasLaws (s : Schedule) : Type 0 where
  pub apart : (limit : ℕ) (moves : List Move) → IsReached limit moves s → AllAreApart [] (seen_in limit moves)
  pub earned : (limit : ℕ) (moves : List Move) → IsReached limit moves s → AreSeenRightly no_books (seen_in limit moves)
  pub fresh : (limit : ℕ) (moves : List Move) → IsReached limit moves s → Rises 0 (numbers_given none_queued (map act_of (deeds_in limit moves)))

abbrev pub IsDriven : Schedule → Bool → Type 0
IsDriven s idle = idle ≡ true → (limit : ℕ) (moves : List Move) (p : ℕ) → IsReached limit moves s → 1048576 ≤ limit → p < 33
    → is_under_way (command_at s.line p) ≡ true → Goes s.line
