-- Which removals are recorded, and when the host has seen one, told by answers alone (Serial ATA 3.x,
-- 16.3, port multiplier: presence of a device on a port). The multiplier records the changes of each
-- port in the order in which they came, and the host takes frames in the order in which they went up.
use Rattle.std.specs.{Prelude.{ℕ, ◌≡◌, ◌≢◌, ◌<◌, ◌≤◌, max, Bool, true, false, List, [], ◌∷◌, ◌++◌, take}, List.flat_map}
use Rattle.multiplier.specs.{Arbiter.control_port, State.port_at}
use Rattle.pm_world.specs.{Downward.times, Links.{changed_by, is_recorded}, Places.Places, Runs.AfterEveryRun, Traffic.{is_took, taken}}
use Rattle.pm_world.specs.declared.{link.Change.Change, step.Answer.Answer}
use Rattle.pm_world.specs.declared.link.Change.TheVariants as change
use Rattle.pm_world.specs.declared.step.Answer.TheVariants as answer

-- the highest connection that went, 0 if none did
abbrev pub highest_gone : List Change → ℕ
highest_gone [] = 0
highest_gone (change.Came conn ∷ changes) = highest_gone changes
highest_gone (change.Gone conn ∷ changes) = max conn (highest_gone changes)

-- The changes at port n that are recorded, if these answers are all since the world was made. The
-- j-th answer that says that a change was recorded is about the j-th change that came.
abbrev pub recorded_at : ℕ → List Answer → List Change
recorded_at n answers = take (times (is_recorded n) answers) (flat_map (changed_by n) answers)

-- whether a frame went up
abbrev pub is_up : Answer → Bool
is_up (answer.Up port) = true
is_up _ = false

-- Connection c of port n, or a later one, is recorded as removed in the first of these answers. By
-- the end of the second the host took a frame that went up after them: it took more frames than had
-- gone up in the first.
pub record IsSeen (n c : ℕ) (first second : List Answer) : Type 0 where
  pub some : 0 < c
  pub recorded : c ≤ highest_gone (recorded_at n first)
  pub taken : times is_up first < times is_took (first ++ second)

-- What answers tell of removals, over all answers since the world was made, whichever run from a new
-- world leads to these steps.
pub record TellsRemovals (old : Places) (answers : List Answer) (new : Places) : Type 0 where
  -- each port knows the highest removal that was recorded, and no other
  pub recorded : AfterEveryRun old (λ mode config units before told made.
      (n : ℕ) → (port_at new.multiplier n).gone ≡ highest_gone (recorded_at n (told ++ answers)))
  -- nothing of a connection is taken after the host saw its removal
  pub seen : AfterEveryRun old (λ mode config units before told made.
      (n c : ℕ) → n ≢ control_port → (first second later : List Answer)
      → first ++ (second ++ later) ≡ told ++ answers → IsSeen n c first second
      → taken n c later ≡ [])
