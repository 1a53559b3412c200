-- The place of a worker in a run, as contracts see it.
use Rattle.std.specs.Prelude.{ℕ}

pub record PostState : Type 0 where
  -- the most turns in a row in which nothing moves
  pub turns : ℕ
  -- for how many turns in a row nothing has moved
  pub still : ℕ
