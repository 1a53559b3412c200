-- A command that is being read out of its slot.
use Rattle.std.specs.Prelude.{ℕ}
use Rattle.guest_fetch.specs.declared.fetch.Step.{Step}

-- where its header lies, and what has come
pub record Fetching : Type 0 where
  pub at : ℕ
  pub step : Step
