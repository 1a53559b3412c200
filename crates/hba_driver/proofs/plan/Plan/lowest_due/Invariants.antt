use Rattle.std.proofs.Common.{◌≡◌, ℕ, ◌<◌, false}
use Rattle.hba_driver.specs.Turns.{is_due}
use Rattle.hba_driver.proofs.plan.Plan.lowest_due.Given as goal

-- none so far
abbrev pub invariant-loop-dev : goal.invariant-loop-dev
invariant-loop-dev l = (k : ℕ) → k < l.dev → is_due l.sight l.self k ≡ false
