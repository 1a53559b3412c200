use Rattle.std.proofs.Common.{◌≡◌, ℕ, ◌<◌, true}
use Rattle.multiplier.specs.Saved.{removal_fits}
use Rattle.multiplier.proofs.multiplier.saved.removals_fit.Given as goal

abbrev pub invariant-loop-n : goal.invariant-loop-n
invariant-loop-n l = (k : ℕ) → k < l.n → removal_fits l.ports l.stamp.shown k ≡ true
