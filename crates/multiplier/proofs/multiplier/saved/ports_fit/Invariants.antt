use Rattle.std.proofs.Common.{◌≡◌, ℕ, ◌<◌, true}
use Rattle.multiplier.specs.Saved.{fits_at}
use Rattle.multiplier.proofs.multiplier.saved.ports_fit.Given as goal

abbrev pub invariant-loop-n : goal.invariant-loop-n
invariant-loop-n l = (k : ℕ) → k < l.n → fits_at l.registers l.ports k ≡ true
