use Rattle.std.proofs.Common.{◌≡◌, ℕ, ◌<◌, true}
use Rattle.fan_out.specs.Saved.{fits_at}
use Rattle.fan_out.proofs.fan.saved.seats_fit.Given as goal

abbrev pub invariant-loop-n : goal.invariant-loop-n
invariant-loop-n l = (k : ℕ) → k < l.n → fits_at l.multiplier l.seats k ≡ true
