use Rattle.std.proofs.Common.{◌≡◌, ℕ, ◌<◌, false}
use Rattle.block_engine.specs.Numbers.{has_number}
use Rattle.block_engine.proofs.numbers.is_misnumbered.Given as goal

abbrev pub invariant-loop-other : goal.invariant-loop-other
invariant-loop-other l = (q : ℕ) → q < l.other → has_number l.scheduler.line l.stage l.dropped l.index l.number q ≡ false
