use Rattle.std.proofs.Common.{◌≡◌, ℕ, ◌<◌, false}
use Rattle.block_engine.specs.Numbers.{is_misnumbered}
use Rattle.block_engine.proofs.numbers.are_numbered.Given as goal

abbrev pub invariant-loop-index : goal.invariant-loop-index
invariant-loop-index l = (q : ℕ) → q < l.index → is_misnumbered l.scheduler.line l.stage l.dropped q ≡ false
