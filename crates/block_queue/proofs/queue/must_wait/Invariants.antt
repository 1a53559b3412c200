use Rattle.std.proofs.Common.{◌≡◌, ℕ, ◌<◌, false}
use Rattle.block_queue.specs.{Line.waits_for, Saved.line_of}
use Rattle.block_queue.proofs.queue.must_wait.Given as goal

abbrev pub invariant-loop-other : goal.invariant-loop-other
invariant-loop-other l = (q : ℕ) → q < l.other → waits_for (line_of l.requests l.ranks l.orphans) l.command l.place q ≡ false
