use Rattle.std.proofs.Common.{◌≡◌, ℕ, ◌<◌, false}
use Rattle.block_queue.specs.Saved.{is_broken, line_of}
use Rattle.block_queue.proofs.queue.saved.are_in_order.Given as goal

abbrev pub invariant-loop-place : goal.invariant-loop-place
invariant-loop-place l = (q : ℕ) → q < l.place → is_broken (line_of l.requests l.ranks l.orphans) q ≡ false
