use Rattle.std.proofs.Common.{◌≡◌, ℕ, ◌<◌, false}
use Rattle.block_queue.specs.Saved.{has_rank_of}
use Rattle.block_queue.proofs.queue.saved.is_misranked.Given as goal

abbrev pub invariant-loop-other : goal.invariant-loop-other
invariant-loop-other l = (q : ℕ) → q < l.other → has_rank_of l.ranks l.place q ≡ false
