use Rattle.block_queue.proofs.Watched.{new_kept}
use Rattle.block_queue.proofs.queue.CommandQueue.new.Goals as goal

pub invariant_of-result : goal.invariant_of-result
invariant_of-result c = rw (c.in_ok-new.ensures, c.first_ranks.ensures) new_kept
