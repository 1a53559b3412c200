use Rattle.block_queue.proofs.Watched.{IsWatchedBelow}
use Rattle.block_queue.proofs.queue.watched.Given as goal

abbrev pub invariant-loop-place : goal.invariant-loop-place
invariant-loop-place l = IsWatchedBelow l.requests l.orphans l.place l.busy
