use Rattle.block_queue.proofs.Oldest.{IsWalked}
use Rattle.block_queue.proofs.queue.CommandQueue.oldest.Given as goal

abbrev pub invariant-loop-walked : goal.invariant-loop-walked
invariant-loop-walked l = IsWalked l.self.ranks l.set l.rest l._walked l.oldest
