use Rattle.block_scheduler.proofs.Walks.{IsSummed}
use Rattle.block_scheduler.proofs.scheduler.held_in.Given as goal

abbrev pub invariant-loop-walked : goal.invariant-loop-walked
invariant-loop-walked l = IsSummed l.queue l.held l.rest l._walked
