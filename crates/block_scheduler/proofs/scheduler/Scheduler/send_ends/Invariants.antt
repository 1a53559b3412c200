use Rattle.block_scheduler.proofs.Ends.{IsEnding}
use Rattle.block_scheduler.proofs.scheduler.Scheduler.send_ends.Given as goal

abbrev pub invariant-loop-walked : goal.invariant-loop-walked
invariant-loop-walked l = IsEnding l.fn.self l.self l.rest l._walked
