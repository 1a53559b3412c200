use Rattle.block_queue.specs.Line.{may_start}
use Rattle.block_scheduler.proofs.Places.{IsMade}
use Rattle.block_scheduler.proofs.scheduler.Scheduler.ready.Given as goal

abbrev pub invariant-loop-walked : goal.invariant-loop-walked
invariant-loop-walked l = IsMade (may_start l.self-inside.queue) l.ready l.rest l._walked
