use Rattle.block_queue.proofs.Door.{IsChecked}
use Rattle.block_scheduler.specs.Schedule.{is_busy}
use Rattle.block_scheduler.proofs.scheduler.Scheduler.is_quiet.Given as goal

abbrev pub invariant-loop-walked : goal.invariant-loop-walked
invariant-loop-walked l = IsChecked (is_busy l.self.line) l.rest l._walked
