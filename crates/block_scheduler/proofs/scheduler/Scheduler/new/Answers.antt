use Rattle.block_scheduler.proofs.Held.{new_kept}
use Rattle.block_scheduler.proofs.scheduler.Scheduler.new.Goals as goal

pub invariant_of-result : goal.invariant_of-result
invariant_of-result c = rw (c.in_ok-new.ensures, c.new-2.ensures) (new_kept c.args.limit)
