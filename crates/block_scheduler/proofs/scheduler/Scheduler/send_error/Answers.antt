use Rattle.block_scheduler.proofs.Held.{reset_kept}
use Rattle.block_scheduler.proofs.scheduler.Scheduler.send_error.Goals as goal

pub invariant_of-self : goal.invariant_of-self
invariant_of-self c =
    rw c.new-self-inside.ensures (reset_kept c.self.inside.queue c.reset.new.self c.self.inside.limit c.self.inside.sets c.self.invariant c.reset.ensures)
