use Rattle.block_scheduler.proofs.Held.{draws_kept}
use Rattle.block_scheduler.proofs.scheduler.Scheduler.draw.Goals as goal

pub invariant_of-self : goal.invariant_of-self
invariant_of-self c = draws_kept c.self.inside.queue c.draw.new.self c.self.inside.limit c.self.inside.sets c.draw.result c.self.invariant c.draw.ensures.drawn c.draw.ensures.none
