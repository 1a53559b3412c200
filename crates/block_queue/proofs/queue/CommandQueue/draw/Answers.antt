use Rattle.block_queue.proofs.Watched.{draw_kept}
use Rattle.block_queue.proofs.queue.CommandQueue.draw.Goals as goal

pub invariant_of-self : goal.invariant_of-self
invariant_of-self c = draw_kept (record { queue = c.self.inside.requests; ranks = c.self.inside.ranks; orphans = c.self.inside.orphans }) c.self.inside.busy c.draw.result _ c.self.invariant c.draw.ensures.drawn c.draw.ensures.none
