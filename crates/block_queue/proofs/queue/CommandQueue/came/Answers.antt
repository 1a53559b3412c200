use Rattle.block_queue.proofs.Watched.{came_kept}
use Rattle.block_queue.proofs.queue.CommandQueue.came.Goals as goal

pub invariant_of-self : goal.invariant_of-self
invariant_of-self c =
    came_kept (record { queue = c.self.inside.requests; ranks = c.self.inside.ranks; orphans = c.self.inside.orphans }) c.self.inside.busy c.args.place c.args.part.now c.came.result _ c.self.invariant c.requires c.came.ensures.ok c.came.ensures.err
