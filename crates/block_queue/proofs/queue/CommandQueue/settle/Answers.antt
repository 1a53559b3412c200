use Rattle.block_queue.proofs.Watched.{settled_kept}
use Rattle.block_queue.proofs.queue.CommandQueue.settle.Goals as goal

pub invariant_of-self : goal.invariant_of-self
invariant_of-self c = settled_kept (record { queue = c.self.inside.requests; ranks = c.self.inside.ranks; orphans = c.self.inside.orphans }) c.self.inside.busy c.noted-self-inside.result c.args.place c.args.number _ c.self.invariant c.requires c.forget.ensures c.noted-self-inside.ensures
