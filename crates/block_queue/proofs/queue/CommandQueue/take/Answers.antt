use Rattle.std.proofs.Common.{◌∙◌, sym}
use Rattle.block_queue.proofs.Watched.{taken_kept}
use Rattle.block_queue.proofs.queue.CommandQueue.take.Goals as goal

pub invariant_of-self : goal.invariant_of-self
invariant_of-self c = taken_kept (record { queue = c.self.inside.requests; ranks = c.self.inside.ranks; orphans = c.self.inside.orphans }) c.self.inside.busy c.with_or_without-self-inside.result c.args.command _ _ c.self.invariant c.requires.place
    (sym c.is_taken.ensures ∙ c.if-is_taken.false) c.take.ensures c.moved_back-self-inside.ensures c.with_or_without-self-inside.ensures
