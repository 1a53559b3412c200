use Rattle.std.proofs.Common.{ap, ◌∙◌}
use Rattle.block_queue.specs.Line.{may_start}
use Rattle.block_queue.proofs.Watched.{start_kept}
use Rattle.block_queue.proofs.queue.CommandQueue.start.Goals as goal

pub invariant_of-self : goal.invariant_of-self
invariant_of-self c =
    start_kept (record { queue = c.self.inside.requests; ranks = c.self.inside.ranks; orphans = c.self.inside.orphans }) c.self.inside.busy c.args.place c.start.result _ c.self.invariant c.requires.place
    (ap (λ l. may_start l c.args.place) c.self.view_is ∙ c.requires.may) c.start.ensures.ok c.start.ensures.err
