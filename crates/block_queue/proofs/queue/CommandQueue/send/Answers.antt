use Rattle.std.proofs.Common.{ap, ◌∙◌}
use Rattle.block_queue.specs.Line.{may_send}
use Rattle.block_queue.proofs.{Kept.of_and, Watched.sent_kept}
use Rattle.block_queue.proofs.queue.CommandQueue.send.Goals as goal

pub invariant_of-self : goal.invariant_of-self
invariant_of-self c =
    let may = ap (λ l. may_send l c.args.place) c.self.view_is ∙ c.requires.may in
    sent_kept (record { queue = c.self.inside.requests; ranks = c.self.inside.ranks; orphans = c.self.inside.orphans }) c.self.inside.busy c.noted-self-inside.result c.args.place _ c.self.invariant c.requires.place (of_and _ _ may).0 c.send.ensures c.noted-self-inside.ensures
