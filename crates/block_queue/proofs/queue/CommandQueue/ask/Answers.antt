use Rattle.std.proofs.Common.{ap, ◌∙◌}
use Rattle.block_disk.specs.Requests.{asks}
use Rattle.block_queue.proofs.Watched.{ask_kept}
use Rattle.block_queue.proofs.queue.CommandQueue.ask.Goals as goal

pub invariant_of-self : goal.invariant_of-self
invariant_of-self c =
    ask_kept (record { queue = c.self.inside.requests; ranks = c.self.inside.ranks; orphans = c.self.inside.orphans }) c.self.inside.busy c.args.place c.ask.result _ c.self.invariant c.requires.place
    (ap (λ l. asks l.queue c.args.place) c.self.view_is ∙ c.requires.may) c.ask.ensures.asked c.ask.ensures.none
