use Rattle.std.proofs.Common.{ap, ◌∙◌}
use Rattle.block_queue.specs.Line.{may_send}
use Rattle.block_scheduler.proofs.Held.{sent_kept}
use Rattle.block_scheduler.proofs.scheduler.Scheduler.send_one.Goals as goal

pub invariant_of-self : goal.invariant_of-self
invariant_of-self c =
    sent_kept c.self.inside.queue c.send.new.self c.self.inside.limit c.self.inside.sets c.noted-self-inside.result c.args.place c.turn_of-turn.result c.self.invariant
    (ap (λ s. may_send s.line c.args.place) c.self.view_is ∙ c.requires.may) c.send.ensures c.turn_of-turn.ensures c.noted-self-inside.ensures
