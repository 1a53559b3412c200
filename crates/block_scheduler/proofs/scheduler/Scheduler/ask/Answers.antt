use Rattle.std.proofs.Common.{ap, ◌∙◌}
use Rattle.block_disk.specs.Requests.{asks}
use Rattle.block_scheduler.proofs.Held.{asked_kept}
use Rattle.block_scheduler.proofs.scheduler.Scheduler.ask.Goals as goal

pub invariant_of-self-2 : goal.invariant_of-self-2
invariant_of-self-2 c =
    asked_kept c.self.inside.queue c.ask.new.self c.self.inside.limit c.self.inside.sets c.noted-self-inside.result c.args.place c.turn_of-turn.result c.self.invariant
    (ap (λ s. asks s.line.queue c.args.place) c.self.view_is ∙ c.requires.may) c.in_ok-number.ensures.asked c.turn_of-turn.ensures c.noted-self-inside.ensures
