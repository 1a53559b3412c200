use Rattle.std.proofs.Common.{ap, ◌∙◌}
use Rattle.block_scheduler.specs.Schedule.{fits}
use Rattle.block_scheduler.proofs.Held.{started_kept}
use Rattle.block_scheduler.proofs.scheduler.Scheduler.start.Goals as goal

pub invariant_of-self-2 : goal.invariant_of-self-2
invariant_of-self-2 c =
    started_kept c.self.inside.queue c.start.new.self c.self.inside.limit c.self.inside.fault c.self.inside.sets c.noted-self-inside.result c.args.place c.turn_of-turn.result c.self.invariant c.requires.place
    (ap (λ s. fits s c.args.place) c.self.view_is ∙ c.requires.fits) c.in_ok-start.ensures.ok c.turn_of-turn.ensures c.noted-self-inside.ensures
