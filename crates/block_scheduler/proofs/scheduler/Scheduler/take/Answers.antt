use Rattle.block_scheduler.proofs.Held.{taken_kept}
use Rattle.block_scheduler.proofs.scheduler.Scheduler.take.Goals as goal

pub invariant_of-self : goal.invariant_of-self
invariant_of-self c =
    taken_kept c.self.inside.queue c.take.new.self c.self.inside.limit c.self.inside.sets c.noted-self-inside.result c.args.command c.turn_of-turn.result c.self.invariant
    c.take.ensures c.turn_of-turn.ensures c.noted-self-inside.ensures
