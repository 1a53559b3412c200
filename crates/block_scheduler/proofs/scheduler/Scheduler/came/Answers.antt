use Rattle.block_scheduler.proofs.Held.{given_kept}
use Rattle.block_scheduler.proofs.scheduler.Scheduler.came.Goals as goal

pub invariant_of-self-2 : goal.invariant_of-self-2
invariant_of-self-2 c =
    given_kept c.self.inside.queue c.came.new.self c.self.inside.limit c.self.inside.sets c.noted-self-inside.result c.args.place c.args.part.now c.turn_of-turn.result c.self.invariant
    c.in_ok-came.ensures.ok c.turn_of-turn.ensures c.noted-self-inside.ensures
