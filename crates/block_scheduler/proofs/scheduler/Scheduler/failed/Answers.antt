use Rattle.std.proofs.Common.{refl}
use Rattle.block_command.specs.Laws.{Fails}
use Rattle.block_scheduler.proofs.Held.{answered_kept}
use Rattle.block_scheduler.proofs.scheduler.Scheduler.failed.Goals as goal

pub invariant_of-self-2 : goal.invariant_of-self-2
invariant_of-self-2 c =
    answered_kept c.self.inside.queue c.failed.new.self c.self.inside.limit c.self.inside.sets c.noted-self-inside.result c.args.place c.args.number Fails c.turn_of-turn.result c.self.invariant refl
    c.in_ok-failed.ensures.ok c.turn_of-turn.ensures c.noted-self-inside.ensures
