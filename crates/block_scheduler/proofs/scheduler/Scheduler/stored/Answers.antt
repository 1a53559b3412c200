use Rattle.std.proofs.Common.{refl}
use Rattle.block_command.specs.Laws.{Stores}
use Rattle.block_scheduler.proofs.Held.{answered_kept}
use Rattle.block_scheduler.proofs.scheduler.Scheduler.stored.Goals as goal

pub invariant_of-self-2 : goal.invariant_of-self-2
invariant_of-self-2 c =
    answered_kept c.self.inside.queue c.stored.new.self c.self.inside.limit c.self.inside.sets c.noted-self-inside.result c.args.place c.args.number Stores c.turn_of-turn.result c.self.invariant refl
    c.in_ok-stored.ensures.ok c.turn_of-turn.ensures c.noted-self-inside.ensures
