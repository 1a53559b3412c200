use Rattle.block_command.specs.Laws.{Fails}
use Rattle.block_engine.proofs.Holders.{answered_line}
use Rattle.block_engine.proofs.engine.Engine.failed_at.Goals as goal

pub invariant_of-self-2 : goal.invariant_of-self-2
invariant_of-self-2 c = rw c.in_ok-failed.ensures.ok (answered_line c.self.inside.scheduler.line c.args.place c.args.number Fails c.self.inside.stage c.self.inside.dropped c.self.invariant)

pub invariant_of-self-then-not-own : goal.invariant_of-self-then-not-own
invariant_of-self-then-not-own c = rw c.in_ok-failed.ensures.ok (answered_line c.self.inside.scheduler.line c.args.place c.args.number Fails c.self.inside.stage c.self.inside.dropped c.self.invariant)
