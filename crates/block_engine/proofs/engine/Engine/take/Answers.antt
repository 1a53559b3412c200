use Rattle.block_engine.proofs.Holders.{taken_line}
use Rattle.block_engine.proofs.engine.Engine.take.Goals as goal

pub invariant_of-self : goal.invariant_of-self
invariant_of-self c = rw c.take.ensures (taken_line c.self.inside.scheduler.line c.args.command c.self.inside.stage c.self.inside.dropped c.self.invariant)
