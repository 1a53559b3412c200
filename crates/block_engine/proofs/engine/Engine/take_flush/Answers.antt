use Rattle.block_engine.proofs.Holders.{waits}
use Rattle.block_engine.proofs.engine.Engine.take_flush.Goals as goal

pub invariant_of-self : goal.invariant_of-self
invariant_of-self c = waits c.self.inside.scheduler.line c.self.inside.stage c.self.inside.dropped c.self.invariant
