use Rattle.block_engine.proofs.Holders.{rests}
use Rattle.block_engine.proofs.engine.Engine.send_aside.Goals as goal

pub invariant_of-self : goal.invariant_of-self
invariant_of-self c = rests c.self.inside.scheduler.line c.self.inside.stage c.self.inside.dropped c.self.invariant
