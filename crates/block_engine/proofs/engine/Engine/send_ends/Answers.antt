use Rattle.block_engine.proofs.Holders.{ends_line}
use Rattle.block_engine.proofs.engine.Engine.send_ends.Goals as goal

pub invariant_of-self : goal.invariant_of-self
invariant_of-self c = rw c.send_ends.ensures (ends_line c.self.inside.scheduler.line 32 c.self.inside.stage c.self.inside.dropped c.self.invariant)
