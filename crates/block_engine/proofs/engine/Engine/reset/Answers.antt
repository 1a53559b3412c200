use Rattle.block_engine.proofs.Holders.{drops, reset_line}
use Rattle.block_engine.proofs.engine.Engine.reset.Goals as goal

pub invariant_of-self : goal.invariant_of-self
invariant_of-self c = rw (c.reset.ensures, c.dropped_by-self-inside.ensures) (drops _ c.self.inside.kind c.self.inside.stage c.self.inside.dropped (reset_line c.self.inside.scheduler.line c.self.inside.stage c.self.inside.dropped c.self.invariant))
