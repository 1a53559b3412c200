use Rattle.block_engine.proofs.Holders.{none_dropped, settled_less}
use Rattle.block_engine.proofs.engine.Engine.settle.Goals as goal

pub invariant_of-self : goal.invariant_of-self
invariant_of-self c = rw c.settled-self-inside.ensures (settled_less c.self.inside.scheduler.line c.self.inside.stage c.self.inside.dropped c.args.well c.self.invariant)

pub invariant_of-self-2 : goal.invariant_of-self-2
invariant_of-self-2 c = none_dropped c.self.inside.scheduler.line c.self.inside.stage c.self.inside.dropped c.self.invariant
