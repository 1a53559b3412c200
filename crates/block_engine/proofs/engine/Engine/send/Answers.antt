use Rattle.block_engine.proofs.Holders.{sent_line}
use Rattle.block_engine.proofs.engine.Engine.send.Goals as goal

pub invariant_of-self : goal.invariant_of-self
invariant_of-self c = rw c.send.ensures (sent_line c.self.inside.scheduler c.args.place c.self.inside.stage c.self.inside.dropped c.self.invariant)
