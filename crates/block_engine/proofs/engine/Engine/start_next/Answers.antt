use Rattle.std.proofs.Common.{refl, arith}
use Rattle.block_engine.proofs.Holders.{same_line}
use Rattle.block_engine.proofs.engine.Engine.start_next.Goals as goal

pub invariant_of-self-2 : goal.invariant_of-self-2
invariant_of-self-2 c = rw c.in_ok-start.ensures.ok (same_line c.self.inside.scheduler.line _ c.self.inside.stage c.self.inside.dropped refl refl (omega arith) c.self.invariant)
