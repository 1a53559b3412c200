use Rattle.std.proofs.Common.{refl, arith}
use Rattle.block_engine.proofs.Holders.{refusable, same_line}
use Rattle.block_engine.proofs.engine.Engine.came.Goals as goal

pub invariant_of-self : goal.invariant_of-self
invariant_of-self c = refusable c.came.result c.self.inside.scheduler c.came.new.self _ c.self.inside.stage c.self.inside.dropped c.came.ensures.ok c.came.ensures.err c.self.invariant
    (same_line c.self.inside.scheduler.line _ c.self.inside.stage c.self.inside.dropped refl refl (omega arith) c.self.invariant)
