use Rattle.std.proofs.Common.{refl}
use Rattle.block_engine.proofs.Holders.{asked_aside}
use Rattle.block_engine.proofs.engine.Engine.ask_aside.Goals as goal

pub invariant_of-self-2 : goal.invariant_of-self-2
invariant_of-self-2 c = rw (c.in_ok-number.ensures.drawn, c.in_ok-number.ensures.some) (asked_aside c.self.inside.scheduler.line _ c.self.inside.stage c.self.inside.dropped refl refl refl c.self.invariant)
