use Rattle.block_command.specs.Laws.{Loads}
use Rattle.block_engine.proofs.Holders.{answered_line, refusable}
use Rattle.block_engine.proofs.engine.Engine.loaded.Goals as goal

pub invariant_of-self : goal.invariant_of-self
invariant_of-self c = refusable c.loaded.result c.self.inside.scheduler c.loaded.new.self _ c.self.inside.stage c.self.inside.dropped c.loaded.ensures.ok c.loaded.ensures.err c.self.invariant
    (answered_line c.self.inside.scheduler.line c.in-Some.place c.args.number (Loads c.args.bytes.items) c.self.inside.stage c.self.inside.dropped c.self.invariant)
