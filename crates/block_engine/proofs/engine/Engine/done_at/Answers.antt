use Rattle.block_command.specs.Laws.{Stores, Flushes}
use Rattle.block_engine.proofs.Holders.{answered_line, refusable}
use Rattle.block_engine.proofs.engine.Engine.done_at.Goals as goal

pub invariant_of-self : goal.invariant_of-self
invariant_of-self c = rw c.in-Ok.ensures.ok (answered_line c.self.inside.scheduler.line c.args.place c.args.number Stores c.self.inside.stage c.self.inside.dropped c.self.invariant)

pub invariant_of-self-in-Err : goal.invariant_of-self-in-Err
invariant_of-self-in-Err c = refusable c.flushed.result c.stored.new.self c.flushed.new.self _ c.self.inside.stage c.self.inside.dropped
    c.flushed.ensures.ok c.flushed.ensures.err (rw c.in-Err.ensures.err c.self.invariant)
    (answered_line c.stored.new.self.line c.args.place c.args.number Flushes c.self.inside.stage c.self.inside.dropped (rw c.in-Err.ensures.err c.self.invariant))
