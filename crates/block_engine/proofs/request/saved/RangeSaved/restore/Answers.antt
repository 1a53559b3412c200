use Rattle.saved_state.specs.State.{parts_refused}
use Rattle.block_engine.specs.Saved.{KeepsRange, KeepsRangeParts, range_parts, put_range_parts}
use Rattle.block_engine.proofs.request.saved.RangeSaved.restore.Goals as goal

pub returns-in-Err : goal.returns-in-Err
returns-in-Err c = parts_refused put_range_parts KeepsRangeParts KeepsRange range_parts (λ r k. k)
    c.args.words.now c.restore.new.words c.in-Err.error c.in-Err.ensures
