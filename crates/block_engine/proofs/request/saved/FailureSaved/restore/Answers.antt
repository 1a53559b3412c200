use Rattle.saved_state.specs.State.{parts_refused}
use Rattle.block_engine.specs.Saved.{KeepsFailure, KeepsFailureParts, failure_parts, put_failure_parts}
use Rattle.block_engine.proofs.request.saved.FailureSaved.restore.Goals as goal

pub returns-in-Err : goal.returns-in-Err
returns-in-Err c = parts_refused put_failure_parts KeepsFailureParts KeepsFailure failure_parts (λ f k. k)
    c.args.words.now c.restore.new.words c.in-Err.error c.in-Err.ensures
