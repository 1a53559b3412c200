use Rattle.saved_state.specs.State.{parts_refused}
use Rattle.ata_reply.specs.Saved.{KeepsFailure, KeepsFailureParts, failure_parts, put_failure_parts}
use Rattle.ata_reply.proofs.reply.saved.FailureSaved.restore.Goals as goal

pub returns-in-Err : goal.returns-in-Err
returns-in-Err c = parts_refused put_failure_parts KeepsFailureParts KeepsFailure failure_parts (λ v k. k) c.args.words.now c.restore.new.words c.in-Err.error c.in-Err.ensures
