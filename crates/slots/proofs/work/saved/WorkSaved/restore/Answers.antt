use Rattle.saved_state.specs.State.{parts_refused}
use Rattle.slots.specs.Saved.{KeepsWork, KeepsWorkParts, put_work_parts, work_parts}
use Rattle.slots.proofs.work.saved.WorkSaved.restore.Goals as goal

pub returns-in-Err : goal.returns-in-Err
returns-in-Err c = parts_refused put_work_parts KeepsWorkParts KeepsWork work_parts (λ v k. k) c.args.words.now c.restore.new.words c.in-Err.error c.in-Err.ensures
