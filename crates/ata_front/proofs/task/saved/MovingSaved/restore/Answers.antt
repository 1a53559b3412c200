use Rattle.saved_state.specs.State.{parts_refused}
use Rattle.ata_front.specs.Saved.{KeepsMoving, KeepsMovingParts, moving_parts, put_moving_parts}
use Rattle.ata_front.proofs.task.saved.MovingSaved.restore.Goals as goal

pub returns-in-Err : goal.returns-in-Err
returns-in-Err c = parts_refused put_moving_parts KeepsMovingParts KeepsMoving moving_parts (λ v k. k) c.args.words.now c.restore.new.words c.in-Err.error c.in-Err.ensures
