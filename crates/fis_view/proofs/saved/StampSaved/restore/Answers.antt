use Rattle.fis_view.specs.Saved.{KeepsStamp, KeepsStampParts, put_stamp_parts, stamp_parts}
use Rattle.saved_state.specs.State.{parts_refused}
use Rattle.fis_view.proofs.saved.StampSaved.restore.Goals as goal

pub returns-in-Err : goal.returns-in-Err
returns-in-Err c = parts_refused put_stamp_parts KeepsStampParts KeepsStamp stamp_parts (λ v k. k) c.args.words.now c.restore.new.words c.in-Err.error c.in-Err.ensures
