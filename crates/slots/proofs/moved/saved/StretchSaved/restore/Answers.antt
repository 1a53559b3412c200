use Rattle.saved_state.specs.State.{parts_refused}
use Rattle.slots.specs.Saved.{KeepsStretch, KeepsStretchParts, put_stretch_parts, stretch_parts}
use Rattle.slots.proofs.moved.saved.StretchSaved.restore.Goals as goal

pub returns-in-Err : goal.returns-in-Err
returns-in-Err c = parts_refused put_stretch_parts KeepsStretchParts KeepsStretch stretch_parts (λ v k. k) c.args.words.now c.restore.new.words c.in-Err.error c.in-Err.ensures
