use Rattle.saved_state.specs.State.{parts_refused}
use Rattle.slots.specs.Saved.{KeepsIssued, KeepsIssuedParts, put_issued_parts, issued_parts}
use Rattle.slots.proofs.slot.saved.IssuedSaved.restore.Goals as goal

pub returns-in-Err : goal.returns-in-Err
returns-in-Err c = parts_refused put_issued_parts KeepsIssuedParts KeepsIssued issued_parts (λ v k. k) c.args.words.now c.restore.new.words c.in-Err.error c.in-Err.ensures
