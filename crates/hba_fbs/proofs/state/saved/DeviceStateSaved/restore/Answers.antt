use Rattle.saved_state.specs.State.{parts_refused}
use Rattle.hba_fbs.specs.Saved.{KeepsState, KeepsStateParts, state_parts, put_state_parts}
use Rattle.hba_fbs.proofs.state.saved.DeviceStateSaved.restore.Goals as goal

pub returns-in-Err : goal.returns-in-Err
returns-in-Err c = parts_refused put_state_parts KeepsStateParts KeepsState state_parts (λ v k. k) c.args.words.now c.restore.new.words c.in-Err.error c.in-Err.ensures
