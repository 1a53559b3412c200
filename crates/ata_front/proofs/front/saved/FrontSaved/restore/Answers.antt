use Rattle.saved_state.specs.State.{parts_refused}
use Rattle.ata_front.specs.Saved.{KeepsFront, KeepsFrontParts, front_parts, put_front_parts}
use Rattle.ata_front.proofs.front.saved.FrontSaved.restore.Goals as goal

pub returns-in-Err : goal.returns-in-Err
returns-in-Err c = parts_refused put_front_parts KeepsFrontParts KeepsFront front_parts (λ v k. k) c.args.words.now c.restore.new.words c.in-Err.error c.in-Err.ensures
