use Rattle.saved_state.specs.State.{parts_refused}
use Rattle.ata_reply.specs.Saved.{KeepsSetUp, KeepsSetUpParts, set_up_parts, put_set_up_parts}
use Rattle.ata_reply.proofs.reply.saved.SetUpSaved.restore.Goals as goal

pub returns-in-Err : goal.returns-in-Err
returns-in-Err c = parts_refused put_set_up_parts KeepsSetUpParts KeepsSetUp set_up_parts (λ v k. k) c.args.words.now c.restore.new.words c.in-Err.error c.in-Err.ensures
