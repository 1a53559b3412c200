use Rattle.saved_state.specs.State.{parts_refused}
use Rattle.hba_fbs.specs.Saved.{KeepsBlock, KeepsBlockParts, block_parts, put_block_parts}
use Rattle.hba_fbs.proofs.status.saved.BlockSaved.restore.Goals as goal

pub returns-in-Err : goal.returns-in-Err
returns-in-Err c = parts_refused put_block_parts KeepsBlockParts KeepsBlock block_parts (λ v k. k) c.args.words.now c.restore.new.words c.in-Err.error c.in-Err.ensures
