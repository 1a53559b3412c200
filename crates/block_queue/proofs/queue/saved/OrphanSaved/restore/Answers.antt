use Rattle.saved_state.specs.State.{parts_refused}
use Rattle.block_queue.specs.Saved.{KeepsOrphan, KeepsOrphanParts, orphan_parts, put_orphan_parts}
use Rattle.block_queue.proofs.queue.saved.OrphanSaved.restore.Goals as goal

pub returns-in-Err : goal.returns-in-Err
returns-in-Err c = parts_refused put_orphan_parts KeepsOrphanParts KeepsOrphan orphan_parts (λ o k. k)
    c.args.words.now c.restore.new.words c.in-Err.error c.in-Err.ensures
