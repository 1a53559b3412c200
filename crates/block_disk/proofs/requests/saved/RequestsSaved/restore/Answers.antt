use Rattle.saved_state.specs.State.{parts_refused}
use Rattle.block_disk.specs.Saved.{KeepsQueue, KeepsQueueParts, put_queue_parts, queue_parts}
use Rattle.block_disk.proofs.requests.saved.RequestsSaved.restore.Goals as goal

pub returns-in-Err : goal.returns-in-Err
returns-in-Err c = parts_refused put_queue_parts KeepsQueueParts KeepsQueue queue_parts (λ q k. k)
    c.args.words.now c.restore.new.words c.in-Err.error c.in-Err.ensures
