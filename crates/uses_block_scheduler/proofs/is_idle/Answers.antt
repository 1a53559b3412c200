use Rattle.uses_block_scheduler.proofs.More.{driven}
use Rattle.uses_block_scheduler.proofs.is_idle.Goals as goal

pub returns : goal.returns
returns c = driven c.args.disk.now c.next_start.result c.is_none.result c.something_moves.ensures c.next_start.ensures c.is_none.ensures
