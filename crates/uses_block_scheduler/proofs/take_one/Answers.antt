use Rattle.block_scheduler.specs.Laws.{Takes}
use Rattle.uses_block_scheduler.proofs.More.{one_more}
use Rattle.uses_block_scheduler.proofs.take_one.Goals as goal

pub returns : goal.returns
returns c = one_more _ _ (Takes c.args.command) (c.requires.place, c.requires.is, c.requires.queued) c.take.ensures
