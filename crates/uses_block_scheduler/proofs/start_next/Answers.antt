use Rattle.block_scheduler.specs.Laws.{Starts}
use Rattle.uses_block_scheduler.proofs.More.{one_more}
use Rattle.uses_block_scheduler.proofs.start_next.Goals as goal

pub returns-clause-ok : goal.returns-clause-ok
returns-clause-ok c = one_more c.args.disk.now c.start.new.self (Starts c.in-Some.place) (c.in-Some.ensures.0.below, c.in-Some.ensures.0.passes) c.in_ok-start.ensures.ok
