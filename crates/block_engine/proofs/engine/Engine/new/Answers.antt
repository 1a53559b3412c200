use Rattle.block_engine.proofs.Holders.{none_numbered}
use Rattle.block_engine.proofs.engine.Engine.new.Goals as goal

pub invariant_of-result : goal.invariant_of-result
invariant_of-result c = rw c.in_ok-new.ensures none_numbered
