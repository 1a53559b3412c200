use Rattle.fan_out.proofs.OrderLemmas.{passes}
use Rattle.fan_out.proofs.laws.fans_pass_in_order.Goals as goal

pub returns : goal.returns
returns c = passes
