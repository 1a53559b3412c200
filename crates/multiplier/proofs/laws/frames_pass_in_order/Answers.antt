use Rattle.multiplier.proofs.Removals.{pass_in_order}
use Rattle.multiplier.proofs.laws.frames_pass_in_order.Goals as goal

pub returns : goal.returns
returns c = pass_in_order
