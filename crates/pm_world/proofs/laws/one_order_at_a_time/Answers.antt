use Rattle.pm_world.proofs.control_port.LineLemmas.{one_order_at_a_time}
use Rattle.pm_world.proofs.laws.one_order_at_a_time.Goals as goal

pub returns : goal.returns
returns c = one_order_at_a_time
