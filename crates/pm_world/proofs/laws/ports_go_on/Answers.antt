use Rattle.pm_world.proofs.control_port.GoingLemmas.{ports_go_on}
use Rattle.pm_world.proofs.laws.ports_go_on.Goals as goal

pub returns : goal.returns
returns c = ports_go_on
