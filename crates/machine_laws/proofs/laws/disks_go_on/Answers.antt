use Rattle.machine_laws.proofs.GoOn.{go_on}
use Rattle.machine_laws.proofs.laws.disks_go_on.Goals as goal

pub returns : goal.returns
returns c = go_on
