use Rattle.machine_laws.proofs.Apart.{apart}
use Rattle.machine_laws.proofs.laws.ports_are_apart.Goals as goal

pub returns : goal.returns
returns c = apart
