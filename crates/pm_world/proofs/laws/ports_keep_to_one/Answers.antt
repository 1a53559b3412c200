use Rattle.pm_world.proofs.ports.KeepingLemmas.{ports_keep}
use Rattle.pm_world.proofs.laws.ports_keep_to_one.Goals as goal

pub returns : goal.returns
returns c = ports_keep
