use Rattle.disk_simulation.proofs.phases.AsideLemmas.{aside_is_kept}
use Rattle.disk_simulation.proofs.laws.devices_are_set_aside.Goals as goal

pub returns : goal.returns
returns c = aside_is_kept
