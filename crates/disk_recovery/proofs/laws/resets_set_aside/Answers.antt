use Rattle.disk_recovery.proofs.aside.ResetAside.{reset_sets_aside}
use Rattle.disk_recovery.proofs.laws.resets_set_aside.Goals as goal

pub returns : goal.returns
returns c = reset_sets_aside
