use Rattle.disk_recovery.proofs.honest.TakeLemmas.{takes_keep}
use Rattle.disk_recovery.proofs.laws.takes_keep_honest.Goals as goal

pub returns : goal.returns
returns c = takes_keep
