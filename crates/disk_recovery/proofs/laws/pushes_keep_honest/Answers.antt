use Rattle.disk_recovery.proofs.honest.PushLemmas.{pushes_go_on, pushes_keep}
use Rattle.disk_recovery.proofs.laws.pushes_keep_honest.Goals as goal

pub returns-clause-goes_on : goal.returns-clause-goes_on
returns-clause-goes_on c = pushes_go_on

pub returns-clause-framed : goal.returns-clause-framed
returns-clause-framed c = pushes_keep
