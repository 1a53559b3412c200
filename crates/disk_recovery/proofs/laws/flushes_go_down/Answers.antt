use Rattle.disk_recovery.proofs.flushes.FlushTurns.{ends_since_go_on, floors_rise_since, since_begins}
use Rattle.disk_recovery.proofs.laws.flushes_go_down.Goals as goal

pub returns-clause-begins : goal.returns-clause-begins
returns-clause-begins c = since_begins

pub returns-clause-goes_on : goal.returns-clause-goes_on
returns-clause-goes_on c = ends_since_go_on

pub returns-clause-rises : goal.returns-clause-rises
returns-clause-rises c = floors_rise_since
