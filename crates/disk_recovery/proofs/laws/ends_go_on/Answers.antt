use Rattle.disk_recovery.proofs.both_ends.{Beginnings.flush_begins, EndLemmas.ends_go_on, FloorLemmas.floors_rise}
use Rattle.disk_recovery.proofs.laws.ends_go_on.Goals as goal

pub returns-clause-begins : goal.returns-clause-begins
returns-clause-begins c = flush_begins

pub returns-clause-goes_on : goal.returns-clause-goes_on
returns-clause-goes_on c = ends_go_on

pub returns-clause-rises : goal.returns-clause-rises
returns-clause-rises c = floors_rise
