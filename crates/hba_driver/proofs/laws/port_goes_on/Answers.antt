use Rattle.hba_driver.proofs.goes_on.{GoingLemmas.ports_go_on, StopLemmas.faults_never_stop}
use Rattle.hba_driver.proofs.laws.port_goes_on.Goals as goal

pub returns-clause-hears : goal.returns-clause-hears
returns-clause-hears c = faults_never_stop

pub returns-clause-turns : goal.returns-clause-turns
returns-clause-turns c = ports_go_on
