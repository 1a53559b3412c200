use Rattle.disk_recovery.proofs.unasked.{FaultyLemmas.faults_set_aside, UnaskedLemmas.stays_unasked}
use Rattle.disk_recovery.proofs.laws.stays_unasked.Goals as goal

pub returns-clause-stays : goal.returns-clause-stays
returns-clause-stays c = stays_unasked

pub returns-clause-faults : goal.returns-clause-faults
returns-clause-faults c = faults_set_aside
