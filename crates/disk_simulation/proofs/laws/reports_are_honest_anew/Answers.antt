use Rattle.disk_simulation.proofs.anew.AnewHonest.{honest_stays, next_anew, reports_anew}
use Rattle.disk_simulation.proofs.laws.reports_are_honest_anew.Goals as goal

pub returns-clause-next : goal.returns-clause-next
returns-clause-next c = next_anew

pub returns-clause-done : goal.returns-clause-done
returns-clause-done c = reports_anew

pub returns-clause-stays : goal.returns-clause-stays
returns-clause-stays c = honest_stays
