use Rattle.disk_simulation.proofs.anew.LaterJoins.{next_later, reports_later}
use Rattle.disk_simulation.proofs.laws.reports_are_honest_later.Goals as goal

pub returns-clause-next : goal.returns-clause-next
returns-clause-next c = next_later

pub returns-clause-done : goal.returns-clause-done
returns-clause-done c = reports_later
