use Rattle.disk_simulation.proofs.anew.AnewHonest.{reports_honestly}
use Rattle.disk_simulation.proofs.laws.reports_are_honest.Goals as goal

pub returns : goal.returns
returns c = reports_honestly
