use Rattle.sata_disk_laws.proofs.ErrorLaws.{log_tells_of_failure}
use Rattle.sata_disk_laws.proofs.laws.log_tells_of_failure.Goals as goal

pub returns : goal.returns
returns c = log_tells_of_failure c.failures_are_own.ensures
