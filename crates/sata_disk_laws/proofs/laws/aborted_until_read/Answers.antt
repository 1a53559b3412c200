use Rattle.sata_disk_laws.proofs.ErrorLaws.{aborted_until_read}
use Rattle.sata_disk_laws.proofs.laws.aborted_until_read.Goals as goal

pub returns : goal.returns
returns c = aborted_until_read c.failures_are_own.ensures
