use Rattle.sata_disk_media.proofs.Kept.{given_is_written}
use Rattle.sata_disk_media.proofs.laws.reads_are_given_writes.Goals as goal

pub returns : goal.returns
returns c = given_is_written c.writes_are_kept.ensures
