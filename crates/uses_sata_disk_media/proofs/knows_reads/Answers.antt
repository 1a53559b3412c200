use Rattle.uses_sata_disk_media.proofs.More.{given}
use Rattle.uses_sata_disk_media.proofs.knows_reads.Goals as goal

pub returns : goal.returns
returns c = given c.args.disk.now c.reads_are_given_writes.ensures
