use Rattle.sata_disk_media.proofs.Kept.{reads_bring_writes}
use Rattle.sata_disk_media.proofs.laws.reads_bring_writes.Goals as goal

pub returns : goal.returns
returns c = reads_bring_writes c.loads_bring_what_is_kept.ensures c.writes_are_kept.ensures
