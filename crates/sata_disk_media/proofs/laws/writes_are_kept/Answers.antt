use Rattle.sata_disk_media.proofs.Kept.{writes_are_kept}
use Rattle.sata_disk_media.proofs.laws.writes_are_kept.Goals as goal

pub returns : goal.returns
returns c = writes_are_kept
