use Rattle.sata_disk_media.proofs.Kept.{loads_bring_what_is_kept}
use Rattle.sata_disk_media.proofs.laws.loads_bring_what_is_kept.Goals as goal

pub returns : goal.returns
returns c = loads_bring_what_is_kept c.data_are_given.ensures
