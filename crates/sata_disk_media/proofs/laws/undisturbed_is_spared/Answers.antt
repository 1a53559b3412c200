use Rattle.sata_disk_media.proofs.Sparing.{undisturbed_is_spared}
use Rattle.sata_disk_media.proofs.laws.undisturbed_is_spared.Goals as goal

pub returns : goal.returns
returns c = undisturbed_is_spared c.stores_are_of_writes.ensures
