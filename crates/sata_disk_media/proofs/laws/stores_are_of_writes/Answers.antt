use Rattle.sata_disk_media.proofs.Writes.{stores_are_of_writes}
use Rattle.sata_disk_media.proofs.laws.stores_are_of_writes.Goals as goal

pub returns : goal.returns
returns c = stores_are_of_writes
