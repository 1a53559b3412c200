use Rattle.sata_disk_laws.proofs.Stores.{stores_are_heard}
use Rattle.sata_disk_laws.proofs.laws.stores_are_heard.Goals as goal

pub returns : goal.returns
returns c = stores_are_heard c.numbers_are_fresh.ensures
