use Rattle.sata_disk_laws.proofs.Exact as proof
use Rattle.sata_disk_laws.proofs.laws.data_are_named.Goals as goal

pub returns : goal.returns
returns c = proof.data_are_named c.data_are_named.ensures
