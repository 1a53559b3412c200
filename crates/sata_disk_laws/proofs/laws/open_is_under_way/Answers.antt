use Rattle.sata_disk_laws.proofs.Calls as proof
use Rattle.sata_disk_laws.proofs.laws.open_is_under_way.Goals as goal

pub returns : goal.returns
returns c = proof.open_is_under_way
