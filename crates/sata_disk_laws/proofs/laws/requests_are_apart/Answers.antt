use Rattle.sata_disk_laws.proofs.Runs as proof
use Rattle.sata_disk_laws.proofs.laws.requests_are_apart.Goals as goal

pub returns : goal.returns
returns c = proof.requests_are_apart c.requests_are_apart.ensures
