use Rattle.sata_disk_laws.proofs.Runs as proof
use Rattle.sata_disk_laws.proofs.laws.discards_are_alone.Goals as goal

pub returns : goal.returns
returns c = proof.discards_are_alone c.discards_are_alone.ensures
