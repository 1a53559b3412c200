use Rattle.sata_disk_laws.proofs.Runs as proof
use Rattle.sata_disk_laws.proofs.laws.numbers_are_fresh.Goals as goal

pub returns : goal.returns
returns c = proof.numbers_are_fresh c.numbers_are_fresh.ensures
