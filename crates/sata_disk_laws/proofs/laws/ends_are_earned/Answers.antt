use Rattle.sata_disk_laws.proofs.Runs as proof
use Rattle.sata_disk_laws.proofs.laws.ends_are_earned.Goals as goal

pub returns : goal.returns
returns c = proof.ends_are_earned c.ends_are_earned.ensures
