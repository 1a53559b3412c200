use Rattle.sata_disk_laws.proofs.Beside as proof
use Rattle.sata_disk_laws.proofs.laws.asides_are_earned.Goals as goal

pub returns : goal.returns
returns c = proof.asides_are_earned c.asides_are_earned.ensures
