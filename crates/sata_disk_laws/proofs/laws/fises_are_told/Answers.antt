use Rattle.sata_disk_laws.proofs.Told as proof
use Rattle.sata_disk_laws.proofs.laws.fises_are_told.Goals as goal

pub returns : goal.returns
returns c = proof.fises_are_told
