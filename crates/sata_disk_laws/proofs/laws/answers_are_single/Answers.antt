use Rattle.sata_disk_laws.proofs.Calls as proof
use Rattle.sata_disk_laws.proofs.laws.answers_are_single.Goals as goal

pub returns : goal.returns
returns c = proof.answers_are_single
