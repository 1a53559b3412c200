use Rattle.sata_disk_laws.proofs.Silent as proof
use Rattle.sata_disk_laws.proofs.laws.silence_is_owed.Goals as goal

pub returns : goal.returns
returns c = proof.silence_is_owed c.something_moves.ensures
