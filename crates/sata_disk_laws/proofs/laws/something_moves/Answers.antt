use Rattle.sata_disk_laws.proofs.Runs as proof
use Rattle.sata_disk_laws.proofs.laws.something_moves.Goals as goal

pub returns : goal.returns
returns c = proof.something_moves c.something_moves.ensures
