use Rattle.sata_disk_laws.proofs.Calls as proof
use Rattle.sata_disk_laws.proofs.laws.parts_are_frames.Goals as goal

pub returns : goal.returns
returns c = proof.parts_are_frames
