use Rattle.block_queue.proofs.Deeds as proof
use Rattle.block_queue.proofs.laws.data_are_named.Goals as goal

pub returns : goal.returns
returns c = proof.data_are_named
