use Rattle.block_queue.proofs.Moves as proof
use Rattle.block_queue.proofs.laws.taken_is_last.Goals as goal

pub returns : goal.returns
returns c = proof.taken_is_last
