use Rattle.block_queue.proofs.Moves as proof
use Rattle.block_queue.proofs.laws.something_moves.Goals as goal

pub returns : goal.returns
returns c = proof.something_moves
