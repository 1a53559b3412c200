use Rattle.block_engine.proofs.Runs as proof
use Rattle.block_engine.proofs.laws.something_moves.Goals as goal

pub returns : goal.returns
returns c = proof.something_moves
