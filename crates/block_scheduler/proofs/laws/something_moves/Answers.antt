use Rattle.block_scheduler.proofs.Runs as proof
use Rattle.block_scheduler.proofs.laws.something_moves.Goals as goal

pub returns : goal.returns
returns c = proof.something_moves
