use Rattle.block_engine.proofs.Runs as proof
use Rattle.block_engine.proofs.laws.ends_are_earned.Goals as goal

pub returns : goal.returns
returns c = proof.ends_are_earned
