use Rattle.block_engine.proofs.Runs as proof
use Rattle.block_engine.proofs.laws.numbers_are_fresh.Goals as goal

pub returns : goal.returns
returns c = proof.numbers_are_fresh
