use Rattle.block_engine.proofs.Runs as proof
use Rattle.block_engine.proofs.laws.requests_are_apart.Goals as goal

pub returns : goal.returns
returns c = proof.requests_are_apart
