use Rattle.block_engine.proofs.Runs as proof
use Rattle.block_engine.proofs.laws.data_are_named.Goals as goal

pub returns : goal.returns
returns c = proof.data_are_named
