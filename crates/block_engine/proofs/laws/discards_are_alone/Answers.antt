use Rattle.block_engine.proofs.Alone as proof
use Rattle.block_engine.proofs.laws.discards_are_alone.Goals as goal

pub returns : goal.returns
returns c = proof.discards_are_alone
