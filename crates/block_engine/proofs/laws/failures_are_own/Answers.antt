use Rattle.block_engine.proofs.Failures as proof
use Rattle.block_engine.proofs.laws.failures_are_own.Goals as goal

pub returns : goal.returns
returns c = proof.failures_are_own
