use Rattle.block_scheduler.proofs.Runs as proof
use Rattle.block_scheduler.proofs.laws.data_are_named.Goals as goal

pub returns : goal.returns
returns c = proof.data_are_named
