use Rattle.block_scheduler.proofs.Runs as proof
use Rattle.block_scheduler.proofs.laws.requests_are_apart.Goals as goal

pub returns : goal.returns
returns c = proof.requests_are_apart
