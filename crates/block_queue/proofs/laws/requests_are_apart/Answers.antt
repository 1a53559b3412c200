use Rattle.block_queue.proofs.Apart as proof
use Rattle.block_queue.proofs.laws.requests_are_apart.Goals as goal

pub returns : goal.returns
returns c = proof.requests_are_apart
