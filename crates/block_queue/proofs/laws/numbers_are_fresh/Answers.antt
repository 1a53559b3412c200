use Rattle.block_queue.proofs.Deeds as proof
use Rattle.block_queue.proofs.laws.numbers_are_fresh.Goals as goal

pub returns : goal.returns
returns c = proof.numbers_are_fresh
