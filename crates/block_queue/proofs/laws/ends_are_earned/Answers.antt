use Rattle.block_queue.proofs.Deeds as proof
use Rattle.block_queue.proofs.laws.ends_are_earned.Goals as goal

pub returns : goal.returns
returns c = proof.ends_are_earned
