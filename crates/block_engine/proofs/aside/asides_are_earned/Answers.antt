use Rattle.block_engine.proofs.Asides as proof
use Rattle.block_engine.proofs.aside.asides_are_earned.Goals as goal

pub returns : goal.returns
returns c = proof.asides_are_earned
