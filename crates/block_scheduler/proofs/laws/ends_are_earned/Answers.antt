use Rattle.block_scheduler.proofs.Runs as proof
use Rattle.block_scheduler.proofs.laws.ends_are_earned.Goals as goal

pub returns : goal.returns
returns c = proof.ends_are_earned
