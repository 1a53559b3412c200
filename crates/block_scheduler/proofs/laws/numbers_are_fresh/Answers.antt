use Rattle.block_scheduler.proofs.Runs as proof
use Rattle.block_scheduler.proofs.laws.numbers_are_fresh.Goals as goal

pub returns : goal.returns
returns c = proof.numbers_are_fresh
