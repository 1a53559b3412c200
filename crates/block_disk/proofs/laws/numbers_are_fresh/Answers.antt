use Rattle.block_disk.proofs.Numbers as numbers
use Rattle.block_disk.proofs.laws.numbers_are_fresh.Goals as goal

pub returns : goal.returns
returns c = numbers.numbers_are_fresh
