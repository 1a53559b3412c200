use Rattle.block_disk.proofs.Numbers as numbers
use Rattle.block_disk.proofs.laws.late_answers_count_for_nothing.Goals as goal

pub returns : goal.returns
returns c = numbers.late_answers_count_for_nothing
