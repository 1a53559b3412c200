use Rattle.slots.proofs.ListLemmas.{bit_cleared, bit_set}
use Rattle.slots.proofs.mask.with_bit.Goals as goal

pub returns-then-set : goal.returns-then-set
returns-then-set c = bit_set c.args.mask c.args.slot c.args.set c.requires c.if-set.true

pub returns-else-set : goal.returns-else-set
returns-else-set c = bit_cleared c.args.mask c.args.slot c.args.set c.requires c.if-set.false
