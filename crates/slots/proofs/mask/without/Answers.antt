use Rattle.std.proofs.Common.{false, refl}
use Rattle.slots.proofs.ListLemmas.{bit_cleared, fewer_bits}
use Rattle.slots.proofs.mask.without.Goals as goal

pub returns-clause-bits : goal.returns-clause-bits
returns-clause-bits c = bit_cleared c.args.mask c.args.slot false c.requires.below refl

pub returns-clause-less : goal.returns-clause-less
returns-clause-less c = fewer_bits c.args.mask c.args.slot c.requires.below c.requires.within
