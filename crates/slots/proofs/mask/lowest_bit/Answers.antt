use Rattle.std.proofs.Common.{arith}
use Rattle.slots.proofs.ListLemmas.{bit_lowest}
use Rattle.slots.proofs.mask.lowest_bit.Goals as goal

pub returns-else-mask-eq0 : goal.returns-else-mask-eq0
returns-else-mask-eq0 c = bit_lowest c.args.mask (omega (arith, c.if-mask-eq0.false)) c.ranges.mask.fits
