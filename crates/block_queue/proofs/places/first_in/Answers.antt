use Rattle.block_queue.proofs.Oldest.{is_first, is_nowhere}
use Rattle.block_queue.proofs.places.first_in.Goals as goal

pub returns-then-first-lt33-clause-some : goal.returns-then-first-lt33-clause-some
returns-then-first-lt33-clause-some c = is_first c.args.set c.ranges.set.fits c.if-first-lt33.true

pub returns-else-first-lt33-clause-none : goal.returns-else-first-lt33-clause-none
returns-else-first-lt33-clause-none c = is_nowhere c.args.set c.ranges.set.fits c.if-first-lt33.false
