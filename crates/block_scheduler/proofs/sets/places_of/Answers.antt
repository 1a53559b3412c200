use Rattle.block_scheduler.proofs.Ends.{no_last}
use Rattle.block_scheduler.proofs.sets.places_of.Goals as goal

pub returns-clause-last : goal.returns-clause-last
returns-clause-last c = no_last c.args.tags c.ranges.tags.fits
