use Rattle.block_scheduler.proofs.Places.{clear_place, set_place}
use Rattle.block_scheduler.proofs.sets.with_place.Goals as goal

pub returns-then-is : goal.returns-then-is
returns-then-is c = rw c.if-is.true (set_place c.args.set c.args.place c.requires)

pub returns-else-is : goal.returns-else-is
returns-else-is c = rw c.if-is.false (clear_place c.args.set c.args.place c.requires)
