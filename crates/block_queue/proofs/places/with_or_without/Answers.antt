use Rattle.block_queue.proofs.Watched.{is_less, is_with}
use Rattle.block_queue.proofs.places.with_or_without.Goals as goal

pub returns-then-is : goal.returns-then-is
returns-then-is c = rw c.if-is.true (is_with c.args.set c.args.place c.requires)

pub returns-else-is : goal.returns-else-is
returns-else-is c = rw c.if-is.false (is_less c.args.set c.without.result c.args.place c.without.ensures)
