use Rattle.block_queue.proofs.Oldest.{is_without}
use Rattle.block_queue.proofs.places.without.Goals as goal

pub returns : goal.returns
returns c = is_without c.args.set c.args.place c.requires
