use Rattle.std.proofs.Common.{subst}
use Rattle.block_queue.specs.Places.{IsWatched}
use Rattle.block_queue.proofs.queue.CommandQueue.busy.Goals as goal

pub returns : goal.returns
returns c = subst (λ l. IsWatched l c.self.inside.busy) c.self.view_is c.self.invariant.watched
