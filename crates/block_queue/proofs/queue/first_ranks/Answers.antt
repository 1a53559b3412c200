use Rattle.std.proofs.Common.{arith}
use Rattle.block_queue.proofs.Kept.{ranks_all}
use Rattle.block_queue.proofs.queue.first_ranks.Goals as goal

pub returns : goal.returns
returns c = ranks_all c.loop-place.ranks 33 c.loop-place.invariant.0
    (λ k low. c.loop-place.invariant.1 k (let end = c.loop-place-test.false in omega (arith, low, end)))
