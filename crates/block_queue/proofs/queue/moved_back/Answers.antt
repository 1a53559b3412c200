use Rattle.std.proofs.Common.{arith, get_or, set, ap}
use Rattle.block_queue.proofs.Kept.{moved_all}
use Rattle.block_queue.proofs.queue.moved_back.Goals as goal

pub returns : goal.returns
returns c = let long = c.loop-other.invariant.long in
    let end = c.loop-other-test.false in
    ap (λ xs. set xs c.args.place 32) (moved_all c.args.ranks c.loop-other.moved (get_or c.args.ranks c.args.place 0) long
    (λ k low. c.loop-other.invariant.up k (omega (arith, low, end, long))))
