use Rattle.std.proofs.Common.{◌≤◌, arith}
use Rattle.block_queue.proofs.Watched.{below_all, below_none, below_on}
use Rattle.block_queue.proofs.queue.watched.Goals as goal

pub loop-place-init : goal.loop-place-init
loop-place-init c = below_none c.args.requests.now c.args.orphans.now 0

pub loop-place-preserved : goal.loop-place-preserved
loop-place-preserved c = below_on c.args.requests.now c.args.orphans.now c.loop-place.place c.loop-place.busy c.noted-busy.result
    c.loop-place-test.true c.loop-place.invariant c.noted-busy.ensures

pub returns : goal.returns
returns c =
    let all : 33 ≤ c.loop-place.place = (let end = c.loop-place-test.false in omega (arith, end)) in
    below_all c.args.requests.now c.args.orphans.now c.loop-place.place c.loop-place.busy all c.loop-place.invariant
