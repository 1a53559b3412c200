use Rattle.std.proofs.Common.{arith}
use Rattle.slots.proofs.ListLemmas.{freed_ends, freed_on, freed_starts}
use Rattle.slots.proofs.list.clear_slots.Goals as goal

pub walk-init : goal.walk-init
walk-init c = freed_starts c.args.mask c.args.slots.now

pub walk-preserved : goal.walk-preserved
walk-preserved c =
    let t = c.told-slots in
    freed_on c.args.mask c.walk.rest _ c.in-Some.slot c.args.slots.now c.walk.slots _ c.clear.ensures (omega (arith, c.walk.invariant.long, c.in-Some.ensures.0)) c.walk.invariant c.in-Some.ensures c.without-rest.ensures.bits

pub returns : goal.returns
returns c = let t = c.told-slots in freed_ends c.args.mask c.walk.rest c.args.slots.now c.walk.slots (omega arith) c.walk.invariant c.in_default.ensures
