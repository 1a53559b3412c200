use Rattle.std.proofs.Common.{arith}
use Rattle.slots.specs.{Commands.is_done, Slots.{is_done_issue, own_of}}
use Rattle.slots.proofs.ListLemmas.{gather_ends, gather_on, gather_starts, named_only, none_done}
use Rattle.slots.proofs.list.SlotList.done.Goals as goal

pub walk-init : goal.walk-init
walk-init c = (
  rw (← c.self.view_is) (gather_starts (is_done c.args.mask (own_of c.args.dev c.self.inside.slots)) _
      (named_only c.args.dev c.args.mask is_done_issue _ c.self.inside.slots c.self.invariant.0 c.self.invariant.1.queued.bits (none_done c.args.dev))),
  omega arith,
)

pub walk-preserved : goal.walk-preserved
walk-preserved c = (gather_on (is_done c.args.mask (own_of c.args.dev c.args.self.now)) c.walk.rest _ c.in-Some.slot c.walk.found _ c.is_done.result c.walk.invariant.0 c.with_bit-found.ensures c.is_done.ensures c.without-rest.ensures.bits, omega arith)

pub returns : goal.returns
returns c = gather_ends (is_done c.args.mask (own_of c.args.dev c.args.self.now)) c.walk.rest c.walk.found c.walk.invariant.1 c.walk.invariant.0 c.in_default.ensures
