use Rattle.std.proofs.Common.{arith, sym, true, false}
use Rattle.slots.specs.{Commands.is_any, Slots.{holds, is_sent_pio, is_unsent, own_issue, own_of}}
use Rattle.slots.proofs.ListLemmas.{left_own, no_sent_pio, seen_own, walk_ends, walk_found, walk_on}
use Rattle.slots.proofs.list.SlotList.sent_pio.Goals as goal

pub walk-init : goal.walk-init
walk-init c = rw (← c.self.view_is) (left_own c.args.dev is_any is_unsent is_sent_pio _ _ c.self.inside.slots c.self.invariant.0 (omega arith) c.self.invariant.1.issued.bits c.self.invariant.1.unsent.bits (no_sent_pio c.args.dev))

pub returns-then-is_sent_pio-clause-value : goal.returns-then-is_sent_pio-clause-value
returns-then-is_sent_pio-clause-value c =
    sym (walk_found (λ k. holds is_sent_pio (own_issue (own_of c.args.dev c.args.self.now) k)) c.walk.rest c.in-Some.slot c.walk.invariant c.in-Some.ensures
    (seen_own c.args.dev c.in-Some.slot is_sent_pio c.self.inside.slots c.args.self.now _ true c.self.view_is c.self.invariant.0 c.in-Some.ensures.0 c.if-is_sent_pio.ensures))

pub returns-then-is_sent_pio-clause-there : goal.returns-then-is_sent_pio-clause-there
returns-then-is_sent_pio-clause-there c =
    (c.in-Some.ensures.0, seen_own c.args.dev c.in-Some.slot is_sent_pio c.self.inside.slots c.args.self.now _ true c.self.view_is c.self.invariant.0 c.in-Some.ensures.0 c.if-is_sent_pio.ensures)

pub walk-preserved : goal.walk-preserved
walk-preserved c =
    walk_on (λ k. holds is_sent_pio (own_issue (own_of c.args.dev c.args.self.now) k)) c.walk.rest _ c.in-Some.slot c.walk.invariant c.without-rest.ensures.bits
    (seen_own c.args.dev c.in-Some.slot is_sent_pio c.self.inside.slots c.args.self.now _ false c.self.view_is c.self.invariant.0 c.in-Some.ensures.0 c.if-is_sent_pio.ensures)

pub returns-clause-value : goal.returns-clause-value
returns-clause-value c = sym (walk_ends (λ k. holds is_sent_pio (own_issue (own_of c.args.dev c.args.self.now) k)) c.walk.rest c.walk.invariant c.in_default.ensures)
