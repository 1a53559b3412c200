use Rattle.std.proofs.Common.{ℕ, Option, arith, sym, ap, true, false}
use Rattle.std.specs.Option.{is_some}
use Rattle.slots.specs.{Commands.is_unanswered, Setup.is_outstanding, Slots.{holds, is_queued_issue, own_issue, own_of}}
use Rattle.slots.proofs.ListLemmas.{left_own, no_outstanding, seen_own, walk_ends, walk_found, walk_on}
use Rattle.slots.proofs.list.SlotList.has_outstanding.Goals as goal

pub walk-init : goal.walk-init
walk-init c = rw (← c.self.view_is) (left_own c.args.dev is_queued_issue is_unanswered is_outstanding _ _ c.self.inside.slots c.self.invariant.0 (omega arith) c.self.invariant.1.queued.bits c.self.invariant.1.unanswered.bits (no_outstanding c.args.dev))

pub returns-then-is_outstanding : goal.returns-then-is_outstanding
returns-then-is_outstanding c =
    sym (ap (λ (o : Option ℕ). is_some o) (walk_found (λ k. holds is_outstanding (own_issue (own_of c.args.dev c.args.self.now) k)) c.walk.rest c.in-Some.slot c.walk.invariant c.in-Some.ensures
    (seen_own c.args.dev c.in-Some.slot is_outstanding c.self.inside.slots c.args.self.now _ true c.self.view_is c.self.invariant.0 c.in-Some.ensures.0 c.if-is_outstanding.ensures)))

pub walk-preserved : goal.walk-preserved
walk-preserved c =
    walk_on (λ k. holds is_outstanding (own_issue (own_of c.args.dev c.args.self.now) k)) c.walk.rest _ c.in-Some.slot c.walk.invariant c.without-rest.ensures.bits
    (seen_own c.args.dev c.in-Some.slot is_outstanding c.self.inside.slots c.args.self.now _ false c.self.view_is c.self.invariant.0 c.in-Some.ensures.0 c.if-is_outstanding.ensures)

pub returns : goal.returns
returns c = sym (ap (λ (o : Option ℕ). is_some o) (walk_ends (λ k. holds is_outstanding (own_issue (own_of c.args.dev c.args.self.now) k)) c.walk.rest c.walk.invariant c.in_default.ensures))
