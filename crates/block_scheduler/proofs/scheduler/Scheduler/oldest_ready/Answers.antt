use Rattle.std.proofs.Common.{sym, ap, ◌∙◌, subst}
use Rattle.std.specs.Prelude.{IfSome}
use Rattle.block_queue.specs.Line.{IsOldest, PassesNowhere, has_bit, may_start}
use Rattle.block_scheduler.proofs.Places.{first_ready, if_none, none_as, none_ready, some_as}
use Rattle.block_scheduler.proofs.scheduler.Scheduler.oldest_ready.Goals as goal

pub returns-in_err-first-clause-none : goal.returns-in_err-first-clause-none
returns-in_err-first-clause-none c = if_none c.from_residual.result (PassesNowhere (may_start c.args.self.now.line))
    (λ q low. sym (ap (λ s. may_start s.line q) c.self.view_is)
    ∙ none_ready c.self.inside.queue c.self.inside.sets.waiting c.self.invariant.sets.waiting c.in_err-first.ensures.none q low)

pub returns-then-may_start-clause-some : goal.returns-then-may_start-clause-some
returns-then-may_start-clause-some c = subst (λ s. IsOldest s.line.ranks (may_start s.line) c.in_ok-first.first) c.self.view_is
    (first_ready c.self.inside.queue c.self.inside.sets.waiting c.in_ok-first.first c.self.invariant.sets.waiting c.in_ok-first.ensures.some
    (sym c.may_start.ensures ∙ c.if-may_start.true))

pub returns-clause-some : goal.returns-clause-some
returns-clause-some c = some_as c.args.self.now.line.ranks c.ready.result (may_start c.args.self.now.line) c.oldest-2.result c.ready.ensures
    (subst (λ s. IfSome c.oldest-2.result (IsOldest s.line.ranks (has_bit c.ready.result))) c.self.view_is c.oldest-2.ensures.some)

pub returns-clause-none : goal.returns-clause-none
returns-clause-none c = none_as c.ready.result (may_start c.args.self.now.line) c.oldest-2.result c.ready.ensures c.oldest-2.ensures.none
