use Rattle.std.proofs.Common.{ap, ◌∙◌}
use Rattle.block_queue.specs.Line.{may_start}
use Rattle.block_scheduler.proofs.Places.{made_all, made_end, made_none, made_on, waits_not}
use Rattle.block_scheduler.proofs.scheduler.Scheduler.ready.Goals as goal

pub loop-walked-init : goal.loop-walked-init
loop-walked-init c = made_none (may_start c.self.inside.queue) c.self.inside.sets.waiting
    (waits_not c.self.inside.queue c.self.inside.sets.waiting c.self.invariant.sets.waiting)

pub returns-in_default : goal.returns-in_default
returns-in_default c = λ q low. made_all (may_start c.self.inside.queue) c.loop-walked.ready c.loop-walked.rest c.loop-walked._walked
    c.loop-walked.invariant c.in_default.ensures.none q low ∙ ap (λ s. may_start s.line q) c.self.view_is

pub loop-walked-preserved : goal.loop-walked-preserved
loop-walked-preserved c = made_on (may_start c.self.inside.queue) c.loop-walked.ready c.with_place-ready.result c.loop-walked.rest c.without-rest.result
    c.loop-walked._walked c.in-Some.place c.may_start.result c.loop-walked.invariant c.in-Some.ensures.some c.with_place-ready.ensures
    c.may_start.ensures c.without-rest.ensures

pub returns : goal.returns
returns c = λ q low. made_end (may_start c.self.inside.queue) c.loop-walked.ready c.loop-walked.rest c.loop-walked._walked
    c.loop-walked-test.false c.loop-walked.invariant q low ∙ ap (λ s. may_start s.line q) c.self.view_is
