use Rattle.block_scheduler.proofs.Walks.{summed_all, summed_end, summed_none, summed_on}
use Rattle.block_scheduler.proofs.scheduler.held_in.Goals as goal

pub loop-walked-init : goal.loop-walked-init
loop-walked-init c = summed_none c.args.queue.now c.busy-rest.result c.busy-rest.ensures

pub returns-in_default-clause-value : goal.returns-in_default-clause-value
returns-in_default-clause-value c = summed_all c.args.queue.now c.loop-walked.held c.loop-walked.rest c.loop-walked._walked
    c.loop-walked.invariant c.in_default.ensures.none

pub loop-walked-preserved : goal.loop-walked-preserved
loop-walked-preserved c = summed_on c.args.queue.now c.loop-walked.held c.loop-walked.rest c.without-rest.result c.loop-walked._walked
    c.in-Some.place c.held_at-held.result c.loop-walked.invariant c.in-Some.ensures.some c.without-rest.ensures
    c.held_at-held.ensures.value c.held_at-held.ensures.most

pub returns-clause-value : goal.returns-clause-value
returns-clause-value c = summed_end c.args.queue.now c.loop-walked.held c.loop-walked.rest c.loop-walked._walked
    c.loop-walked-test.false c.loop-walked.invariant
