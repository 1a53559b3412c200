use Rattle.std.proofs.Common.{subst}
use Rattle.block_scheduler.specs.Sets.{IsTagsOf, ends_at}
use Rattle.block_scheduler.proofs.Ends.{ending_all, ending_below, ending_end, ending_none, ending_on}
use Rattle.block_scheduler.proofs.scheduler.Scheduler.send_ends.Goals as goal

pub loop-walked-init : goal.loop-walked-init
loop-walked-init c = ending_none c.args.self.now c.places_of-rest.result c.places_of-rest.ensures.last
    (subst (λ s. IsTagsOf c.places_of-rest.result (ends_at s.line)) c.self.view_is
    (rw c.places_of-rest.ensures.same c.self.invariant.sets.ending))

pub returns-in_default : goal.returns-in_default
returns-in_default c = ending_all c.args.self.now c.loop-walked.self c.loop-walked.rest c.loop-walked._walked c.loop-walked.invariant c.in_default.ensures.none

pub send_end-requires : goal.send_end-requires
send_end-requires c = ending_below c.args.self.now c.loop-walked.self c.loop-walked.rest c.loop-walked._walked c.in-Some.tag c.loop-walked.invariant
    c.in-Some.ensures.some

pub loop-walked-preserved : goal.loop-walked-preserved
loop-walked-preserved c = ending_on c.args.self.now c.loop-walked.self c.send_end.new.self c.loop-walked.rest c.without-rest.result c.loop-walked._walked
    c.in-Some.tag c.loop-walked.invariant c.in-Some.ensures.some c.without-rest.ensures c.send_end.ensures

pub returns : goal.returns
returns c = ending_end c.args.self.now c.loop-walked.self c.loop-walked.rest c.loop-walked._walked c.loop-walked-test.false c.loop-walked.invariant
