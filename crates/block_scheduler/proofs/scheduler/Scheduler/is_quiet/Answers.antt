use Rattle.std.proofs.Common.{sym, subst, ap, ◌∙◌}
use Rattle.std.specs.Prelude.{not}
use Rattle.block_queue.specs.Places.{IsWatched}
use Rattle.block_queue.proofs.Door.{any_found, checked_all, checked_end, checked_on}
use Rattle.block_scheduler.specs.Schedule.{is_busy}
use Rattle.block_scheduler.proofs.Walks.{quiet_none}
use Rattle.block_scheduler.proofs.scheduler.Scheduler.is_quiet.Goals as goal

pub loop-walked-init : goal.loop-walked-init
loop-walked-init c = quiet_none c.args.self.now.line c.busy-rest.result (subst (λ s. IsWatched s.line c.busy-rest.result) c.self.view_is c.busy-rest.ensures)

pub returns-in_default : goal.returns-in_default
returns-in_default c = sym (ap not (checked_all (is_busy c.args.self.now.line) c.loop-walked.rest c.loop-walked._walked
    c.loop-walked.invariant c.in_default.ensures.none))

pub returns-then-is_busy : goal.returns-then-is_busy
returns-then-is_busy c = sym (ap not (any_found (is_busy c.args.self.now.line) 33 c.in-Some.place c.in-Some.ensures.some.below
    (sym c.is_busy.ensures ∙ c.if-is_busy.true)))

pub loop-walked-preserved : goal.loop-walked-preserved
loop-walked-preserved c = checked_on (is_busy c.args.self.now.line) c.loop-walked.rest c.without-rest.result c.loop-walked._walked
    c.in-Some.place c.loop-walked.invariant c.in-Some.ensures.some (sym c.is_busy.ensures ∙ c.if-is_busy.false) c.without-rest.ensures

pub returns : goal.returns
returns c = sym (ap not (checked_end (is_busy c.args.self.now.line) c.loop-walked.rest c.loop-walked._walked
    c.loop-walked-test.false c.loop-walked.invariant))
