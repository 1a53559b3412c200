use Rattle.std.proofs.Common.{subst, sym, ◌∙◌}
use Rattle.block_queue.specs.{Line.waits_for, Places.IsWatched}
use Rattle.block_queue.proofs.{Kept.any_found, Watched.{checked_all, checked_end, checked_none, checked_on, waits_not}}
use Rattle.block_queue.proofs.queue.CommandQueue.must_wait.Goals as goal

pub loop-walked-init : goal.loop-walked-init
loop-walked-init c = checked_none (waits_for c.args.self.now c.args.command c.args.place) c.self.inside.busy
    (λ q low e. waits_not c.args.self.now c.self.inside.busy c.args.command c.args.place q
    (subst (λ l. IsWatched l c.self.inside.busy) c.self.view_is c.self.invariant.watched) low e)

pub returns-in_default : goal.returns-in_default
returns-in_default c = sym (checked_all (waits_for c.args.self.now c.args.command c.args.place) c.loop-walked.rest c.loop-walked._walked
    c.loop-walked.invariant c.in_default.ensures.none)

pub returns-then-waits_for : goal.returns-then-waits_for
returns-then-waits_for c = sym (any_found (waits_for c.args.self.now c.args.command c.args.place) 33 c.in-Some.other
    c.in-Some.ensures.some.below (sym c.waits_for.ensures ∙ c.if-waits_for.true))

pub loop-walked-preserved : goal.loop-walked-preserved
loop-walked-preserved c = checked_on (waits_for c.args.self.now c.args.command c.args.place) c.loop-walked.rest c.without-rest.result
    c.loop-walked._walked c.in-Some.other c.loop-walked.invariant c.in-Some.ensures.some (sym c.waits_for.ensures ∙ c.if-waits_for.false)
    c.without-rest.ensures

pub returns : goal.returns
returns c = sym (checked_end (waits_for c.args.self.now c.args.command c.args.place) c.loop-walked.rest c.loop-walked._walked
    c.loop-walked-test.false c.loop-walked.invariant)
