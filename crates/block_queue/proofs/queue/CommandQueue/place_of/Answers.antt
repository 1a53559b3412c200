use Rattle.std.proofs.Common.{subst, sym, ◌∙◌}
use Rattle.block_queue.specs.{Line.awaits, Places.IsWatched}
use Rattle.block_queue.proofs.{Kept.first_found, Watched.{awaits_not, before_first, checked_none, checked_nowhere, checked_on, checked_through}}
use Rattle.block_queue.proofs.queue.CommandQueue.place_of.Goals as goal

pub loop-walked-init : goal.loop-walked-init
loop-walked-init c = checked_none (awaits c.args.self.now c.args.number) c.self.inside.busy
    (λ q low e. awaits_not c.args.self.now c.self.inside.busy c.args.number q
    (subst (λ l. IsWatched l c.self.inside.busy) c.self.view_is c.self.invariant.watched) low e)

pub returns-in_default-clause-value : goal.returns-in_default-clause-value
returns-in_default-clause-value c = sym (checked_nowhere (awaits c.args.self.now c.args.number) c.loop-walked.rest c.loop-walked._walked
    c.loop-walked.invariant c.in_default.ensures.none)

pub returns-then-awaits-clause-value : goal.returns-then-awaits-clause-value
returns-then-awaits-clause-value c = sym (first_found (awaits c.args.self.now c.args.number) 33 c.in-Some.place
    c.in-Some.ensures.some.below
    (before_first (awaits c.args.self.now c.args.number) c.loop-walked.rest c.loop-walked._walked c.in-Some.place c.loop-walked.invariant c.in-Some.ensures.some)
    (sym c.awaits.ensures ∙ c.if-awaits.true))

pub loop-walked-preserved : goal.loop-walked-preserved
loop-walked-preserved c = checked_on (awaits c.args.self.now c.args.number) c.loop-walked.rest c.without-rest.result c.loop-walked._walked
    c.in-Some.place c.loop-walked.invariant c.in-Some.ensures.some (sym c.awaits.ensures ∙ c.if-awaits.false) c.without-rest.ensures

pub returns-clause-value : goal.returns-clause-value
returns-clause-value c = sym (checked_through (awaits c.args.self.now c.args.number) c.loop-walked.rest c.loop-walked._walked
    c.loop-walked-test.false c.loop-walked.invariant)
