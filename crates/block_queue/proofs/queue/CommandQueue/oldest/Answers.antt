use Rattle.std.proofs.Common.{ap, ◌∙◌}
use Rattle.block_queue.specs.{Line.has_bit, Places.older}
use Rattle.block_queue.proofs.Oldest.{best_none, best_some, walked_all, walked_below, walked_end, walked_none, walked_on}
use Rattle.block_queue.proofs.queue.CommandQueue.oldest.Goals as goal

pub loop-walked-init : goal.loop-walked-init
loop-walked-init c = walked_none c.args.self.now.ranks c.args.set

pub returns-in_default-clause-some : goal.returns-in_default-clause-some
returns-in_default-clause-some c = best_some c.args.self.now.ranks (has_bit c.args.set) c.loop-walked.oldest
    (walked_end c.args.self.now.ranks c.args.set c.loop-walked.rest c.loop-walked._walked c.loop-walked.oldest c.loop-walked.invariant c.in_default.ensures.none)

pub returns-in_default-clause-none : goal.returns-in_default-clause-none
returns-in_default-clause-none c = best_none c.args.self.now.ranks (has_bit c.args.set) c.loop-walked.oldest
    (walked_end c.args.self.now.ranks c.args.set c.loop-walked.rest c.loop-walked._walked c.loop-walked.oldest c.loop-walked.invariant c.in_default.ensures.none)

pub older-requires-clause-found : goal.older-requires-clause-found
older-requires-clause-found c =
    walked_below c.args.self.now.ranks c.args.set c.loop-walked.rest c.loop-walked._walked c.loop-walked.oldest c.loop-walked.invariant

pub loop-walked-preserved : goal.loop-walked-preserved
loop-walked-preserved c = rw (c.older.ensures ∙ ap (λ l. older l.ranks c.loop-walked.oldest c.in-Some.place) c.self.view_is) (walked_on c.args.self.now.ranks c.args.set c.loop-walked.rest c.without-rest.result
    c.loop-walked._walked c.in-Some.place c.loop-walked.oldest c.loop-walked.invariant c.in-Some.ensures.some c.without-rest.ensures)

pub returns-clause-some : goal.returns-clause-some
returns-clause-some c = best_some c.args.self.now.ranks (has_bit c.args.set) c.loop-walked.oldest
    (walked_all c.args.self.now.ranks c.args.set c.loop-walked.rest c.loop-walked._walked c.loop-walked.oldest c.loop-walked-test.false c.loop-walked.invariant)

pub returns-clause-none : goal.returns-clause-none
returns-clause-none c = best_none c.args.self.now.ranks (has_bit c.args.set) c.loop-walked.oldest
    (walked_all c.args.self.now.ranks c.args.set c.loop-walked.rest c.loop-walked._walked c.loop-walked.oldest c.loop-walked-test.false c.loop-walked.invariant)
