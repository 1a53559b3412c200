use Rattle.std.proofs.Common.{below_more, arith, sym, ◌∙◌}
use Rattle.block_queue.specs.{Line.waits_for, Saved.line_of}
use Rattle.block_queue.proofs.Kept.{any_found, any_none}
use Rattle.block_queue.proofs.queue.must_wait.Goals as goal

pub returns-then-waits_for : goal.returns-then-waits_for
returns-then-waits_for c = sym (any_found (waits_for (line_of c.args.requests.now c.args.ranks.now c.args.orphans.now) c.args.command c.args.place)
    33 c.loop-other.other c.loop-other-test.true (sym c.waits_for.ensures ∙ c.if-waits_for.true))

pub loop-other-preserved : goal.loop-other-preserved
loop-other-preserved c = below_more _ _ c.loop-other.invariant (sym c.waits_for.ensures ∙ c.if-waits_for.false)

pub returns : goal.returns
returns c = sym (any_none (waits_for (line_of c.args.requests.now c.args.ranks.now c.args.orphans.now) c.args.command c.args.place) 33
    (λ q low. c.loop-other.invariant q (let end = c.loop-other-test.false in omega (arith, low, end))))
