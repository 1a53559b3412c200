use Rattle.std.proofs.Common.{below_more, arith, sym, ap, ◌∙◌}
use Rattle.std.specs.Prelude.{not}
use Rattle.block_queue.specs.Saved.{is_broken, line_of}
use Rattle.block_queue.proofs.Kept.{any_found, any_none}
use Rattle.block_queue.proofs.queue.saved.are_in_order.Goals as goal

pub returns-then-is_broken : goal.returns-then-is_broken
returns-then-is_broken c = sym (ap not (any_found (is_broken (line_of c.args.requests.now c.args.ranks.now c.args.orphans.now)) 33
    c.loop-place.place c.loop-place-test.true (sym c.is_broken.ensures ∙ c.if-is_broken.true)))

pub loop-place-preserved : goal.loop-place-preserved
loop-place-preserved c = below_more _ _ c.loop-place.invariant (sym c.is_broken.ensures ∙ c.if-is_broken.false)

pub returns : goal.returns
returns c = sym (ap not (any_none (is_broken (line_of c.args.requests.now c.args.ranks.now c.args.orphans.now)) 33
    (λ q low. c.loop-place.invariant q (let end = c.loop-place-test.false in omega (arith, low, end)))))
