use Rattle.std.proofs.Common.{below_more, arith, sym, ap, ◌∙◌}
use Rattle.std.specs.Prelude.{not}
use Rattle.block_queue.proofs.Door.{any_found, any_none}
use Rattle.block_engine.specs.Numbers.{is_misnumbered}
use Rattle.block_engine.proofs.numbers.are_numbered.Goals as goal

pub returns-then-is_misnumbered : goal.returns-then-is_misnumbered
returns-then-is_misnumbered c = sym (ap not (any_found (is_misnumbered c.args.scheduler.now.line c.args.stage c.args.dropped) 68
    c.loop-index.index c.loop-index-test.true (sym c.is_misnumbered.ensures ∙ c.if-is_misnumbered.true)))

pub loop-index-preserved : goal.loop-index-preserved
loop-index-preserved c = below_more _ _ c.loop-index.invariant (sym c.is_misnumbered.ensures ∙ c.if-is_misnumbered.false)

pub returns : goal.returns
returns c = sym (ap not (any_none (is_misnumbered c.args.scheduler.now.line c.args.stage c.args.dropped) 68
    (λ q low. c.loop-index.invariant q (let end = c.loop-index-test.false in omega (arith, low, end)))))
