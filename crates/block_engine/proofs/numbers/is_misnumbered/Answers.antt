use Rattle.std.proofs.Common.{below_more, arith, sym, ap, ◌∙◌}
use Rattle.std.specs.Prelude.{◌||◌, nat_le}
use Rattle.block_queue.proofs.Door.{any_found, any_none}
use Rattle.block_engine.specs.Numbers.{has_number, misnumbered, number_of}
use Rattle.block_engine.proofs.numbers.is_misnumbered.Goals as goal

pub returns-in_default : goal.returns-in_default
returns-in_default c = sym (ap (misnumbered c.args.scheduler.now.line c.args.stage c.args.dropped c.args.index)
    (sym (c.number_of.ensures ∙ ap (number_of c.args.scheduler.now.line c.args.stage c.args.dropped) c.holder_at.ensures) ∙ c.in_default.is))

pub returns-then-has_number : goal.returns-then-has_number
returns-then-has_number c = sym (ap (misnumbered c.args.scheduler.now.line c.args.stage c.args.dropped c.args.index)
    (sym (c.number_of.ensures ∙ ap (number_of c.args.scheduler.now.line c.args.stage c.args.dropped) c.holder_at.ensures) ∙ c.in-Some.is)
    ∙ ap (λ b. b || nat_le c.args.scheduler.now.line.queue.next c.in-Some.number)
    (any_found (has_number c.args.scheduler.now.line c.args.stage c.args.dropped c.args.index c.in-Some.number) 68
    c.loop-other.other c.loop-other-test.true (sym c.has_number.ensures ∙ c.if-has_number.true)))

pub loop-other-preserved : goal.loop-other-preserved
loop-other-preserved c = below_more _ _ c.loop-other.invariant (sym c.has_number.ensures ∙ c.if-has_number.false)

pub returns : goal.returns
returns c = ap (λ k. nat_le k c.in-Some.number) c.next_number.ensures
    ∙ sym (ap (misnumbered c.args.scheduler.now.line c.args.stage c.args.dropped c.args.index)
    (sym (c.number_of.ensures ∙ ap (number_of c.args.scheduler.now.line c.args.stage c.args.dropped) c.holder_at.ensures) ∙ c.in-Some.is)
    ∙ ap (λ b. b || nat_le c.args.scheduler.now.line.queue.next c.in-Some.number)
    (any_none (has_number c.args.scheduler.now.line c.args.stage c.args.dropped c.args.index c.in-Some.number) 68
    (λ q low. c.loop-other.invariant q (let end = c.loop-other-test.false in omega (arith, low, end)))))
