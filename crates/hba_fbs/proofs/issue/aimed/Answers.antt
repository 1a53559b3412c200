use Rattle.std.proofs.Common.{arith, sym, ◌∙◌}
use Rattle.hba_fbs.proofs.AimLemmas.{aimed_first_by, aimed_none_by}
use Rattle.hba_fbs.proofs.issue.aimed.Goals as goal

pub returns-then-is_set-clause-is : goal.returns-then-is_set-clause-is
returns-then-is_set-clause-is g c =
    c.named.ensures.is
    ∙ sym (aimed_first_by c.args.registers (g.O.Offers.offer c.args.offers.now) c.args.value c.loop-slot.slot c.if-registers.false c.loop-slot-test.true (sym c.is_set.ensures ∙ c.if-is_set.true) c.loop-slot.invariant)

pub returns-clause-is : goal.returns-clause-is
returns-clause-is g c = sym (aimed_none_by c.args.registers (g.O.Offers.offer c.args.offers.now) c.args.value c.if-registers.false (λ k below. c.loop-slot.invariant k (omega arith)))
