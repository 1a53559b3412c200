use Rattle.std.proofs.Common.{arith, sym, ◌∙◌, below_more}
use Rattle.hba_fbs.specs.Offering.{is_bad_by}
use Rattle.hba_fbs.proofs.AnyLemmas.{any_found, any_none}
use Rattle.hba_fbs.proofs.issue.any_bad.Goals as goal

pub returns-then-is_bad : goal.returns-then-is_bad
returns-then-is_bad g c = sym (any_found c.args.value (is_bad_by (g.O.Offers.offer c.args.offers.now)) c.loop-slot.slot c.loop-slot-test.true (sym c.is_bad.ensures ∙ c.if-is_bad.true) c.loop-slot.invariant)

pub loop-slot-preserved : goal.loop-slot-preserved
loop-slot-preserved g c = below_more _ _ c.loop-slot.invariant (sym c.is_bad.ensures ∙ c.if-is_bad.false)

pub returns : goal.returns
returns g c = sym (any_none c.args.value (is_bad_by (g.O.Offers.offer c.args.offers.now)) (λ k below. c.loop-slot.invariant k (omega arith)))
