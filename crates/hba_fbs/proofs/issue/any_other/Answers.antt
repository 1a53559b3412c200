use Rattle.std.proofs.Common.{arith, sym, ◌∙◌, below_more}
use Rattle.hba_fbs.specs.Offering.{names_other_by}
use Rattle.hba_fbs.proofs.AnyLemmas.{any_found, any_none}
use Rattle.hba_fbs.proofs.issue.any_other.Goals as goal

pub returns-then-names_other : goal.returns-then-names_other
returns-then-names_other g c = sym (any_found c.args.value (names_other_by (g.O.Offers.offer c.args.offers.now) c.args.dev) c.loop-slot.slot c.loop-slot-test.true (sym c.names_other.ensures ∙ c.if-names_other.true) c.loop-slot.invariant)

pub loop-slot-preserved : goal.loop-slot-preserved
loop-slot-preserved g c = below_more _ _ c.loop-slot.invariant (sym c.names_other.ensures ∙ c.if-names_other.false)

pub returns : goal.returns
returns g c = sym (any_none c.args.value (names_other_by (g.O.Offers.offer c.args.offers.now) c.args.dev) (λ k below. c.loop-slot.invariant k (omega arith)))
