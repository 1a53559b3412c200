use Rattle.std.proofs.Common.{arith, sym, ◌∙◌, below_more}
use Rattle.hba_fbs.specs.Issuing.{is_busy}
use Rattle.hba_fbs.proofs.AnyLemmas.{any_found, any_none}
use Rattle.hba_fbs.proofs.issue.any_busy.Goals as goal

pub returns-then-is_busy : goal.returns-then-is_busy
returns-then-is_busy c = sym (any_found c.args.value (is_busy c.args.slots.now) c.loop-slot.slot c.loop-slot-test.true (sym c.is_busy.ensures ∙ c.if-is_busy.true) c.loop-slot.invariant)

pub loop-slot-preserved : goal.loop-slot-preserved
loop-slot-preserved c = below_more _ _ c.loop-slot.invariant (sym c.is_busy.ensures ∙ c.if-is_busy.false)

pub returns : goal.returns
returns c = sym (any_none c.args.value (is_busy c.args.slots.now) (λ k below. c.loop-slot.invariant k (omega arith)))
