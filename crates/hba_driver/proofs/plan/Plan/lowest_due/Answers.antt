use Rattle.std.proofs.Common.{arith, sym, ◌∙◌, below_more}
use Rattle.slots.proofs.Door.{lowest_found, lowest_none}
use Rattle.hba_driver.specs.Turns.{is_due}
use Rattle.hba_driver.proofs.plan.Plan.lowest_due.Goals as goal

pub returns-then-is_due-clause-value : goal.returns-then-is_due-clause-value
returns-then-is_due-clause-value c = sym (lowest_found (is_due c.args.sight.now c.args.self) 15 c.loop-dev.dev c.loop-dev-test.true (sym c.is_due.ensures ∙ c.if-is_due.true) c.loop-dev.invariant)

pub loop-dev-preserved : goal.loop-dev-preserved
loop-dev-preserved c = below_more _ _ c.loop-dev.invariant (sym c.is_due.ensures ∙ c.if-is_due.false)

pub returns-clause-value : goal.returns-clause-value
returns-clause-value c = sym (lowest_none (is_due c.args.sight.now c.args.self) 15 (λ k below. c.loop-dev.invariant k (omega arith)))
