use Rattle.std.proofs.Common.{arith, sym, ◌∙◌, below_more}
use Rattle.slots.proofs.Door.{lowest_found, lowest_none}
use Rattle.hba_driver.specs.{Drivers.{device_at, entry_at}, Turns.{is_ready, may_issue}}
use Rattle.hba_driver.proofs.calls.MaskLemmas.{not_waiting}
use Rattle.hba_driver.proofs.scan.lowest_due.Goals as goal

pub returns-then-none_waits-clause-value : goal.returns-then-none_waits-clause-value
returns-then-none_waits-clause-value c = sym (lowest_none (λ k. may_issue c.args.plan.now (entry_at c.args.slots.now k)) 30 (λ k below. not_waiting (λ head. is_ready (device_at c.args.plan.now head.dev)) _ ((c.none_waits.ensures c.if-none_waits.true).none k (omega arith))))

pub returns-then-may_issue-clause-value : goal.returns-then-may_issue-clause-value
returns-then-may_issue-clause-value c = sym (lowest_found (λ k. may_issue c.args.plan.now (entry_at c.args.slots.now k)) 30 c.loop-slot.slot c.loop-slot-test.true (sym c.may_issue.ensures ∙ c.if-may_issue.true) c.loop-slot.invariant)

pub loop-slot-preserved : goal.loop-slot-preserved
loop-slot-preserved c = below_more _ _ c.loop-slot.invariant (sym c.may_issue.ensures ∙ c.if-may_issue.false)

pub returns-clause-value : goal.returns-clause-value
returns-clause-value c = sym (lowest_none (λ k. may_issue c.args.plan.now (entry_at c.args.slots.now k)) 30 (λ k below. c.loop-slot.invariant k (omega arith)))
