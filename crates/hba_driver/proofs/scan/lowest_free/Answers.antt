use Rattle.std.proofs.Common.{arith, sym, ◌∙◌, below_more}
use Rattle.slots.proofs.Door.{lowest_found, lowest_none}
use Rattle.hba_driver.specs.{Drivers.entry_at, Requests.{is_free, lowest_free}}
use Rattle.hba_driver.proofs.scan.lowest_free.Goals as goal

pub returns-then-is_free-clause-value : goal.returns-then-is_free-clause-value
unfolding lowest_free
returns-then-is_free-clause-value c = sym (lowest_found (λ k. is_free (entry_at c.args.slots.now k)) 30 c.loop-slot.slot c.loop-slot-test.true (sym c.is_free.ensures ∙ c.if-is_free.true) c.loop-slot.invariant)

pub loop-slot-preserved : goal.loop-slot-preserved
loop-slot-preserved c = below_more _ _ c.loop-slot.invariant (sym c.is_free.ensures ∙ c.if-is_free.false)

pub returns-clause-value : goal.returns-clause-value
unfolding lowest_free
returns-clause-value c = sym (lowest_none (λ k. is_free (entry_at c.args.slots.now k)) 30 (λ k below. c.loop-slot.invariant k (omega arith)))
