use Rattle.std.proofs.Common.{arith, sym, ◌∙◌, below_more}
use Rattle.hba_driver.specs.{Drivers.holds, Turns.is_issued_of_other}
use Rattle.hba_driver.proofs.calls.ScanLemmas.{none_passes, one_passes}
use Rattle.hba_driver.proofs.scan.has_issued_other.Goals as goal

pub returns-then-is_issued_of_other : goal.returns-then-is_issued_of_other
returns-then-is_issued_of_other c = sym (one_passes (holds (is_issued_of_other c.args.dev)) c.args.slots.now c.loop-slot.slot c.keep_count.ensures c.loop-slot-test.true (sym c.is_issued_of_other.ensures ∙ c.if-is_issued_of_other.true))

pub loop-slot-preserved : goal.loop-slot-preserved
loop-slot-preserved c = below_more _ _ c.loop-slot.invariant (sym c.is_issued_of_other.ensures ∙ c.if-is_issued_of_other.false)

pub returns : goal.returns
returns c = sym (none_passes (holds (is_issued_of_other c.args.dev)) c.args.slots.now c.keep_count.ensures (λ k below. c.loop-slot.invariant k (omega arith)))
