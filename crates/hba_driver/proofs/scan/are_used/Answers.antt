use Rattle.std.proofs.Common.{arith, sym, ◌∙◌, below_more}
use Rattle.hba_driver.specs.Requests.{is_used_by}
use Rattle.hba_driver.proofs.calls.ScanLemmas.{none_passes, one_passes}
use Rattle.hba_driver.proofs.scan.are_used.Goals as goal

pub returns-then-is_used : goal.returns-then-is_used
returns-then-is_used c = sym (one_passes (is_used_by c.args.at c.args.len) c.args.slots.now c.loop-slot.slot c.keep_count.ensures c.loop-slot-test.true (sym c.is_used.ensures ∙ c.if-is_used.true))

pub loop-slot-preserved : goal.loop-slot-preserved
loop-slot-preserved c = below_more _ _ c.loop-slot.invariant (sym c.is_used.ensures ∙ c.if-is_used.false)

pub returns : goal.returns
returns c = sym (none_passes (is_used_by c.args.at c.args.len) c.args.slots.now c.keep_count.ensures (λ k below. c.loop-slot.invariant k (omega arith)))
