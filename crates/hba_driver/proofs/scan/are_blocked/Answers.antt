use Rattle.std.proofs.Common.{arith, sym, ◌∙◌, below_more}
use Rattle.hba_driver.specs.{Drivers.holds, Requests.blocks}
use Rattle.hba_driver.proofs.calls.ScanLemmas.{none_passes, one_passes}
use Rattle.hba_driver.proofs.scan.are_blocked.Goals as goal

pub returns-then-blocks : goal.returns-then-blocks
returns-then-blocks c = sym (one_passes (holds (blocks c.args.dev c.args.work)) c.args.slots.now c.loop-slot.slot c.keep_count.ensures c.loop-slot-test.true (sym c.blocks-in-loop-slot.ensures ∙ c.if-blocks.true))

pub loop-slot-preserved : goal.loop-slot-preserved
loop-slot-preserved c = below_more _ _ c.loop-slot.invariant (sym c.blocks-in-loop-slot.ensures ∙ c.if-blocks.false)

pub returns : goal.returns
returns c = sym (none_passes (holds (blocks c.args.dev c.args.work)) c.args.slots.now c.keep_count.ensures (λ k below. c.loop-slot.invariant k (omega arith)))
