use Rattle.std.proofs.Common.{arith, ap, sym, ◌∙◌, below_more, List}
use Rattle.host_memory.specs.declared.table.Prd.{Prd}
use Rattle.hba_driver.specs.{Drivers.entry_at, Requests.conflicts}
use Rattle.hba_driver.proofs.calls.ScanLemmas.{none_passes, one_passes}
use Rattle.hba_driver.proofs.scan.have_conflict.Goals as goal

pub returns-then-conflicts : goal.returns-then-conflicts
returns-then-conflicts c = sym (one_passes (conflicts c.args.work c.args.prds.now) c.args.slots.now c.loop-slot.slot c.keep_count.ensures c.loop-slot-test.true (ap (λ (prds : List Prd). conflicts c.args.work prds (entry_at c.args.slots.now c.loop-slot.slot)) (sym c.of-buffers.ensures) ∙ sym c.conflicts.ensures ∙ c.if-conflicts.true))

pub loop-slot-preserved : goal.loop-slot-preserved
loop-slot-preserved c = below_more _ _ c.loop-slot.invariant (ap (λ (prds : List Prd). conflicts c.args.work prds (entry_at c.args.slots.now c.loop-slot.slot)) (sym c.of-buffers.ensures) ∙ sym c.conflicts.ensures ∙ c.if-conflicts.false)

pub returns : goal.returns
returns c = sym (none_passes (conflicts c.args.work c.args.prds.now) c.args.slots.now c.keep_count.ensures (λ k below. c.loop-slot.invariant k (omega arith)))
