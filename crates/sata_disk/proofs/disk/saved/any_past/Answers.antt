use Rattle.std.proofs.Common.{◌∙◌, sym}
use Rattle.block_queue.proofs.Door.{any_found}
use Rattle.sata_disk.specs.Saved.{is_past_at}
use Rattle.sata_disk.proofs.First.{any_first, any_more}
use Rattle.sata_disk.proofs.disk.saved.any_past.Goals as goal

pub loop-place-init : goal.loop-place-init
loop-place-init c = any_first (is_past_at c.args.sectors c.args.engine.now)

pub loop-place-preserved : goal.loop-place-preserved
loop-place-preserved c = any_more (is_past_at c.args.sectors c.args.engine.now) c.loop-place.place c.loop-place.invariant (sym c.is_past.ensures ∙ c.if-is_past.false)

pub returns-then-is_past : goal.returns-then-is_past
returns-then-is_past c = sym (any_found (is_past_at c.args.sectors c.args.engine.now) 33 c.loop-place.place c.loop-place-test.true
    (sym c.is_past.ensures ∙ c.if-is_past.true))
