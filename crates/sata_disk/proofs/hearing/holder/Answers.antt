use Rattle.std.proofs.Common.{◌∙◌, sym}
use Rattle.block_engine.specs.Engine.{line}
use Rattle.sata_disk.specs.State.{has_link}
use Rattle.sata_disk.proofs.First.{first_found, first_more, first_none}
use Rattle.sata_disk.proofs.hearing.holder.Goals as goal

pub loop-tag-init : goal.loop-tag-init
loop-tag-init c = sym (first_none (has_link (line c.args.engine.now)))

pub loop-tag-preserved : goal.loop-tag-preserved
loop-tag-preserved c = first_more (has_link (line c.args.engine.now)) c.loop-tag.tag c.loop-tag.invariant (sym c.has_link.ensures ∙ c.if-has_link.false)

pub returns-then-has_link-clause-value : goal.returns-then-has_link-clause-value
returns-then-has_link-clause-value c = sym (first_found (has_link (line c.args.engine.now)) 32 c.loop-tag.tag c.loop-tag-test.true
    c.loop-tag.invariant (sym c.has_link.ensures ∙ c.if-has_link.true))
