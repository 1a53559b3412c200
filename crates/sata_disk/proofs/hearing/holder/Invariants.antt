use Rattle.std.proofs.Common.{◌≡◌, None}
use Rattle.block_queue.specs.Line.{first_below}
use Rattle.block_engine.specs.Engine.{line}
use Rattle.sata_disk.specs.State.{has_link}
use Rattle.sata_disk.proofs.hearing.holder.Given as goal

abbrev pub invariant-loop-tag : goal.invariant-loop-tag
invariant-loop-tag l = first_below (has_link (line l.engine)) l.tag ≡ None
