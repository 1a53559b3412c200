use Rattle.std.proofs.Common.{◌≡◌, ◌<◌, ◌^◌}
use Rattle.block_engine.specs.Engine.{line}
use Rattle.sata_disk.specs.State.{tags_below}
use Rattle.sata_disk.proofs.hearing.tags_of.Given as goal

abbrev pub invariant-loop-tag : goal.invariant-loop-tag
invariant-loop-tag l = record { is : l.tags ≡ tags_below (line l.engine) l.tag; below : l.tags < 2 ^ l.tag }
