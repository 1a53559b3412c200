use Rattle.std.proofs.Common.{◌≡◌, map, take}
use Rattle.sata_disk.specs.Hearing.{range_of}
use Rattle.sata_disk.proofs.trim.ranges.Given as goal

abbrev pub invariant-loop-extent : goal.invariant-loop-extent
invariant-loop-extent l = l.ranges.items ≡ map range_of (take l.extent-index l.extents)
