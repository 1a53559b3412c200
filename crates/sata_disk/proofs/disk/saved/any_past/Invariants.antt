use Rattle.std.proofs.Common.{◌≡◌, false}
use Rattle.block_queue.specs.Line.{any_below}
use Rattle.sata_disk.specs.Saved.{is_past_at}
use Rattle.sata_disk.proofs.disk.saved.any_past.Given as goal

abbrev pub invariant-loop-place : goal.invariant-loop-place
invariant-loop-place l = any_below (is_past_at l.sectors l.engine) l.place ≡ false
