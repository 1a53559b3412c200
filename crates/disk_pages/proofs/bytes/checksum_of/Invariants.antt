use Rattle.std.proofs.Common.{◌≡◌, ◌*◌, ◌≤◌, take}
use Rattle.std.specs.Prelude.{sum}
use Rattle.disk_pages.proofs.bytes.checksum_of.Given as goal

abbrev pub invariant-loop-byte : goal.invariant-loop-byte
invariant-loop-byte l = record { total : l.sum ≡ sum (take l.byte-index l.bytes); bound : l.sum ≤ 255 * l.byte-index }
