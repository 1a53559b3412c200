use Rattle.std.proofs.Common.{◌≡◌, map, length}
use Rattle.std.specs.List.{range_with_len}
use Rattle.disk_model.specs.Disks.{opening_byte}
use Rattle.disk_model.proofs.disk.new_medium.Given as goal

abbrev pub invariant-loop-at : goal.invariant-loop-at
invariant-loop-at l = record { items : l.medium.items ≡ map opening_byte (range_with_len 0 l.at); len : length l.medium.items ≡ l.at }
