use Rattle.std.proofs.Common.{◌≡◌, length, replicate, take, None}
use Rattle.block_disk.proofs.commands.Commands.clear.Given as goal

abbrev pub invariant-loop-place : goal.invariant-loop-place
invariant-loop-place l = record {
  long : length l.self-inside.by_place.items ≡ 33;
  cleared : take l.place l.self-inside.by_place.items ≡ replicate l.place None;
}
