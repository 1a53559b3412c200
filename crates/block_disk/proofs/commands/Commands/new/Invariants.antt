use Rattle.std.proofs.Common.{◌≡◌, replicate, None}
use Rattle.block_disk.proofs.commands.Commands.new.Given as goal

abbrev pub invariant-loop : goal.invariant-loop
invariant-loop l = l.by_place.items ≡ replicate l.counter None
