use Rattle.std.proofs.Common.{◌≡◌, take}
use Rattle.slots.proofs.moved.saved.array_of.Given as goal

abbrev pub invariant-loop-stretch : goal.invariant-loop-stretch
invariant-loop-stretch l = l.kept.items ≡ take l.stretch-index l.stretches
