use Rattle.std.proofs.Common.{drop}
use Rattle.slots.specs.Stretches.{AreApart}
use Rattle.slots.proofs.moved.saved.are_apart.Given as goal

-- they lie apart exactly where what is left does, from the dword behind the last gap on
abbrev pub invariant-loop-stretch : goal.invariant-loop-stretch
invariant-loop-stretch l = record {
  to : AreApart 0 l.dwords l.stretches → AreApart l.low l.dwords (drop l.stretch-index l.stretches);
  from : AreApart l.low l.dwords (drop l.stretch-index l.stretches) → AreApart 0 l.dwords l.stretches;
}
