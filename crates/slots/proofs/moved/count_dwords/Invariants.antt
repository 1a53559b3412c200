use Rattle.std.proofs.Common.{◌≡◌, ◌+◌, drop}
use Rattle.slots.specs.Stretches.{AreApart, dwords_of}
use Rattle.slots.proofs.moved.count_dwords.Given as goal

-- the dwords so far and those of what is left, which lies apart, make up the whole
abbrev pub invariant-loop-stretch : goal.invariant-loop-stretch
invariant-loop-stretch l = record {
  whole : l.dwords + dwords_of (drop l.stretch-index l.stretches) ≡ dwords_of l.stretches;
  apart : AreApart 0 8388608 (drop l.stretch-index l.stretches);
}
