use Rattle.std.proofs.Common.{◌≡◌, ◌++◌, drop}
use Rattle.slots.specs.Stretches.{merged_with}
use Rattle.slots.proofs.MergeLemmas.{left_of}
use Rattle.slots.proofs.moved.merge.Given as goal

-- what is kept, and what becomes of those that are left
abbrev pub invariant-loop-stretch : goal.invariant-loop-stretch
invariant-loop-stretch l = l.kept.items ++ left_of l.waiting (drop l.stretch-index l.stretches) ≡ merged_with l.fn.more l.stretches
