use Rattle.std.proofs.Common.{◌≡◌, ℕ, ◌<◌, false, not}
use Rattle.slots.specs.Tested.{is_context_proper}
use Rattle.slots.proofs.table.saved.are_contexts_proper.Given as goal

-- none is improper so far
abbrev pub invariant-loop-dev : goal.invariant-loop-dev
invariant-loop-dev l = (k : ℕ) → k < l.dev → not (is_context_proper l.slots l.contexts k) ≡ false
