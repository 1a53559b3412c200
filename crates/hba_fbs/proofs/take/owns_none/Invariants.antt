use Rattle.std.proofs.Common.{◌≡◌, ℕ, ◌<◌, false}
use Rattle.std.specs.Option.{is_some}
use Rattle.slots.specs.Slots.{own_issue, slots_of}
use Rattle.hba_fbs.proofs.take.owns_none.Given as goal

-- none so far
abbrev pub invariant-loop-slot : goal.invariant-loop-slot
invariant-loop-slot l = (k : ℕ) → k < l.slot → is_some (own_issue (slots_of l.dev l.slots) k) ≡ false
