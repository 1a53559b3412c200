use Rattle.std.proofs.Common.{◌≡◌, ℕ, ◌<◌, false}
use Rattle.hba_fbs.specs.Sending.{is_due}
use Rattle.hba_fbs.proofs.sending.lowest_due.Given as goal

-- none so far
abbrev pub invariant-loop-dev : goal.invariant-loop-dev
invariant-loop-dev l = (k : ℕ) → k < l.dev → is_due l.slots l.errors k ≡ false
