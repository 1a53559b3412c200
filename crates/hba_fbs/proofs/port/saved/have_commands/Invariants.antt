use Rattle.std.proofs.Common.{◌≡◌, ℕ, ◌<◌, false}
use Rattle.hba_fbs.specs.Saved.{lacks_command}
use Rattle.hba_fbs.proofs.port.saved.have_commands.Given as goal

-- none lacks its command so far
abbrev pub invariant-loop-slot : goal.invariant-loop-slot
invariant-loop-slot l = (k : ℕ) → k < l.slot → lacks_command l.slots l.commands k ≡ false
