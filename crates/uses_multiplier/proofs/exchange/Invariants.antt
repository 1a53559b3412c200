use Rattle.std.proofs.Common.{◌≡◌}
use Rattle.uses_multiplier.proofs.exchange.Given as goal

abbrev pub invariant-loop-number : goal.invariant-loop-number
invariant-loop-number l = l.pm.registers.ports ≡ l.fn.pm.registers.ports
