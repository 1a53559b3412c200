use Rattle.std.proofs.Common.{◌≡◌}
use Rattle.fan_out.specs.Fans.{all_joined}
use Rattle.fan_out.proofs.fan.Fan.join_all.Given as goal

abbrev pub invariant-loop-n : goal.invariant-loop-n
invariant-loop-n l = (l.self ≡ all_joined l.seats l.n l.fn.self) × (l.self.multiplier.registers.ports ≡ l.fn.self.multiplier.registers.ports)
