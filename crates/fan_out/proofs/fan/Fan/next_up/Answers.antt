use Rattle.std.proofs.Common.{sym, ◌∙◌}
use Rattle.multiplier.specs.Passing.{NextUp}
use Rattle.fan_out.proofs.FanLemmas.{through}
use Rattle.fan_out.proofs.fan.Fan.next_up.Goals as goal

pub invariant_of-self : goal.invariant_of-self
invariant_of-self c = (
  c.self.invariant.0 ∙ sym c.next_up.ensures.ports.count,
  through _ c.next_up.new.self (NextUp c.next_up.result) c.self.invariant.1 tt c.next_up.ensures.up c.next_up.ensures.ports,
)
