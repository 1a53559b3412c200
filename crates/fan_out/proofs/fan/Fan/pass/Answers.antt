use Rattle.std.proofs.Common.{refl, sym, ◌∙◌}
use Rattle.multiplier.specs.Passing.{FromHost, made_by}
use Rattle.fan_out.proofs.FanLemmas.{through}
use Rattle.fan_out.proofs.fan.Fan.pass.Goals as goal

pub invariant_of-self : goal.invariant_of-self
invariant_of-self c = (
  c.self.invariant.0 ∙ sym c.from_host.ensures.ports.count,
  through _ c.from_host.new.self (FromHost c.args.frame c.from_host.result (made_by c.from_host.result c.from_host.new.self)) c.self.invariant.1 tt (c.from_host.ensures.rule, refl) c.from_host.ensures.ports,
)
