use Rattle.std.proofs.Common.{◌≡◌, ◌<◌, sym, ap, ◌∙◌, arith}
use Rattle.multiplier.specs.State.{PmState}
use Rattle.fan_out.specs.Fans.{FanState}
use Rattle.fan_out.proofs.FanLemmas.{joins_fan}
use Rattle.fan_out.proofs.fan.Fan.join.Goals as goal

pub invariant_of-self : goal.invariant_of-self
invariant_of-self c =
    let f : FanState = record { multiplier = c.self.inside.multiplier; legacy = c.self.inside.legacy; seats = c.self.inside.seats } in
    let count : f.multiplier.registers.ports ≡ c.args.self.now.multiplier.registers.ports = ap (λ (g : FanState). g.multiplier.registers.ports) c.self.view_is in
    let less : c.args.n < f.multiplier.registers.ports = omega (arith, c.requires, count) in
    let came = c.in-Ok.ensures in (
      c.self.invariant.0 ∙ sym (ap (λ (m : PmState). m.registers.ports) came.1),
      joins_fan f c.args.n c.from.result c.args.conn c.came.new.self c.of.result c.self.invariant.1 less c.from.ensures came.0 came.1 c.of.ensures,
    )
