use Rattle.std.proofs.Common.{◌≡◌, ◌<◌, sym, ap, ◌∙◌, arith}
use Rattle.multiplier.specs.State.{PmState}
use Rattle.fan_out.specs.Fans.{FanState, seat_at}
use Rattle.fan_out.proofs.FanLemmas.{parts_fan}
use Rattle.fan_out.proofs.fan.Fan.part.Goals as goal

pub invariant_of-self : goal.invariant_of-self
invariant_of-self c =
    let f : FanState = record { multiplier = c.self.inside.multiplier; legacy = c.self.inside.legacy; seats = c.self.inside.seats } in
    let count : f.multiplier.registers.ports ≡ c.args.self.now.multiplier.registers.ports = ap (λ (g : FanState). g.multiplier.registers.ports) c.self.view_is in
    let less : c.args.n < f.multiplier.registers.ports = omega (arith, c.requires.there, count) in
    let seat : c.seat-seat.result ≡ seat_at f c.args.n = c.seat-seat.ensures ∙ sym (ap (λ (g : FanState). seat_at g c.args.n) c.self.view_is) in
    let gone = c.in-Ok.ensures in (
      c.self.invariant.0 ∙ sym (ap (λ (m : PmState). m.registers.ports) gone.1),
      parts_fan f c.args.n c.from.result c.gone.new.self c.seat-seat.result c.left.result c.self.invariant.1 less c.from.ensures seat gone.0 gone.1 c.left.ensures,
    )
