use Rattle.std.proofs.Common.{◌≡◌, ◌<◌, sym, ap, ◌∙◌, arith}
use Rattle.fan_out.specs.Fans.{FanState, seat_at}
use Rattle.fan_out.proofs.FanLemmas.{offers_fan}
use Rattle.fan_out.proofs.fan.Fan.offer.Goals as goal

pub invariant_of-self : goal.invariant_of-self
invariant_of-self c =
    let f : FanState = record { multiplier = c.self.inside.multiplier; legacy = c.self.inside.legacy; seats = c.self.inside.seats } in
    let count : f.multiplier.registers.ports ≡ c.args.self.now.multiplier.registers.ports = ap (λ (g : FanState). g.multiplier.registers.ports) c.self.view_is in
    let less : c.args.n < f.multiplier.registers.ports = omega (arith, c.requires, count) in
    let seat : c.seat-seat.result ≡ seat_at f c.args.n = c.seat-seat.ensures ∙ sym (ap (λ (g : FanState). seat_at g c.args.n) c.self.view_is) in (
      c.self.invariant.0 ∙ sym c.from_device.ensures.ports.count,
      offers_fan f c.args.n c.from.result c.sent_from.result c.in-Ok-Held.field-0 c.from_device.new.self c.seat-seat.result c.after_sent.result c.self.invariant.1 less c.from.ensures seat
          c.in-Ok-Held.field-0-is c.in-Ok-Held.ensures.rule c.after_sent.ensures,
    )
