use Rattle.std.proofs.Common.{◌≡◌, ◌<◌, ◌≤◌, ap, arith}
use Rattle.multiplier.specs.{contracts.multiplier.Multiplier.the_view, State.PmState}
use Rattle.multiplier.proofs.Sound.{left_sound}
use Rattle.multiplier.proofs.multiplier.Multiplier.gone.Goals as goal

pub invariant_of-self-2 : goal.invariant_of-self-2
invariant_of-self-2 c =
    let most : c.self.inside.registers.ports ≤ 15 = c.self.invariant.registers.ports in
    let same : c.self.inside.registers.ports ≡ c.args.self.now.registers.ports = ap (λ (pm : PmState). pm.registers.ports) c.self.view_is in
    let small : c.args.n < 15 = omega arith in
    left_sound (the_view c.self.inside) c.args.n c.from-2.result c.args.conn c.dropped_after-self-inside.result c.index-self-from-2.result c.gone.new.self c.remove.new.self
    c.self.invariant (omega arith) small c.index-self-from-2.is c.in_ok-gone.ensures.refusal c.in_ok-gone.ensures.after c.remove.ensures
