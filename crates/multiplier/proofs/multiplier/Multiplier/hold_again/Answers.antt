use Rattle.std.proofs.Common.{ap, ◌∙◌, arith}
use Rattle.pm_ports.specs.Port.{PortState}
use Rattle.multiplier.proofs.Lent.{lent_is, lent_small, up_back, up_back_sound}
use Rattle.multiplier.proofs.multiplier.Multiplier.hold_again.Goals as goal

pub put_back_up-requires : goal.put_back_up-requires
put_back_up-requires c =
    let lent = lent_small _ _ _ c.from.result _ c.self.view_is c.self.invariant c.requires.0 (omega arith) c.index-self-from.is in
    ap (λ (p : PortState). p.up) (lent_is _ _ _ _ _ c.index-self-from.result lent) ∙ c.requires.2

pub invariant_of-self : goal.invariant_of-self
invariant_of-self c =
    let lent = lent_small _ _ _ c.from.result _ c.self.view_is c.self.invariant c.requires.0 (omega arith) c.index-self-from.is in
    up_back_sound _ _ _ _ _ c.put_back_up.new.self lent _ _ c.put_back_up.ensures c.set_pm_port.ensures.marked c.requires.3 c.requires.4

pub returns : goal.returns
returns c =
    let lent = lent_small _ _ _ c.from.result _ c.self.view_is c.self.invariant c.requires.0 (omega arith) c.index-self-from.is in
    up_back _ _ _ _ _ c.put_back_up.new.self lent _ _ c.put_back_up.ensures c.set_pm_port.ensures.marked
