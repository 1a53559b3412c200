use Rattle.std.proofs.Common.{ap, refl, sym, ◌∙◌, arith}
use Rattle.pm_ports.specs.Port.{PortState}
use Rattle.multiplier.proofs.Lent.{down_back, down_back_sound, lent_is, lent_small, same_sound}
use Rattle.multiplier.proofs.multiplier.Multiplier.to_device.Goals as goal

pub invariant_of-self : goal.invariant_of-self
invariant_of-self c =
    let lent = lent_small _ _ _ c.from.result _ c.self.view_is c.self.invariant c.requires.there (omega arith) c.index-self-from.is in
    same_sound _ _ _ _ _ _ lent refl

pub invariant_of-self-in-Ok : goal.invariant_of-self-in-Ok
invariant_of-self-in-Ok c =
    let lent = lent_small _ _ _ c.from.result _ c.self.view_is c.self.invariant c.requires.there (omega arith) c.index-self-from.is in
    down_back_sound _ _ _ _ _ c.put_down.new.self lent _ _ c.in-Ok.ensures.1 c.falling.ensures c.requires.present

pub returns : goal.returns
returns c =
    let lent = lent_small _ _ _ c.from.result _ c.self.view_is c.self.invariant c.requires.there (omega arith) c.index-self-from.is in (
      refl,
      ap (λ (p : PortState). p.down) (sym (lent_is _ _ _ _ _ c.put_down.new.self lent)) ∙ c.in-Ok.ensures.0,
      down_back _ _ _ _ _ c.put_down.new.self lent _ _ c.in-Ok.ensures.1 c.falling.ensures,
    )
