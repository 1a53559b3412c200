use Rattle.std.proofs.Common.{ap, refl, ◌∙◌, arith}
use Rattle.pm_ports.specs.Port.{PortState}
use Rattle.multiplier.proofs.Lent.{down_back, down_back_sound, lent_is, lent_small}
use Rattle.multiplier.proofs.multiplier.Multiplier.refill_down.Goals as goal

pub put_back_down-requires : goal.put_back_down-requires
put_back_down-requires c =
    let lent = lent_small _ _ _ c.from.result _ c.self.view_is c.self.invariant c.requires.there (omega arith) c.index-self-from.is in
    ap (λ (p : PortState). p.down) (lent_is _ _ _ _ _ c.index-self-from.result lent) ∙ c.requires.empty

pub invariant_of-self : goal.invariant_of-self
invariant_of-self c =
    let lent = lent_small _ _ _ c.from.result _ c.self.view_is c.self.invariant c.requires.there (omega arith) c.index-self-from.is in
    down_back_sound _ _ _ _ _ c.put_back_down.new.self lent c.args.frame c.args.frame c.put_back_down.ensures refl c.requires.present

pub returns : goal.returns
returns c =
    let lent = lent_small _ _ _ c.from.result _ c.self.view_is c.self.invariant c.requires.there (omega arith) c.index-self-from.is in
    down_back _ _ _ _ _ c.put_back_down.new.self lent c.args.frame c.args.frame c.put_back_down.ensures refl
