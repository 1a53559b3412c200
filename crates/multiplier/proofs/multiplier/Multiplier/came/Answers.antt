use Rattle.std.proofs.Common.{ap, arith, ◌∙◌}
use Rattle.pm_ports.specs.Port as port
use Rattle.multiplier.proofs.Lent.{came_back, came_back_sound, lends, lent_is, same_sound}
use Rattle.multiplier.proofs.multiplier.Multiplier.came.Goals as goal

pub invariant_of-self : goal.invariant_of-self
invariant_of-self c =
    let lent = lends _ _ _ c.from.result _ c.self.view_is c.self.invariant c.requires (omega arith) c.index-self-from.is in
    same_sound _ _ _ _ _ c.came.new.self lent c.in_err-came.ensures.after

pub invariant_of-self-2 : goal.invariant_of-self-2
invariant_of-self-2 c =
    let lent = lends _ _ _ c.from.result _ c.self.view_is c.self.invariant c.requires (omega arith) c.index-self-from.is in
    came_back_sound _ _ _ _ _ c.came.new.self lent c.insert.new.self c.args.conn c.in_ok-came.ensures.refusal c.in_ok-came.ensures.after c.insert.ensures

pub returns : goal.returns
returns c =
    let lent = lends _ _ _ c.from.result _ c.self.view_is c.self.invariant c.requires (omega arith) c.index-self-from.is in (
      c.in_ok-came.ensures.refusal ∙ ap (λ p. port.came_refusal p c.args.conn) (lent_is _ _ _ _ _ c.came.new.self lent),
      came_back _ _ _ _ _ c.came.new.self lent c.insert.new.self c.args.conn c.in_ok-came.ensures.after c.insert.ensures,
    )
