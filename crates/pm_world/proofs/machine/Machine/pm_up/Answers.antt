use Rattle.std.proofs.Common.{sym, ◌∙◌, refl}
use Rattle.pm_world.specs.{Places.{Places, with_multiplier, with_upward}, declared.step.Step.TheVariants.PmUp}
use Rattle.pm_world.proofs.steps.Refusals.{stays_orderly}
use Rattle.pm_world.proofs.machine.Machine.pm_up.Goals as goal

pub invariant_of-self : goal.invariant_of-self
invariant_of-self g c =
    let was : Places = record {
      devices = c.self.inside.seats.items;
      multiplier = c.self.inside.multiplier;
      upward = c.self.inside.upward;
      downward = c.self.inside.downward;
      host = c.self.inside.host;
    } in (
      stays_orderly was PmUp c.rise.result (with_upward (with_multiplier was c.rise.new.pm) c.rise.new.link) c.self.invariant.0 (c.rise.ensures.rule, refl),
      sym (c.rise.ensures.ports.count ∙ sym c.self.invariant.1),
    )
