use Rattle.std.proofs.Common.{sym, ◌∙◌, refl}
use Rattle.pm_world.specs.{Places.{Places, with_multiplier, with_downward}, declared.step.Step.TheVariants.PmFromHost}
use Rattle.pm_world.proofs.steps.Refusals.{stays_orderly}
use Rattle.pm_world.proofs.machine.Machine.pm_from_host.Goals as goal

pub invariant_of-self : goal.invariant_of-self
invariant_of-self g c =
    let was : Places = record {
      devices = c.self.inside.seats.items;
      multiplier = c.self.inside.multiplier;
      upward = c.self.inside.upward;
      downward = c.self.inside.downward;
      host = c.self.inside.host;
    } in (
      stays_orderly was PmFromHost c.hear.result (with_multiplier (with_downward was c.hear.new.link) c.hear.new.pm) c.self.invariant.0 (c.hear.ensures.rule, refl),
      sym (c.hear.ensures.ports.count ∙ sym c.self.invariant.1),
    )
