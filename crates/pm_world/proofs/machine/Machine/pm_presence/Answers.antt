use Rattle.std.proofs.{Common.{Ok, refl, rules, sym, ◌∙◌}, lemmas.List.{length-set}}
use Rattle.pm_world.specs.{Places.{Places, with_device, with_multiplier}, Rules.PmPresenceRule, declared.step.Step.TheVariants.PmPresence}
use Rattle.pm_world.proofs.steps.{Doing.on_both, Refusals.stays_orderly}
use Rattle.pm_world.proofs.machine.Machine.pm_presence.Goals as goal

pub invariant_of-self : goal.invariant_of-self
invariant_of-self g c =
    let was : Places = record {
      devices = c.self.inside.seats.items;
      multiplier = c.self.inside.multiplier;
      upward = c.self.inside.upward;
      downward = c.self.inside.downward;
      host = c.self.inside.host;
    } in (
      stays_orderly was (PmPresence c.args.n) (Ok c.record.result) (with_multiplier (with_device was c.args.n c.record.new.seat) c.record.new.pm) c.self.invariant.0
          (on_both was was c.args.n c.index_mut-seat.result.now c.record.new.seat (Ok c.record.result) c.record.new.pm (PmPresenceRule c.args.n) refl (search rules) c.index_mut-seat.ensures.value c.record.ensures.rule),
      length-set c.self.inside.seats.items c.args.n c.record.new.seat ∙ sym (c.record.ensures.ports ∙ sym c.self.invariant.1),
    )

pub returns : goal.returns
returns g c =
    let was : Places = record {
      devices = c.self.inside.seats.items;
      multiplier = c.self.inside.multiplier;
      upward = c.self.inside.upward;
      downward = c.self.inside.downward;
      host = c.self.inside.host;
    } in
    on_both was c.args.self.now c.args.n c.index_mut-seat.result.now c.record.new.seat (Ok c.record.result) c.record.new.pm (PmPresenceRule c.args.n) c.self.view_is (search rules) c.index_mut-seat.ensures.value c.record.ensures.rule
