use Rattle.std.proofs.Common.{IfErr, OnOk, length, take, drop, subst}
use Rattle.pm_world.specs.{Laws.AreLawful, Places.Places, Rules.Stops}
use Rattle.pm_world.proofs.reached.ReachedLemmas.{reached_told}
use Rattle.pm_world.proofs.world.World.run_into.Goals as goal

pub invariant_of-self : goal.invariant_of-self
invariant_of-self g c =
    reached_told c.self.inside.machine c.args.steps.now c.run_into.result c.run_into.new.self (drop (length c.args.answers.now.items) c.run_into.new.answers.items)
    c.self.invariant c.run_into.ensures.run c.run_into.ensures.stops

pub returns-clause-laws : goal.returns-clause-laws
returns-clause-laws g c =
    let told = drop (length c.args.answers.now.items) c.run_into.new.answers.items in
    subst (λ (w : Places). OnOk c.run_into.result (AreLawful w c.args.steps.now told c.run_into.new.self)) c.self.view_is c.run_into.ensures.laws

pub returns-clause-stops : goal.returns-clause-stops
returns-clause-stops g c =
    let told = drop (length c.args.answers.now.items) c.run_into.new.answers.items in
    subst (λ (w : Places). IfErr c.run_into.result (λ e. Stops w c.args.steps.now e.0 e.1 told c.run_into.new.self
    × AreLawful w (take e.0 c.args.steps.now) told c.run_into.new.self)) c.self.view_is c.run_into.ensures.stops
