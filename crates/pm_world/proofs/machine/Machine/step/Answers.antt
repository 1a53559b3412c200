use Rattle.std.proofs.Common.{subst}
use Rattle.pm_world.specs.Places.{IsOrderly}
use Rattle.pm_world.proofs.{reached.Laws.step_obeys, steps.Refusals.same_where_refused}
use Rattle.pm_world.proofs.machine.Machine.step.Goals as goal

pub returns-clause-laws : goal.returns-clause-laws
returns-clause-laws g c = step_obeys c.args.self.now c.args.step.now c.act.result c.act.new.self (subst IsOrderly c.self.view_is c.self.invariant.0)

pub returns-clause-refused : goal.returns-clause-refused
returns-clause-refused g c = same_where_refused c.args.self.now c.args.step.now c.act.result c.act.new.self c.act.ensures
