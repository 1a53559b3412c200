use Rattle.std.proofs.Common.{subst}
use Rattle.pm_world.specs.Runs.{IsReached}
use Rattle.pm_world.proofs.world.World.keeps_rules.Goals as goal

pub returns : goal.returns
returns g c = subst IsReached c.self.view_is c.self.invariant
