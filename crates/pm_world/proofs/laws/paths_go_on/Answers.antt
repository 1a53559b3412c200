use Rattle.pm_world.proofs.{steps.Orderly.reached_orderly, paths.RunLemmas.{plugged_is_on_wire, unit_paths_go_on}}
use Rattle.pm_world.proofs.paths.PathLemmas.{dropped_never_comes, paths_go_on}
use Rattle.pm_world.proofs.laws.paths_go_on.Goals as goal

pub returns-clause-orderly : goal.returns-clause-orderly
returns-clause-orderly c = reached_orderly

pub returns-clause-plugged : goal.returns-clause-plugged
returns-clause-plugged c = plugged_is_on_wire

pub returns-clause-steps : goal.returns-clause-steps
returns-clause-steps c = paths_go_on

pub returns-clause-units : goal.returns-clause-units
returns-clause-units c = unit_paths_go_on

pub returns-clause-dropped : goal.returns-clause-dropped
returns-clause-dropped c = dropped_never_comes
