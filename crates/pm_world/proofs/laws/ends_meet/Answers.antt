use Rattle.pm_world.proofs.honest.HonestRuns as runs
use Rattle.pm_world.proofs.laws.ends_meet.Goals as goal

pub returns : goal.returns
returns c = runs.ends_meet
