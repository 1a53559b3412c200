use Rattle.pm_world.proofs.honest.HonestRuns as runs
use Rattle.pm_world.proofs.laws.disks_are_honest.Goals as goal

pub returns : goal.returns
returns c = runs.disks_are_honest
