use Rattle.disk_simulation.proofs.others.{CalmLemmas.calm_runs_keep, ElsewhereLemmas.others_leave_device}
use Rattle.disk_simulation.proofs.laws.others_leave_a_device.Goals as goal

pub returns-clause-others : goal.returns-clause-others
returns-clause-others c = others_leave_device

pub returns-clause-calm : goal.returns-clause-calm
returns-clause-calm c = calm_runs_keep
