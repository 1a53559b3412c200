use Rattle.disk_simulation.proofs.phases.{CalmOn.calm_leaves_together, PhaseLemmas.{each_done, takes_in_each_phase}}
use Rattle.disk_simulation.proofs.laws.reports_are_honest_in_each_phase.Goals as goal

pub returns-clause-done : goal.returns-clause-done
returns-clause-done c = each_done

pub returns-clause-next : goal.returns-clause-next
returns-clause-next c = takes_in_each_phase

pub returns-clause-calm : goal.returns-clause-calm
returns-clause-calm c = calm_leaves_together
