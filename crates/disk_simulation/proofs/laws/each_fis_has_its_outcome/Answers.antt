use Rattle.disk_simulation.proofs.task_files.OutcomeLemmas.{each_taken_has_outcome, nothing_is_given}
use Rattle.disk_simulation.proofs.laws.each_fis_has_its_outcome.Goals as goal

pub returns-clause-takes : goal.returns-clause-takes
returns-clause-takes c = each_taken_has_outcome

pub returns-clause-none : goal.returns-clause-none
returns-clause-none c = nothing_is_given
