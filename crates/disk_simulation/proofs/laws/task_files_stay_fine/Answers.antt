use Rattle.disk_simulation.proofs.task_files.{FileLaws.{both_have_begun, files_stay_fine, nothing_is_refused}, FilesLeft.files_are_left}
use Rattle.disk_simulation.proofs.link.SentLemmas.{of_disk}
use Rattle.disk_simulation.proofs.laws.task_files_stay_fine.Goals as goal

pub returns-clause-begins : goal.returns-clause-begins
returns-clause-begins c = both_have_begun

pub returns-clause-sends : goal.returns-clause-sends
returns-clause-sends c = of_disk

pub returns-clause-refuses : goal.returns-clause-refuses
returns-clause-refuses c = nothing_is_refused

pub returns-clause-stays : goal.returns-clause-stays
returns-clause-stays c = files_stay_fine

pub returns-clause-left : goal.returns-clause-left
returns-clause-left c = files_are_left
