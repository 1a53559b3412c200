use Rattle.disk_recovery.proofs.apart.ApartBegins.{aside_at, log_begins, reset_begins}
use Rattle.disk_recovery.proofs.laws.begins_anew_apart.Goals as goal

pub returns-clause-aside : goal.returns-clause-aside
returns-clause-aside c = aside_at

pub returns-clause-log : goal.returns-clause-log
returns-clause-log c = log_begins

pub returns-clause-reset : goal.returns-clause-reset
returns-clause-reset c = reset_begins
