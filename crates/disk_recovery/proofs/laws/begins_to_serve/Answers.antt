use Rattle.disk_recovery.proofs.together.TogetherBegins.{flush_opens_on, log_begins_served, reset_begins_served, served_since_flush}
use Rattle.disk_recovery.proofs.laws.begins_to_serve.Goals as goal

pub returns-clause-since : goal.returns-clause-since
returns-clause-since c = served_since_flush

pub returns-clause-flushes : goal.returns-clause-flushes
returns-clause-flushes c = flush_opens_on

pub returns-clause-reset : goal.returns-clause-reset
returns-clause-reset c = reset_begins_served

pub returns-clause-log : goal.returns-clause-log
returns-clause-log c = log_begins_served
