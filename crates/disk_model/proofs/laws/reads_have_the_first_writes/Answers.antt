use Rattle.disk_model.proofs.media.FrontLemmas.{before_is_front, host_is_ahead}
use Rattle.disk_model.proofs.laws.reads_have_the_first_writes.Goals as goal

pub returns-clause-before : goal.returns-clause-before
returns-clause-before c = before_is_front

pub returns-clause-ahead : goal.returns-clause-ahead
returns-clause-ahead c = host_is_ahead
