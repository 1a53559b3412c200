use Rattle.disk_recovery.proofs.together.TogetherTakes.{ignored_keep_on, signatures_keep_on, takes_keep_on}
use Rattle.disk_recovery.proofs.laws.takes_serve_on.Goals as goal

pub returns-clause-right : goal.returns-clause-right
returns-clause-right c = takes_keep_on

pub returns-clause-signs : goal.returns-clause-signs
returns-clause-signs c = signatures_keep_on

pub returns-clause-ignored : goal.returns-clause-ignored
returns-clause-ignored c = ignored_keep_on
