use Rattle.disk_model.proofs.sent.SilenceLaws.{silent_right}
use Rattle.disk_model.proofs.laws.is_silent_where_nothing_is_owed.Goals as goal

pub returns : goal.returns
returns c = silent_right
