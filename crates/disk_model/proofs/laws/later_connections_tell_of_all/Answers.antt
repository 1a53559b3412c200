use Rattle.disk_model.proofs.both_ends.LaterLemmas.{later_is_linked, later_tells_of_all}
use Rattle.disk_model.proofs.laws.later_connections_tell_of_all.Goals as goal

pub returns-clause-linked : goal.returns-clause-linked
returns-clause-linked c = later_is_linked

pub returns-clause-tells : goal.returns-clause-tells
returns-clause-tells c = later_tells_of_all
