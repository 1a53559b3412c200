use Rattle.machine_laws.proofs.Awaiting.{owed}
use Rattle.machine_laws.proofs.rest.rest_is_owed.Goals as goal

pub returns : goal.returns
returns c = owed c.silence_is_owed.ensures
