use Rattle.disk_simulation.proofs.joined.HeardLemmas.{heard_as_told}
use Rattle.disk_simulation.proofs.laws.fises_are_heard_as_told.Goals as goal

pub returns : goal.returns
returns c = heard_as_told
