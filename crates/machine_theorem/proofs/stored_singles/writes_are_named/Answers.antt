use Rattle.machine_theorem.proofs.WriteNames.{are_named}
use Rattle.machine_theorem.proofs.stored_singles.writes_are_named.Goals as goal

pub returns : goal.returns
returns c = are_named
