use Rattle.disk_simulation.proofs.events.DataLemmas.{data_comes_down, data_up}
use Rattle.disk_simulation.proofs.laws.data_keeps_the_same.Goals as goal

pub returns-clause-up : goal.returns-clause-up
returns-clause-up c = data_up

pub returns-clause-down : goal.returns-clause-down
returns-clause-down c = data_comes_down
