use Rattle.disk_simulation.proofs.events.{MoveLemmas.{activates_keep, setups_go_on}, SameLemmas.setups_start}
use Rattle.disk_simulation.proofs.laws.setups_keep_the_same.Goals as goal

pub returns-clause-starts : goal.returns-clause-starts
returns-clause-starts c = setups_start

pub returns-clause-goes_on : goal.returns-clause-goes_on
returns-clause-goes_on c = setups_go_on

pub returns-clause-activates : goal.returns-clause-activates
returns-clause-activates c = activates_keep
