use Rattle.hba_driver.proofs.requests.StandLemmas.{commands_stand}
use Rattle.hba_driver.proofs.laws.commands_stand.Goals as goal

pub returns : goal.returns
returns c = commands_stand
