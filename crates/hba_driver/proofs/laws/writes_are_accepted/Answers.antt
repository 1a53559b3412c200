use Rattle.hba_driver.proofs.accepted.AcceptLemmas.{writes_are_accepted}
use Rattle.hba_driver.proofs.laws.writes_are_accepted.Goals as goal

pub returns : goal.returns
returns c = writes_are_accepted
