use Rattle.hba_driver.proofs.ends.FaultLemmas.{errors_are_named}
use Rattle.hba_driver.proofs.laws.errors_are_named.Goals as goal

pub returns : goal.returns
returns c = errors_are_named
