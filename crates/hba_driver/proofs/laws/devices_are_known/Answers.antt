use Rattle.hba_driver.proofs.known.KnownRuns.{devices_are_known}
use Rattle.hba_driver.proofs.laws.devices_are_known.Goals as goal

pub returns : goal.returns
returns c = devices_are_known
