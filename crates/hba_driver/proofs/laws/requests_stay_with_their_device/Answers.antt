use Rattle.hba_driver.proofs.known.QueuedLemmas.{requests_stay}
use Rattle.hba_driver.proofs.laws.requests_stay_with_their_device.Goals as goal

pub returns : goal.returns
returns c = requests_stay
