use Rattle.hba_driver.proofs.addresses.AddressLemmas.{frames_are_addressed}
use Rattle.hba_driver.proofs.laws.frames_are_addressed.Goals as goal

pub returns : goal.returns
returns c = frames_are_addressed
