use Rattle.hba_driver.proofs.recovers.ApartArmed.{none_is_armed}
use Rattle.hba_driver.proofs.laws.none_is_armed.Goals as goal

pub returns : goal.returns
returns c = none_is_armed
