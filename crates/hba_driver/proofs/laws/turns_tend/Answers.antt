use Rattle.hba_driver.proofs.anew.TendedTurns.{each_is_tended}
use Rattle.hba_driver.proofs.laws.turns_tend.Goals as goal

pub returns : goal.returns
returns c = each_is_tended
