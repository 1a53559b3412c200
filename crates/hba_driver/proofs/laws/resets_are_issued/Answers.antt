use Rattle.hba_driver.proofs.anew.SetsLemmas.{each_reset_is_driven}
use Rattle.hba_driver.proofs.laws.resets_are_issued.Goals as goal

pub returns : goal.returns
returns c = each_reset_is_driven
