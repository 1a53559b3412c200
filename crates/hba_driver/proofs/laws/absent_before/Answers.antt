use Rattle.hba_driver.proofs.steady.AbsentLemmas.{each_was_absent}
use Rattle.hba_driver.proofs.laws.absent_before.Goals as goal

pub returns : goal.returns
returns c = each_was_absent
