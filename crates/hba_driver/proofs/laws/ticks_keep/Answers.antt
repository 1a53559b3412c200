use Rattle.hba_driver.proofs.ticks.LifeLemmas.{ticks_keep}
use Rattle.hba_driver.proofs.laws.ticks_keep.Goals as goal

pub returns : goal.returns
returns c = ticks_keep
