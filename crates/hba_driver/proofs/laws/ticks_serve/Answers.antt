use Rattle.hba_driver.proofs.ticks.ServeLemmas.{ticks_serve}
use Rattle.hba_driver.proofs.laws.ticks_serve.Goals as goal

pub returns : goal.returns
returns c = ticks_serve
