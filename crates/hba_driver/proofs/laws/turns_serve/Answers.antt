use Rattle.hba_driver.proofs.issued.ServedLemmas.{turns_serve}
use Rattle.hba_driver.proofs.laws.turns_serve.Goals as goal

pub returns : goal.returns
returns c = turns_serve
