use Rattle.hba_driver.proofs.done.TrueLemmas.{done_is_true}
use Rattle.hba_driver.proofs.laws.done_is_true.Goals as goal

pub returns : goal.returns
returns c = done_is_true
