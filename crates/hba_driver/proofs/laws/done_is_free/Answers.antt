use Rattle.hba_driver.proofs.ends.DoneLemmas.{done_is_free}
use Rattle.hba_driver.proofs.laws.done_is_free.Goals as goal

pub returns : goal.returns
returns c = done_is_free
