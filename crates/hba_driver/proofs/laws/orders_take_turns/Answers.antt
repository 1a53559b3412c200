use Rattle.hba_driver.proofs.slot31.Turn31Lemmas.{orders_take_turns}
use Rattle.hba_driver.proofs.laws.orders_take_turns.Goals as goal

pub returns : goal.returns
returns c = orders_take_turns
