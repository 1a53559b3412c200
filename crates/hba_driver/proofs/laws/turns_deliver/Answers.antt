use Rattle.hba_driver.proofs.delivery.DeliveredLemmas.{turns_deliver}
use Rattle.hba_driver.proofs.laws.turns_deliver.Goals as goal

pub returns : goal.returns
returns c = turns_deliver
