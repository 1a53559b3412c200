use Rattle.hba_driver.proofs.delivery.HeldLemmas.{turns_hold_writes}
use Rattle.hba_driver.proofs.laws.writes_are_held.Goals as goal

pub returns : goal.returns
returns c = turns_hold_writes
