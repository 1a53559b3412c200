use Rattle.ahci_controller.proofs.FairLemmas.{devices_come, slots_come}
use Rattle.ahci_controller.proofs.laws.turns_come_round.Goals as goal

pub returns-clause-slots : goal.returns-clause-slots
returns-clause-slots c = slots_come

pub returns-clause-devices : goal.returns-clause-devices
returns-clause-devices c = devices_come
