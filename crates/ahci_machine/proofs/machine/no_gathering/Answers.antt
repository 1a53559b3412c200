use Rattle.ahci_machine.proofs.OpeningLemmas.{none_gathered}
use Rattle.ahci_machine.proofs.machine.no_gathering.Goals as goal

pub returns : goal.returns
returns c = none_gathered c.default.result 16 c.default.ensures.long c.default.ensures.at
