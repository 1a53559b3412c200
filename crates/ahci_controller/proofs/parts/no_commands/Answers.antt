use Rattle.ahci_controller.proofs.OpeningLemmas.{none_kept}
use Rattle.ahci_controller.proofs.parts.no_commands.Goals as goal

pub returns : goal.returns
returns c = none_kept c.default.result 32 c.default.ensures.long c.default.ensures.at
