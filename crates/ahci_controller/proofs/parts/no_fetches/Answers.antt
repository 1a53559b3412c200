use Rattle.ahci_controller.proofs.OpeningLemmas.{none_fetched}
use Rattle.ahci_controller.proofs.parts.no_fetches.Goals as goal

pub returns : goal.returns
returns c = none_fetched c.default.result 32 c.default.ensures.long c.default.ensures.at
