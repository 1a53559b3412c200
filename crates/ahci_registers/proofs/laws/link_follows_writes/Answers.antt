use Rattle.ahci_registers.proofs.LinkLemmas.{stays, falls, rises, up_sets}
use Rattle.ahci_registers.proofs.laws.link_follows_writes.Goals as goal

pub returns-clause-started : goal.returns-clause-started
returns-clause-started c = stays

pub returns-clause-falls : goal.returns-clause-falls
returns-clause-falls c = falls

pub returns-clause-rises : goal.returns-clause-rises
returns-clause-rises c = rises

pub returns-clause-exchanged : goal.returns-clause-exchanged
returns-clause-exchanged c = up_sets
