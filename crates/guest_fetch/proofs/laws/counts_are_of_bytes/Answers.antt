use Rattle.guest_fetch.proofs.SupplyLemmas.{of_bytes}
use Rattle.guest_fetch.proofs.laws.counts_are_of_bytes.Goals as goal

pub returns : goal.returns
returns c = of_bytes
