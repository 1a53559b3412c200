use Rattle.multiplier.proofs.ArbiterLemmas.{passes_fifteen}
use Rattle.multiplier.proofs.laws.waits_for_at_most_fifteen.Goals as goal

pub returns : goal.returns
returns c = passes_fifteen
