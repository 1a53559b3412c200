use Rattle.multiplier.proofs.TurnLemmas.{passed_fifteen}
use Rattle.multiplier.proofs.laws.is_passed_over_at_most_fifteen_times.Goals as goal

pub returns : goal.returns
returns c = passed_fifteen
