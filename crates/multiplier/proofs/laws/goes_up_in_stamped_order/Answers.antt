use Rattle.multiplier.proofs.StampLemmas.{begins_stamped, goes_up_stamped}
use Rattle.multiplier.proofs.laws.goes_up_in_stamped_order.Goals as goal

pub returns-clause-goes_on : goal.returns-clause-goes_on
returns-clause-goes_on c = goes_up_stamped

pub returns-clause-begins : goal.returns-clause-begins
returns-clause-begins c = begins_stamped
