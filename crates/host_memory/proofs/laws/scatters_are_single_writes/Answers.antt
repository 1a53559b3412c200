use Rattle.host_memory.proofs.WrittenLemmas.{scatters_one_by_one, scattered}
use Rattle.host_memory.proofs.laws.scatters_are_single_writes.Goals as goal

pub returns-clause-one_by_one : goal.returns-clause-one_by_one
returns-clause-one_by_one c = scatters_one_by_one

pub returns-clause-at_places : goal.returns-clause-at_places
returns-clause-at_places c = scattered
