use Rattle.disk_simulation.proofs.anew.{AnewJoins.{hosted_on_is_kept, hosted_since_new, opens_after}, SignsLemmas.signature_is_none}
use Rattle.disk_simulation.proofs.together.TogetherLemmas.{opens_the_same}
use Rattle.disk_simulation.proofs.laws.hosts_begin_anew.Goals as goal

pub returns-clause-after : goal.returns-clause-after
returns-clause-after c = opens_after

pub returns-clause-opens : goal.returns-clause-opens
returns-clause-opens c = opens_the_same

pub returns-clause-kept : goal.returns-clause-kept
returns-clause-kept c = hosted_on_is_kept

pub returns-clause-new : goal.returns-clause-new
returns-clause-new c = hosted_since_new

pub returns-clause-signature : goal.returns-clause-signature
returns-clause-signature c = signature_is_none
