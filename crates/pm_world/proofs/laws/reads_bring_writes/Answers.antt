use Rattle.pm_world.proofs.media.ReadBackLemmas.{disks_have_writes, reads_bring_writes, writes_stay_there}
use Rattle.pm_world.proofs.laws.reads_bring_writes.Goals as goal

pub returns-clause-reads : goal.returns-clause-reads
returns-clause-reads c = reads_bring_writes

pub returns-clause-stay : goal.returns-clause-stay
returns-clause-stay c = writes_stay_there

pub returns-clause-medium : goal.returns-clause-medium
returns-clause-medium c = disks_have_writes
