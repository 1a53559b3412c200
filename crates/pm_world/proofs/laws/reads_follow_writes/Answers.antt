use Rattle.pm_world.proofs.media.InOrderLemmas.{reads_follow_writes}
use Rattle.pm_world.proofs.laws.reads_follow_writes.Goals as goal

pub returns : goal.returns
returns c = reads_follow_writes
