use Rattle.pm_world.proofs.media.FlushOrder.{flushes_follow_writes}
use Rattle.pm_world.proofs.laws.flushes_follow_writes.Goals as goal

pub returns : goal.returns
returns c = flushes_follow_writes
