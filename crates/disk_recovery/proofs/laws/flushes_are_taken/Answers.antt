use Rattle.disk_recovery.proofs.flushes.FlushEnds.{flushes_are_taken}
use Rattle.disk_recovery.proofs.laws.flushes_are_taken.Goals as goal

pub returns : goal.returns
returns c = flushes_are_taken
