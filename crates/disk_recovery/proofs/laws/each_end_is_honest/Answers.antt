use Rattle.disk_recovery.proofs.each_end.HonestEnds.{each_end_is_honest}
use Rattle.disk_recovery.proofs.laws.each_end_is_honest.Goals as goal

pub returns : goal.returns
returns c = each_end_is_honest
