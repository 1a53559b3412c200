use Rattle.uses_sata_disk.proofs.More.{log_of}
use Rattle.uses_sata_disk.proofs.make_log.Goals as goal

pub returns : goal.returns
returns c = log_of c.args.disk.now c.args.page c.frame.result c.log_tells_of_failure.ensures c.requires.next c.requires.log c.frame.ensures.is
