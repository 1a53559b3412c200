use Rattle.uses_sata_disk.proofs.More.{starts_more}
use Rattle.uses_sata_disk.proofs.start.Goals as goal

pub returns : goal.returns
returns c = starts_more c.args.disk.now c.start_next.new.self c.start_next.result c.start_next.ensures.next c.start_next.ensures.ok
