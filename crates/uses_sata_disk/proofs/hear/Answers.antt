use Rattle.uses_sata_disk.proofs.More.{hears_more}
use Rattle.uses_sata_disk.proofs.hear.Goals as goal

pub returns : goal.returns
returns c = hears_more c.args.disk.now c.on_frame.new.self c.args.frame.now.bytes c.on_frame.result c.on_frame.ensures.may c.on_frame.ensures.ok
