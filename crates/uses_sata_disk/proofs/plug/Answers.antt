use Rattle.sata_disk_laws.specs.Calls.{Plugs}
use Rattle.uses_sata_disk.proofs.More.{one_more}
use Rattle.uses_sata_disk.proofs.plug.Goals as goal

pub returns : goal.returns
returns c = one_more c.args.disk.now c.plugged.new.self Plugs tt c.plugged.ensures
