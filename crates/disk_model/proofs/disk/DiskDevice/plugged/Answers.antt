use Rattle.disk_model.specs.Histories.{Plugged}
use Rattle.disk_model.proofs.turns.MomentLemmas.{disk_goes_on}
use Rattle.disk_model.proofs.disk.DiskDevice.plugged.Goals as goal

pub returns-clause-ok : goal.returns-clause-ok
returns-clause-ok c = disk_goes_on c.args.self.now _ Plugged tt c.plug.ensures
