use Rattle.std.proofs.Common.{rules}
use Rattle.disk_model.proofs.turns.RestLemmas.{made_loaded}
use Rattle.disk_model.proofs.disk.Disk.with_sectors.Goals as goal

pub returns-clause-loaded : goal.returns-clause-loaded
returns-clause-loaded c = made_loaded _ c.args.plan _ c.args.medium.items c.in_ok-made.ensures (search rules)
