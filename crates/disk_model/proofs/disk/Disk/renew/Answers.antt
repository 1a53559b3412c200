use Rattle.std.proofs.Common.{rules}
use Rattle.disk_model.proofs.turns.RestLemmas.{made_loaded}
use Rattle.disk_model.proofs.disk.Disk.renew.Goals as goal

pub returns-clause-loaded : goal.returns-clause-loaded
returns-clause-loaded c =
    made_loaded _ c.args.self.now.plan c.args.self.now.sectors c.args.medium.items (search rules) (search rules)
