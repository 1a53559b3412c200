use Rattle.disk_model.proofs.turns.RestLemmas.{made_new}
use Rattle.disk_model.proofs.disk.Disk.new.Goals as goal

pub returns-clause-opening : goal.returns-clause-opening
returns-clause-opening c =
    made_new _ c.args.plan c.args.sectors c.in_ok-medium.medium.items c.in_ok-made.ensures c.in_ok-medium.ensures.items
