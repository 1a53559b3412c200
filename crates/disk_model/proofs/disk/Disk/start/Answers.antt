use Rattle.disk_model.proofs.turns.QuietLemmas.{start_is_due}
use Rattle.disk_model.proofs.disk.Disk.start.Goals as goal

pub start_write-requires-clause-owed : goal.start_write-requires-clause-owed
start_write-requires-clause-owed c = (start_is_due c.args.self.now.plan c.args.self.now.sectors c.args.self.now.now c.requires).owed

pub start_write-requires-clause-started : goal.start_write-requires-clause-started
start_write-requires-clause-started c = (start_is_due c.args.self.now.plan c.args.self.now.sectors c.args.self.now.now c.requires).started

pub start_write-requires-clause-writing : goal.start_write-requires-clause-writing
start_write-requires-clause-writing c = (start_is_due c.args.self.now.plan c.args.self.now.sectors c.args.self.now.now c.requires).writing
