use Rattle.disk_model.proofs.turns.QuietLemmas.{data_is_due, setup_is_due}
use Rattle.disk_model.proofs.disk.quiet.due_reading.Goals as goal

pub returns-then-reading : goal.returns-then-reading
returns-then-reading c = λ plan medium m. data_is_due plan m medium c.args.reading c.args.reading.set_up c.if-reading.true c.requires

pub returns-else-reading : goal.returns-else-reading
returns-else-reading c = λ plan medium m. setup_is_due plan m medium c.args.reading c.args.reading.set_up c.if-reading.false c.requires
