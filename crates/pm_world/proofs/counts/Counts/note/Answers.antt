use Rattle.std.proofs.lemmas.Result.{on_ok_weaker}
use Rattle.pm_world.proofs.counted.Comings.{tells_more}
use Rattle.pm_world.proofs.counts.Counts.note.Goals as goal

pub returns-clause-tell : goal.returns-clause-tell
returns-clause-tell c = on_ok_weaker c.count.result (tells_more c.args.self.now c.count.new.self c.args.answer.now) c.count.ensures.rows
