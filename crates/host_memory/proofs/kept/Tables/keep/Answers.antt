use Rattle.host_memory.proofs.KeptLemmas.{kept_more}
use Rattle.host_memory.proofs.kept.Tables.keep.Goals as goal

pub returns-clause-all : goal.returns-clause-all
returns-clause-all c = λ s len from to all one. kept_more s len from to _ _ _ c.args.table c.push.ensures.items (c.make_room.ensures.all s len from to all) one
