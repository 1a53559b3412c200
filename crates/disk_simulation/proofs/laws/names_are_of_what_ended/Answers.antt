use Rattle.disk_simulation.proofs.events.AnswerLemmas.{names_keep}
use Rattle.disk_simulation.proofs.laws.names_are_of_what_ended.Goals as goal

pub returns : goal.returns
returns c = names_keep
