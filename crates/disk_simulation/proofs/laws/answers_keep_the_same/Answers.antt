use Rattle.disk_simulation.proofs.events.AnswerLemmas.{answers_keep, others_keep}
use Rattle.disk_simulation.proofs.laws.answers_keep_the_same.Goals as goal

pub returns-clause-others : goal.returns-clause-others
returns-clause-others c = others_keep

pub returns-clause-answers : goal.returns-clause-answers
returns-clause-answers c = answers_keep
