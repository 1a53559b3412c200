use Rattle.disk_model.proofs.agreement.LawLemmas.{answers_once}
use Rattle.disk_model.proofs.laws.answers_each_command_once.Goals as goal

pub returns : goal.returns
returns c = answers_once
