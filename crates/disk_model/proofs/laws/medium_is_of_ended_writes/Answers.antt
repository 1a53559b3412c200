use Rattle.disk_model.proofs.agreement.LawLemmas.{agrees}
use Rattle.disk_model.proofs.laws.medium_is_of_ended_writes.Goals as goal

pub returns : goal.returns
returns c = λ plan sectors history size run. (agrees plan sectors history size run).medium
