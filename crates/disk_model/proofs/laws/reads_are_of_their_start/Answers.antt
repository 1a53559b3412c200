use Rattle.disk_model.proofs.agreement.LawLemmas.{agrees}
use Rattle.disk_model.proofs.laws.reads_are_of_their_start.Goals as goal

pub returns : goal.returns
returns c = λ plan sectors history size run. (agrees plan sectors history size run).reads
