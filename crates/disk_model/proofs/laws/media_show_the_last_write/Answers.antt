use Rattle.disk_model.specs.{Ledger.ledger, Runs.moment}
use Rattle.disk_model.proofs.{media.LastLemmas.{lie_on, shows_the_last}, agreement.LawLemmas.agrees}
use Rattle.disk_model.proofs.laws.media_show_the_last_write.Goals as goal

pub returns-clause-shows : goal.returns-clause-shows
returns-clause-shows c = shows_the_last

pub returns-clause-lie : goal.returns-clause-lie
returns-clause-lie c = λ plan sectors history size run.
    lie_on sectors (moment plan sectors history).medium (ledger history).writes (agrees plan sectors history size run).medium
    (agrees plan sectors history size run).length_is
