use Rattle.hba_driver.proofs.requests.HistoryLemmas.{each_run_keeps}
use Rattle.hba_driver.proofs.laws.turns_keep.Goals as goal

pub returns : goal.returns
returns c = each_run_keeps
