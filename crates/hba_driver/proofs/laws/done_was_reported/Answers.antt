use Rattle.hba_driver.proofs.done.ReportRuns.{done_was_reported}
use Rattle.hba_driver.proofs.laws.done_was_reported.Goals as goal

pub returns : goal.returns
returns c = done_was_reported
