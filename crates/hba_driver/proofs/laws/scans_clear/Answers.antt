use Rattle.hba_driver.proofs.slot31.ScansTurns.{scans_clear}
use Rattle.hba_driver.proofs.laws.scans_clear.Goals as goal

pub returns : goal.returns
returns c = scans_clear
