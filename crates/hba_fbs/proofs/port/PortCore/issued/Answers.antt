use Rattle.std.proofs.Common.{◌∙◌}
use Rattle.hba_fbs.proofs.ChooseLemmas.{issued_busy}
use Rattle.hba_fbs.proofs.port.PortCore.issued.Goals as goal

pub returns : goal.returns
returns c = c.issued.ensures ∙ rw (← c.self.view_is) (issued_busy c.self.inside.slots)
