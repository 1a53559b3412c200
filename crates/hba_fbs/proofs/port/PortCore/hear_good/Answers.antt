use Rattle.std.proofs.Common.{◌∙◌}
use Rattle.hba_fbs.proofs.port.PortCore.hear_good.Goals as goal

pub returns-clause-unwritten : goal.returns-clause-unwritten
returns-clause-unwritten c none = c.heard.ensures.wrote ∙ c.hear_within-heard.ensures.unwritten none

pub returns-clause-len : goal.returns-clause-len
returns-clause-len c = rw c.heard.ensures.wrote c.hear_within-heard.ensures.len

pub returns-clause-slot : goal.returns-clause-slot
returns-clause-slot c = rw (← c.self.view_is) (rw c.heard.ensures.wrote c.hear_within-heard.ensures.slot)

pub returns-clause-fits : goal.returns-clause-fits
returns-clause-fits c = rw (← c.self.view_is) (rw c.heard.ensures.wrote c.hear_within-heard.ensures.fits)

pub returns-clause-reaches : goal.returns-clause-reaches
returns-clause-reaches c = rw c.heard.ensures.wrote c.hear_within-heard.ensures.reaches
