use Rattle.controller_laws.proofs.EndLemmas as ends
use Rattle.controller_laws.proofs.OpenLemmas as opening
use Rattle.controller_laws.proofs.laws.issues_fall.Goals as goal

pub returns-clause-falls : goal.returns-clause-falls
returns-clause-falls c = ends.issues_fall c.core_delivers.ensures.freed

pub returns-clause-opens : goal.returns-clause-opens
returns-clause-opens c = opening.opens_untold c.core_delivers.ensures.opens

pub returns-clause-told : goal.returns-clause-told
returns-clause-told c = opening.histories_go_on c.core_delivers.ensures.agrees
