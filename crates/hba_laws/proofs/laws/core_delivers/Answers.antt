use Rattle.hba_laws.proofs.{histories.CoreEventLemmas.core_views_are_told, completed.DoneLemmas.{core_done_is_completed, core_opens_untold}}
use Rattle.hba_laws.proofs.{completed.{OnceLemmas.completes_once, FreedLemmas.core_freed_by_own}, placed.CoreWithinLemmas.core_choices_filled}
use Rattle.hba_laws.proofs.placed.CoreWithinLemmas.{core_data_is_within, core_reports_filled, core_sends_filled}
use Rattle.hba_laws.proofs.laws.core_delivers.Goals as goal

pub returns-clause-agrees : goal.returns-clause-agrees
returns-clause-agrees c = core_views_are_told

pub returns-clause-opens : goal.returns-clause-opens
returns-clause-opens c = core_opens_untold

pub returns-clause-done : goal.returns-clause-done
returns-clause-done c = core_done_is_completed

pub returns-clause-once : goal.returns-clause-once
returns-clause-once c = completes_once

pub returns-clause-within : goal.returns-clause-within
returns-clause-within c = core_data_is_within

pub returns-clause-reports : goal.returns-clause-reports
returns-clause-reports c = core_reports_filled

pub returns-clause-sends : goal.returns-clause-sends
returns-clause-sends c = core_sends_filled

pub returns-clause-chosen : goal.returns-clause-chosen
returns-clause-chosen c = core_choices_filled

pub returns-clause-freed : goal.returns-clause-freed
returns-clause-freed c = core_freed_by_own
