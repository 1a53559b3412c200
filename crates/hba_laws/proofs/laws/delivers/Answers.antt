use Rattle.hba_laws.proofs.{placed.ClientLemmas.{client_is_touched, data_is_within}, completed.DoneLemmas.{done_is_completed, opens_untold}}
use Rattle.hba_laws.proofs.{histories.EventLemmas.{histories_are_parts, views_are_told}, placed.KeepingLemmas.kept_tables_stay}
use Rattle.hba_laws.proofs.{completed.OnceLemmas.completes_once, placed.{ReadLemmas.done_reads_stand, SpareLemmas.spared_tables_read}}
use Rattle.hba_laws.proofs.histories.StandLemmas.{completes_in_place, stands_in_place}
use Rattle.hba_laws.proofs.laws.delivers.Goals as goal

pub returns-clause-agrees : goal.returns-clause-agrees
returns-clause-agrees c = views_are_told

pub returns-clause-opens : goal.returns-clause-opens
returns-clause-opens c = opens_untold

pub returns-clause-parts : goal.returns-clause-parts
returns-clause-parts c = histories_are_parts

pub returns-clause-done : goal.returns-clause-done
returns-clause-done c = done_is_completed

pub returns-clause-once : goal.returns-clause-once
returns-clause-once c = completes_once

pub returns-clause-client : goal.returns-clause-client
returns-clause-client c = client_is_touched

pub returns-clause-tables : goal.returns-clause-tables
returns-clause-tables c = spared_tables_read

pub returns-clause-standing : goal.returns-clause-standing
returns-clause-standing c = stands_in_place

pub returns-clause-placed : goal.returns-clause-placed
returns-clause-placed c = completes_in_place

pub returns-clause-within : goal.returns-clause-within
returns-clause-within c = data_is_within

pub returns-clause-stands : goal.returns-clause-stands
returns-clause-stands c = done_reads_stand

pub returns-clause-kept : goal.returns-clause-kept
returns-clause-kept c = kept_tables_stay
