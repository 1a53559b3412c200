use Rattle.disk_model.proofs.media.LoadLemmas.{loaded_is_first, loaded_is_under_writes}
use Rattle.disk_model.proofs.laws.loaded_disks_show_their_sectors.Goals as goal

pub returns-clause-first : goal.returns-clause-first
returns-clause-first c = loaded_is_first

pub returns-clause-under : goal.returns-clause-under
returns-clause-under c = loaded_is_under_writes
