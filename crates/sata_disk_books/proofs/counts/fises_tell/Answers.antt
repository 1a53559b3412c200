use Rattle.sata_disk_books.proofs.Told.{fises_tell}
use Rattle.sata_disk_books.proofs.counts.fises_tell.Goals as goal

pub returns : goal.returns
returns c = fises_tell c.data_are_counted.ensures c.answers_are_single.ensures
