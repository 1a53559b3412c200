use Rattle.sata_disk_books.proofs.Counted.{data_are_counted}
use Rattle.sata_disk_books.proofs.counts.data_are_counted.Goals as goal

pub returns : goal.returns
returns c = data_are_counted
