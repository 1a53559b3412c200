use Rattle.sata_disk_books.proofs.Taken.{all_taken, since_taken}
use Rattle.sata_disk_books.proofs.counts.data_are_taken.Goals as goal

pub returns : goal.returns
returns c = record { all = all_taken; since = since_taken }
