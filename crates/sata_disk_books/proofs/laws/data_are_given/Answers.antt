use Rattle.sata_disk_books.proofs.Given.{data_are_given}
use Rattle.sata_disk_books.proofs.laws.data_are_given.Goals as goal

pub returns : goal.returns
returns c = data_are_given c.ends_are_earned.ensures
