use Rattle.sata_disk_books.proofs.Asked.{commands_are_asked}
use Rattle.sata_disk_books.proofs.laws.commands_are_asked.Goals as goal

pub returns : goal.returns
returns c = commands_are_asked
