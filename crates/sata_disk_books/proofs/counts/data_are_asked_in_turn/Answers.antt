use Rattle.sata_disk_books.proofs.Turning.{asks_in_turn, awaits_asked}
use Rattle.sata_disk_books.proofs.counts.data_are_asked_in_turn.Goals as goal

pub returns : goal.returns
returns c = record { turns = asks_in_turn; awaits = awaits_asked c.data_are_taken.ensures.since }
