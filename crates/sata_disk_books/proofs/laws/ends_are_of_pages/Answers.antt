use Rattle.sata_disk_books.proofs.{Ended.{ends_are_of_pages, singles_are_of_pages}, NoEnds.only_ends_end}
use Rattle.sata_disk_books.proofs.laws.ends_are_of_pages.Goals as goal

pub returns-clause-ends : goal.returns-clause-ends
returns-clause-ends c = ends_are_of_pages c.ends_are_earned.ensures

pub returns-clause-only : goal.returns-clause-only
returns-clause-only c = only_ends_end

pub returns-clause-singles : goal.returns-clause-singles
returns-clause-singles c = singles_are_of_pages c.ends_are_earned.ensures c.fises_are_told.ensures
