use Rattle.sata_disk_books.proofs.Places.{pages_are_of_places, places_are_tags}
use Rattle.sata_disk_books.proofs.laws.places_are_tags.Goals as goal

pub returns-clause-pages : goal.returns-clause-pages
returns-clause-pages c = pages_are_of_places

pub returns-clause-tags : goal.returns-clause-tags
returns-clause-tags c = places_are_tags
