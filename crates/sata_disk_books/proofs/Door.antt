-- The lemmas of this crate that proofs of other crates use.
pub use Rattle.sata_disk_books.proofs.Walks.{after_deeds, books_both, call_after, ends_after, line_then, moved, shown_both, shown_from}
pub use Rattle.sata_disk_books.proofs.Asked.{Each, OfDeed, OfStep, moves_deeds, steps_moves}
pub use Rattle.sata_disk_books.proofs.Counted.{Good, calls_good, data_stage, new_good, of_case}
pub use Rattle.sata_disk_books.proofs.Does.{AreDone, IsQuietCall, call_are, call_quiet, deeds_by, line_by, sent_deeds, shown_by, steps_done}
pub use Rattle.sata_disk_books.proofs.Holds.{is_loud_stage}
pub use Rattle.sata_disk_books.proofs.Sound.{IsQuiet, loud_at}
