-- The lemmas of this crate that proofs of other crates use.
pub use Rattle.block_queue.proofs.Kept.{new_line, any_at, any_found, any_none, of_and, of_or, runs_before}
pub use Rattle.block_queue.proofs.Apart.{left_read, requests_are_apart, storing_runs}
pub use Rattle.block_queue.proofs.Deeds.{data_are_named, ends_are_earned, line_after, numbers_are_fresh}
pub use Rattle.block_queue.proofs.Moves.{orphan_goes, others_go, running_goes}
pub use Rattle.block_queue.proofs.Watched.{IsBare, IsChecked, bare, checked_all, checked_end, checked_none, checked_on}
