-- The lemmas of this crate that proofs of other crates use.
pub use Rattle.block_disk.proofs.Ends.{Kept, Matches, each_is, kept_none}
pub use Rattle.block_disk.proofs.Numbers.{Agree, numbers_are_fresh, one}
pub use Rattle.block_disk.proofs.Wire.{Held, next as stays_held, none_held}
