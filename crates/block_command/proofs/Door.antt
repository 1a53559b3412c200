-- The lemmas of this crate that proofs of other crates use.
pub use Rattle.block_command.proofs.Ends.{Agrees, at, begins, rights_then, same_command, steps}
