-- The lemmas of this crate that proofs of other crates use. What else stands under proofs/ may change at any time, and is
-- not seen from outside.
pub use Rattle.hba_commands.proofs.AgreeLemmas.{header_same}
pub use Rattle.hba_commands.proofs.PutLemmas.{length-header_bytes}
pub use Rattle.hba_commands.proofs.RequestLemmas.{built_long}
