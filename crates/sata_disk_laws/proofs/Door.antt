-- The lemmas of this crate that proofs of other crates use.
pub use Rattle.sata_disk_laws.proofs.Runs.{calls_after, calls_both, engine_asked}
