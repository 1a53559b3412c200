-- The lemmas of this crate that proofs of other crates use. What else stands under proofs/ may change at any time, and is
-- not seen from outside.
pub use Rattle.host_memory.proofs.AgreeLemmas.{agree_beside, agree_within, dword_same, length-overwritten}
pub use Rattle.host_memory.proofs.AgreeLemmas.{overwritten_beside, says_the_same}
pub use Rattle.host_memory.proofs.MemoryLemmas.{length-zeros, zeros_sized}
pub use Rattle.host_memory.proofs.OverlapLemmas.{apart_from_overlap, in_order_apart, list_any-true, share_with-true}
pub use Rattle.host_memory.proofs.PlaceLemmas.{place_has, place_injective, place_inside}
pub use Rattle.host_memory.proofs.PrdLemmas.{inside_from_faults}
pub use Rattle.host_memory.proofs.WriteLemmas.{drop_overwritten, length-table_bytes, overwritten-more}
pub use Rattle.host_memory.proofs.WrittenLemmas.{scattered, written_at, written_elsewhere}
