-- The lemmas of this crate that proofs of other crates use. What else stands under proofs/ may change at any time, and is
-- not seen from outside.
pub use Rattle.disk_recovery.proofs.honest.AwayLemmas.{beside_away, calm_ends}
pub use Rattle.disk_recovery.proofs.honest.TurnLemmas.{calm_turns_keep, flush_opens, none_in_slot, none_issued, opens_honestly}
pub use Rattle.disk_recovery.proofs.honest.{FisLemmas.request_kind, PushLemmas.pushes_keep, TakeLemmas.takes_keep}
pub use Rattle.disk_recovery.proofs.both_ends.{Unfaulted.{flush_unfaulted, never_cleared, opened_stays, turns_unfaulted}, Beginnings.flush_begins}
pub use Rattle.disk_recovery.proofs.{each_end.HonestEnds.each_end_is_honest, flushes.FlushLemmas.flushes_more}
pub use Rattle.disk_recovery.proofs.flushes.FlushTurns.{ends_since_go_on, floor_stays, floors_rise_since, floors_stay, request_pio, since_begins}
pub use Rattle.disk_recovery.proofs.flushes.FlushEnds.{flushes_are_taken}
