-- The lemmas of this crate that proofs of other crates use. What else stands under proofs/ may change at any time, and is
-- not seen from outside.
pub use Rattle.disk_model.proofs.turns.MomentLemmas.{disk_sends}
pub use Rattle.disk_model.proofs.turns.RestLemmas.{Rests, at_rest, stands_loaded}
pub use Rattle.disk_model.proofs.turns.SendLemmas.{sends_left_next}
pub use Rattle.disk_model.proofs.agreement.ShowsLemmas.{write_of_auto}
pub use Rattle.disk_model.proofs.agreement.PlaceLemmas.{length-put}
pub use Rattle.disk_model.proofs.agreement.GeometryLemmas.{chunk_part, some_chunks}
pub use Rattle.disk_model.proofs.agreement.FaultLemmas.{can_be_done}
pub use Rattle.disk_model.proofs.agreement.TransferLemmas.{setup_of_chunk}
pub use Rattle.disk_model.proofs.agreement.StartLemmas.{picked_in}
pub use Rattle.disk_model.proofs.agreement.LawLemmas.{agrees, last_may, same_turn, sized_by}
pub use Rattle.disk_model.proofs.sent.MovesLemmas.{moves_right}
pub use Rattle.disk_model.proofs.sent.TurnCases.{sent_by}
pub use Rattle.disk_model.proofs.sent.AnswerLaws.{answers_right}
pub use Rattle.disk_model.proofs.sent.ErrorLaws.{errs_right}
pub use Rattle.disk_model.proofs.both_ends.CrossLemmas.{asks_fits, bits_up, but_free, data_down}
pub use Rattle.disk_model.proofs.both_ends.CrossLemmas.{found_not, goes_by, has_left, has_more, never_empty}
pub use Rattle.disk_model.proofs.both_ends.CrossLemmas.{opens_free}
pub use Rattle.disk_model.proofs.both_ends.EntersLemmas.{up_leaves}
pub use Rattle.disk_model.proofs.both_ends.EndsLemmas.{careful_last, ends_agree, ledger_push, run_before, sent_right}
pub use Rattle.disk_model.proofs.both_ends.EndsLemmas.{tie_comes, tie_gives, tie_sends, tie_takes}
pub use Rattle.disk_model.proofs.both_ends.AnewLemmas.{after_more, begins_anew, ends_agree_anew, linked_since_new}
pub use Rattle.disk_model.proofs.both_ends.AnewLemmas.{resting_is_silent}
pub use Rattle.disk_model.proofs.both_ends.WrittenLemmas.{writes_stay}
pub use Rattle.disk_model.proofs.both_ends.LaterLemmas.{later_is_linked, later_tells_of_all}
pub use Rattle.disk_model.proofs.media.PutLemmas.{lie_where_put}
pub use Rattle.disk_model.proofs.media.FrontLemmas.{before_is_front, host_is_ahead}
pub use Rattle.disk_model.proofs.media.LastLemmas.{lie_on, shows_the_last}
pub use Rattle.disk_model.proofs.turns.QuietLemmas.{turn_read, turn_start}
