-- The lemmas of this crate that proofs of other crates use. What else stands under proofs/ may change at any time, and is
-- not seen from outside.
pub use Rattle.hba_driver.proofs.ticks.{DueLemmas.runs_turn, LifeLemmas.{due_seen, keeps_tick}, ServeLemmas.{act_clears, ticks_serve}}
pub use Rattle.hba_driver.proofs.modes.{ModeLemmas.ignores_as, RowMode.{heard_as, skipped_as, spares_as}, SwitchLemmas.{sight_is, tick_acts}}
pub use Rattle.hba_driver.proofs.calls.{RequestLemmas.set_cases, SubmitLemmas.{is_taken, none_conflict}}
pub use Rattle.hba_driver.proofs.requests.HistoryLemmas.{back_of, each_run_keeps, free_other, freed, lives_turn, none_gives, poll_facts}
pub use Rattle.hba_driver.proofs.requests.{HistoryLemmas.requests_turn, ComeLemmas.comes_from, StandLemmas.in_slots}
pub use Rattle.hba_driver.proofs.{ends.FaultLemmas.errors_are_named, events.{DrivenLemmas.{not_below, tick_is}, EventLemmas.sound_beside}}
pub use Rattle.hba_driver.proofs.events.{OpenLemmas.up_of, SoundLemmas.{hosts_stay_sound, sound_turn, zeroed_right}}
pub use Rattle.hba_driver.proofs.{events.TurnLemmas.{each_run_tells, sound_shared, turns_are_events}, issued.IssueLemmas.told_of}
pub use Rattle.hba_driver.proofs.issued.{IssuingLemmas.{asked_is, bit_other, issued_cases}, ServingLemmas.not_busy, TickingLemmas.free_slot}
pub use Rattle.hba_driver.proofs.{issued.{EndingLemmas.may_end, ServedLemmas.{seen_served, turns_serve}}, delivery.HeldLemmas.turns_hold_writes}
pub use Rattle.hba_driver.proofs.delivery.{InsideLemmas.{as_long, good_since, issue_inside, tick_client}, DeliveredLemmas.turns_deliver}
pub use Rattle.hba_driver.proofs.{accepted.AcceptLemmas.{none_here, way_opens, way_turn, writes_are_accepted}, steady.BesideLemmas.tick_beside}
pub use Rattle.hba_driver.proofs.steady.RowLemmas.{flush_row, opens_row, rows_stay}
pub use Rattle.hba_driver.proofs.steady.SteadyLemmas.{act_keeps, keeps_then, of_turn, set_other, turn_keeps}
pub use Rattle.hba_driver.proofs.steady.SteadyTurns.{acted_plan, begun_calm, begun_later, begun_slot, calm_or_flush, flush_steady, issued_unended}
pub use Rattle.hba_driver.proofs.steady.{SteadyTurns.{opens_steady, signed_by, steady_fields, steps_alone, turn_steady}, AbsentLemmas.turn_was}
pub use Rattle.hba_driver.proofs.done.{TrueLemmas.done_is_true, ReportLemmas.{all_wider, turn_stands}}
pub use Rattle.hba_driver.proofs.{done.ReportRuns.{done_was_reported, first_turn, later_turn}, goes_on.{StopLemmas.either, PageLemmas.poll_plan}}
pub use Rattle.hba_driver.proofs.goes_on.GoingLemmas.{goes_on, going_opens, going_turn}
pub use Rattle.hba_driver.proofs.{addresses.AddressLemmas.{none_issued, turn_addressed, turn_their}, slot31.Push31Lemmas.{begins_srst, ends_srst}}
pub use Rattle.hba_driver.proofs.slot31.{Slot31Lemmas.{seen_free, seen_out, seen_unasked}, Tick31Lemmas.faulty_shown}
pub use Rattle.hba_driver.proofs.slot31.Turn31Lemmas.{control_in31, opens31, turn31}
pub use Rattle.hba_driver.proofs.{slot31.ScansTurns.{found_opens, free_seen, scans_on, tells_on, told_seen}, anew.FlushLemmas.flush_unreset}
pub use Rattle.hba_driver.proofs.anew.TendedLemmas.{at_stage, recovering_ready, stage_is, unworked}
pub use Rattle.hba_driver.proofs.anew.TendedTurns.{issued_live, slot_over, steady_tends, stepless_slot, turn_tended}
pub use Rattle.hba_driver.proofs.{anew.SetsLemmas.each_reset_is_driven, known.{PushedLemmas.request_of_slot, QueuedLemmas.queued_by}}
pub use Rattle.hba_driver.proofs.known.AsksLemmas.{asking_known, asking_opens, asking_turn}
pub use Rattle.hba_driver.proofs.recovers.ApartPushes.{alone_issue, is_alone, pushes_on, stays_on}
pub use Rattle.hba_driver.proofs.recovers.{ApartViews.{clearing_own_view, clearing_view, step30}, UnsoughtLemmas.stays_unsought}
pub use Rattle.hba_driver.proofs.recovers.{ApartTakes.takes_lead, ApartTicks.{cleared_faulty, ticks_lead}}
