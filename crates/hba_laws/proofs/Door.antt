-- The lemmas of this crate that proofs of other crates use. What else stands under proofs/ may change at any time, and is
-- not seen from outside.
pub use Rattle.hba_laws.proofs.soundness.KeptLemmas.{client_lens, fb_kept}
pub use Rattle.hba_laws.proofs.soundness.SoundLemmas.{opens_sound, sizes_stay}
pub use Rattle.hba_laws.proofs.prd_tables.TableLemmas.{stands_readable}
pub use Rattle.hba_laws.proofs.histories.ViewLemmas.{at_same, ext, held, is_own}
pub use Rattle.hba_laws.proofs.histories.ViewLemmas.{none_waits, own_below, own_freed, own_here, own_in, own_issued}
pub use Rattle.hba_laws.proofs.histories.ViewLemmas.{own_set}
pub use Rattle.hba_laws.proofs.histories.StandLemmas.{filling_is, if_there, some_inj, the}
pub use Rattle.hba_laws.proofs.histories.AgreeLemmas.{at_is, unless_some}
pub use Rattle.hba_laws.proofs.histories.StepLemmas.{whole_is}
pub use Rattle.hba_laws.proofs.histories.HearLemmas.{payload_is}
pub use Rattle.hba_laws.proofs.histories.IssueLemmas.{asked_free, other_below, own_app, own_below_is}
pub use Rattle.hba_laws.proofs.histories.EventLemmas.{goes_out, histories_are_parts, own_one, step}
pub use Rattle.hba_laws.proofs.isolation.OutgoingLemmas.{data_is, data_is_own, order_filled, order_is}
pub use Rattle.hba_laws.proofs.isolation.OutgoingLemmas.{order_is_own}
pub use Rattle.hba_laws.proofs.isolation.SlotLemmas.{keeps_fed, keeps_moved, keeps_sent}
pub use Rattle.hba_laws.proofs.isolation.IsolationLemmas.{fold_of_own}
pub use Rattle.hba_laws.proofs.isolation.AlikeLemmas.{histories_by_own}
pub use Rattle.hba_laws.proofs.completed.OnceLemmas.{completes_once}
pub use Rattle.hba_laws.proofs.completed.DoneLemmas.{done_is_completed, opens_untold}
pub use Rattle.hba_laws.proofs.placed.WithinLemmas.{the_transfer}
pub use Rattle.hba_laws.proofs.placed.ClientLemmas.{client_is_touched, data_is_within, histories_step}
pub use Rattle.hba_laws.proofs.placed.SpareLemmas.{clear_none, falls_none, gives_commands, issued_before}
pub use Rattle.hba_laws.proofs.placed.SpareLemmas.{out_none, spared_tables_read, took_none, was_there}
pub use Rattle.hba_laws.proofs.placed.ReadLemmas.{done_reads_stand}
pub use Rattle.hba_laws.proofs.gathered.SentLemmas.{sent_stands_in_place}
pub use Rattle.hba_laws.proofs.gathered.GatherLemmas.{data_is_gathered, order_quiet, quiet_holds, write_quiet}
