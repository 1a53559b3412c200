-- The lemmas of this crate that proofs of other crates use. What else stands under proofs/ may change at any time, and is
-- not seen from outside.
pub use Rattle.disk_simulation.proofs.others.{ElsewhereLemmas.others_leave_device, CalmLemmas.calm_runs_keep}
pub use Rattle.disk_simulation.proofs.{together.TogetherLemmas.{no_end, not_pio}, joined.OutLemmas.begun_none}
pub use Rattle.disk_simulation.proofs.{joined.{HeardLemmas.{heard_as_told, there_by}, MarkedLemmas.marks_tell_nothing}, anew.AnewHonest.next_anew}
pub use Rattle.disk_simulation.proofs.anew.SignsLemmas.{signature_is_none, signed, view_signed}
pub use Rattle.disk_simulation.proofs.anew.AnewJoins.{hosted_on_is_kept, hosted_since_new, opens_after, opens_signing}
pub use Rattle.disk_simulation.proofs.{anew.HostedLemmas.{hosted_is_kept, no_context}, phases.AsideLemmas.aside_is_kept}
pub use Rattle.disk_simulation.proofs.phases.{CalmOn.calm_leaves_together, FollowedLemmas.{next_or_fails, run_to, same_first}}
pub use Rattle.disk_simulation.proofs.{phases.PhaseLemmas.{each_done, error_faults, none_is}, link.MarkedFiles.{disk_marked, marks_ask_nothing}}
pub use Rattle.disk_simulation.proofs.link.{LineLemmas.lines_go_on, WatchedLemmas.{watched_is_ahead, watches_on}}
pub use Rattle.disk_simulation.proofs.link.LooseLemmas.{careful_before, lines_begin, next_of_disk, not_base, since_of}
pub use Rattle.disk_simulation.proofs.task_files.{FileLaws.{both_have_begun, files_stay_fine}, FilesLeft.files_are_left}
pub use Rattle.disk_simulation.proofs.task_files.OutcomeLemmas.{began_unset, not_yet, nothing_is_given}
