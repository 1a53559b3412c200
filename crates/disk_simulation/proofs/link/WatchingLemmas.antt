-- For `disks_are_watched_to_their_errors`. What is watched, at each FIS of which the port reports nothing wrong.
use Rattle.std.proofs.{Common.{◌≡◌, ◌<◌, false, [], ◌∷◌, refl, sym, ap, ◌∙◌, inl, inr, Option, arith}, lemmas.Bool.{true≢false}}
use Rattle.std.specs.Prelude.{is_some}
use Rattle.port_errors.specs.declared.cause.DeviceCause.{DeviceCause}
use Rattle.hba_fbs.specs.{Taking.port_of, Views.view_of}
use Rattle.disk_simulation.specs.{Anew.{IsKeptOn, IsNextRight}, Followed.IsFollowed, Phases.WatchesWhatIsFine, Watched.WatchesOn}
use Rattle.disk_simulation.proofs.{anew.AnewJoins.hosted_on_is_kept, phases.{FollowedLemmas.next_or_fails, PhaseLemmas.{error_faults, hosted_on}}}
use Rattle.disk_simulation.proofs.link.WatchedLemmas.{takes_on, watches_on}
use Rattle.fis_view.specs.Frames.{marked}

-- an error is a fault, so where there is no fault there is no error
pub watches_what_is_fine : WatchesWhatIsFine
watches_what_is_fine plan sectors base disk given down up bytes size run w n host new report commands past sound below plain framed from_n hosted takes heard_it fine goes =
    let small : n < 16 = omega (arith, below) in
    let laws : WatchesOn = watches_on in
    let f : IsFollowed base disk given down [] (bytes ∷ up) = laws.follows base disk given down [] (bytes ∷ up) w in
    let kept : IsKeptOn n base host given commands past = hosted_on_is_kept n base host given commands past below hosted in
    let none : is_some report.fault ≡ false = ap (λ (o : Option DeviceCause). is_some o) fine in
    let right : IsNextRight given bytes = elim (next_or_fails plan sectors base disk given down up bytes size run f kept.careful) [
      | inl fails ↦ absurd (true≢false (sym (error_faults n host new bytes report small plain takes heard_it fails) ∙ none))
      | inr right ↦ right
    ] in
    record {
      watched = elim (takes_on base disk given down up bytes w) [
        | inl last ↦ absurd (true≢false (sym (error_faults n host new bytes report small plain takes heard_it last.fails) ∙ none))
        | inr on ↦ on
      ];
      hosted =
          hosted_on plan sectors base disk given down up bytes size run f n host new report commands past sound below plain framed from_n hosted takes
          heard_it right fine goes (view_of (port_of (marked bytes n)) host.port).state.resetting refl;
    }
