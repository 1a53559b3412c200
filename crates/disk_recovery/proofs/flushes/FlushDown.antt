-- For `flushes_are_taken`. As the answer of a command that is not queued comes next, no FLUSH is on its way down: the
-- disk took it.
use Rattle.std.proofs.{Common.{◌≡◌, ℕ, false, List, [], ◌∷◌, ◌++◌, append_assoc, sym, ap, subst, ◌∙◌}, lemmas.Bool.{true≢false}}
use Rattle.fis_view.specs.Seen.{seen}
use Rattle.disk_model.specs.{declared.plan.DiskPlan.DiskPlan, Anew.{IsCarefulSince, IsLinkedOn}, Ends.{Rests, reports, with_down}}
use Rattle.disk_model.specs.{Histories.{Happening, Sent}, Ledger.{IsSize, Ledger, ledger, listens}, Runs.IsDiskRun, Between.{AreFit, Ties}}
use Rattle.disk_model.proofs.Door.{errs_right}
use Rattle.disk_simulation.specs.Watched.{Erred, Fine, IsWatchedTo}
use Rattle.disk_simulation.proofs.Door.{run_to, same_first}
use Rattle.disk_recovery.specs.Flushes.{flushes_among}
use Rattle.disk_recovery.proofs.{coming.ErrorLemmas.{IsAsked, asked_with, error_asked, ties_anew}, flushes.FlushLemmas.{first_up, none_flushes}}
use Rattle.disk_recovery.proofs.flushes.FlushLemmas.{quiet_up, right_later}

module _ (plan : DiskPlan) (sectors : ℕ) (base given : List Happening) (bytes : List ℕ) (size : IsSize plan sectors) (careful : IsCarefulSince base given)
    (rests : Rests (listens (ledger given) (Sent bytes))) where
  record IsPassed (disk : List Happening) (down : List (List ℕ)) : Type 0 where
    none : flushes_among down ≡ 0
    fit : AreFit (ledger disk) down
    rests_then : Rests (with_down (ledger disk) down)

  linked_passed : (disk : List Happening) (down up : List (List ℕ)) → IsDiskRun plan sectors disk → IsLinkedOn base disk given down [] (bytes ∷ up)
      → IsPassed disk down
  linked_passed disk down up run linked =
      let t : Ties disk given down (bytes ∷ up) = ties_anew plan sectors size base disk given down [] (bytes ∷ up) linked run careful in
      let is : with_down (ledger disk) down ≡ listens (ledger given) (Sent bytes) =
      sym t.same ∙ first_up (ledger given) bytes up
      ∙ quiet_up (listens (ledger given) (Sent bytes)) up rests (right_later (ledger given) bytes up t.right) in
      record {
        none = none_flushes (ledger disk) down t.fit (ap (λ (l : Ledger). l.awaited) is ∙ rests.awaited);
        fit = t.fit;
        rests_then = subst Rests (sym is) rests;
      }

  pub watched_passed : (disk : List Happening) (down up : List (List ℕ)) → IsDiskRun plan sectors disk → reports (seen bytes) ≡ false
      → IsWatchedTo base disk given down [] (bytes ∷ up) → flushes_among down ≡ 0
  watched_passed disk down up run fine (Fine linked) = (linked_passed disk down up run linked).none
  watched_passed disk down up run fine (Erred followed later error below before disk_is up_is bad linked erred) = absurd (by_before before up_is linked)
    where
      by_before : (before : List (List ℕ)) → bytes ∷ up ≡ before ++ error ∷ [] → IsLinkedOn base followed given below [] before → ⊥
      by_before [] is on = true≢false (sym bad ∙ ap (λ (b : List ℕ). reports (seen b)) (same_first bytes error up [] is).0 ∙ fine)
      by_before (b ∷ rest) is on =
          let first = same_first bytes b up (rest ++ error ∷ []) is in
          let p : IsPassed followed below =
          linked_passed followed below rest (run_to plan sectors disk followed (Sent error ∷ later) disk_is run)
          (subst (λ (x : List ℕ). IsLinkedOn base followed given below [] (x ∷ rest)) first.0 on) in
          let goes : IsDiskRun plan sectors (followed ++ Sent error ∷ []) =
          run_to plan sectors disk (followed ++ Sent error ∷ []) later (disk_is ∙ sym (append_assoc followed (Sent error ∷ []) later)) run in
          let was : IsAsked (ledger followed) =
          error_asked plan sectors (ledger followed) (seen error) (errs_right plan sectors followed error size goes) bad in
          (asked_with (ledger followed) below p.fit was).1 p.rests_then.outstanding
