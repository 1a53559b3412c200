-- For `ends_go_on`. A disk and the host that serves it stay together as the host gives the disk a FIS: a plain one, and
-- none while an answer is all that is to come.
use Rattle.std.proofs.Common.{◌≡◌, ℕ, ◌<◌, List, [], ◌∷◌, ◌++◌, sym, subst, inl, inr, arith, Some}
use Rattle.std.proofs.lemmas.{Bool.cases_Bool, List.append_cancel_left}
use Rattle.fis_view.specs.{Frames.{Stamped, marked}, Seen.seen}
use Rattle.hba_fbs.specs.Views.{view_of}
use Rattle.disk_model.specs.{Anew.IsCarefulSince, Ends.{Fits, FitsAll}, Histories.{Happening, Received}, Ledger.{ShowsPage, Signs, ledger}}
use Rattle.hba_laws.specs.{Client.{Touches, own}, Delivering.touches_after}
use Rattle.disk_simulation.specs.{Outcomes.HasFineFile, Watched.{GavePlain, IsPlain}}
use Rattle.disk_simulation.proofs.Door.{files_are_left, hosted_on_is_kept, not_base, nothing_is_given, watches_on}
use Rattle.hba_driver.specs.{Events.{events_over, shared_by}, HostTurns.{Does, DoesAll, Host, Pushed}}
use Rattle.disk_recovery.specs.{Kept.given_to, Together.{GivesOnAnew, ServesOnAnew}, Unasked.IsUnasked}
use Rattle.disk_recovery.specs.Ends.{EndsAfter, IsOnTime, IsTogether, Resetting, Steady, Together}
use Rattle.disk_recovery.proofs.{together.TogetherPushes.pushes_go_on_on, honest.TurnLemmas.after, unasked.UnaskedLemmas.stays_unasked}
use Rattle.disk_recovery.proofs.both_ends.{GivenLemmas.given_its, WorkedLemmas.more_worked, Unfaulted.{opened_stays, turn_unfaulted}}
use Rattle.disk_recovery.proofs.both_ends.FloorLemmas.{floors_more, reached_on}

-- what a careful host gives first fits what both ends tell where they begin
first_fits : (base : List Happening) (bytes : List ℕ) → IsCarefulSince base (base ++ Received bytes ∷ []) → Fits (ledger base) (seen bytes)
unfolding FitsAll
first_fits base bytes careful =
    let since : Received bytes ∷ [] ≡ careful.since = append_cancel_left base (Received bytes ∷ []) careful.since careful.is in
    let fits : FitsAll (ledger base) (Received bytes ∷ []) = subst (λ (xs : List Happening). FitsAll (ledger base) xs) (sym since) careful.fits in
    fits.0

module _ (n : ℕ) (old : Host) (frame : Stamped) (new : Host) (run : DoesAll old (Pushed (Some frame) ∷ []) new) (disk : List Happening)
    (down up : List (List ℕ)) (floors : ℕ → ℕ) (touches : Touches) (below : n < 15) (its : frame.stamp.port ≡ n) (t : IsTogether n old disk down up floors touches) where
  pushes : Does old (Pushed (Some frame)) new
  pushes = after old (Pushed (Some frame)) new run

  bytes : List ℕ
  bytes = marked frame.bytes 0

  given_is : given_to n (Some frame) ≡ Received (marked frame.bytes 0) ∷ []
  given_is = given_its n old touches frame new t.served.sound t.served.served pushes its

  gives : GivesOnAnew n t.base old (Some frame) new run t.given t.commands touches
  gives = pushes_go_on_on n t.base old (Some frame) new run t.given t.commands touches below t.served

  plain : IsPlain (seen (marked frame.bytes 0))
  plain = let all : GavePlain (Received (marked frame.bytes 0) ∷ []) = subst GavePlain given_is gives.plain in all.0

  s : ServesOnAnew n t.base old (Pushed (Some frame)) new run t.given (t.given ++ Received (marked frame.bytes 0) ∷ []) t.commands touches
  s = subst (λ (xs : List Happening). ServesOnAnew n t.base old (Pushed (Some frame)) new run t.given (t.given ++ xs) t.commands touches) given_is gives.on

  -- something was given or heard before
  begun : t.given ≡ t.base → ⊥
  begun same =
      let later : Touches =
      touches_after touches (shared_by old) (shared_by new) (events_over old new (Pushed (Some frame) ∷ []) run) s.serves.runs in
      let careful : IsCarefulSince t.base (t.given ++ Received (marked frame.bytes 0) ∷ []) =
      (hosted_on_is_kept n t.base (shared_by new) (t.given ++ Received (marked frame.bytes 0) ∷ []) s.next (own n later) below s.on.hosted).careful in
      let fits : Fits (ledger t.base) (seen (marked frame.bytes 0)) =
      first_fits t.base (marked frame.bytes 0)
      (subst (λ (g : List Happening). IsCarefulSince t.base (g ++ Received (marked frame.bytes 0) ∷ [])) same careful) in
      elim t.owes [
        | inl signs ↦ nothing_is_given (ledger t.base) Signs [] (marked frame.bytes 0) signs fits
        | inr page ↦ nothing_is_given (ledger t.base) ShowsPage (page.0 ∷ []) (marked frame.bytes 0) page.1 fits
      ]

  -- and now
  more : t.given ++ Received (marked frame.bytes 0) ∷ [] ≡ t.base → ⊥
  more same = not_base t.base t.given t.watched.gave.since (Received (marked frame.bytes 0)) t.watched.gave.is same

  on_time : IsOnTime n old t.base t.given t.stale → IsOnTime n new t.base (t.given ++ Received (marked frame.bytes 0) ∷ []) t.stale
  on_time (Steady none unreset away) =
      Steady none (elim (cases_Bool (view_of n new.port).state.resetting) [
        | inl on ↦ absurd (more (s.on.resets on).1)
        | inr off ↦ off
      ]) (λ same there. more same)
  on_time (Resetting quiet same owes there) = absurd (begun same)

  file : HasFineFile n (shared_by old) t.base t.given → HasFineFile n (shared_by new) t.base (t.given ++ Received (marked frame.bytes 0) ∷ [])
  file (inl same) = absurd (begun same)
  file (inr fine) = inr (files_are_left.gives n (shared_by old) (shared_by new) (Some frame) (pushes.gives, pushes.memory) fine)

  pub together_gives : EndsAfter n old (Pushed (Some frame)) new run disk (down ++ marked frame.bytes 0 ∷ []) up floors touches
  together_gives = record {
    serves = s.serves;
    ends = Together (record {
      base = t.base;
      given = t.given ++ Received (marked frame.bytes 0) ∷ [];
      commands = s.next;
      stale = t.stale;
      later = t.later;
      up_is = t.up_is;
      on_time = on_time t.on_time;
      watched = watches_on.gives t.base disk t.given down t.stale t.later (marked frame.bytes 0) plain t.watched;
      served = s.on;
      told = floors_more floors t.given (Received (marked frame.bytes 0) ∷ []) t.told;
      entered = t.entered;
      reached =
          reached_on floors t.commands s.next t.given (own n touches) (own n (touches_after touches (shared_by old) (shared_by new)
          (events_over old new (Pushed (Some frame) ∷ []) run) s.serves.runs)) t.told s.counted t.reached;
      begun = t.begun;
      owes = t.owes;
      opened = opened_stays old (Pushed (Some frame)) new pushes t.opened;
      well = turn_unfaulted n (omega (arith, below)) old (Pushed (Some frame)) new pushes t.served.sound tt t.well;
      unasked = subst (λ (xs : List Happening). IsUnasked n new (t.given ++ xs)) given_is
          ((stays_unasked n).pushes t.base old (Some frame) new t.given t.commands touches below pushes t.served t.unasked);
      file = file t.file;
      unready = λ same ready. more same;
      worked = more_worked n new t.base t.given t.watched.gave.since (Received (marked frame.bytes 0)) t.watched.gave.is;
    });
  }
