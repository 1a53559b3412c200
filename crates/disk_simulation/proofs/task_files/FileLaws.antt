-- For `task_files_stay_fine`. The task file of a disk that is watched, at each FIS that comes from it and at what goes
-- to it.
use Rattle.std.proofs.Common.{◌≡◌, ℕ, ◌<◌, true, false, List, [], ◌∷◌, drop, refl, sym, ap, subst, ◌∙◌, inl, inr, None, Ok, Result, arith}
use Rattle.std.proofs.lemmas.{Bool.true≢false, List.append_cancel_left}
use Rattle.std.specs.Prelude.{◌⊎◌, is_some}
use Rattle.fis_view.specs.{Frames.marked, Seen.seen, declared.view.{Fis.Fis, FisFault.FisFault}}
use Rattle.fis_view.specs.declared.view.Fis.TheVariants as view
use Rattle.hba_fbs.specs.{declared.{hearing.Heard.Heard, report.TakeReport.TakeReport}, Tables.is_sound, Taking.{admitted, device_cause, heard_now}}
use Rattle.hba_fbs.specs.{Taking.{heard_report, ignores, port_of, view_after_hearing}, Views.{DeviceView, view_of}}
use Rattle.disk_model.specs.{declared.{plan.DiskPlan.DiskPlan, request.Request.{Request, TheVariants.{Queue, Identify, Flush}}}, Anew.IsClear}
use Rattle.disk_model.specs.{Ends.{Fits, FitsAll, IsRight}, Histories.{Happening, Plugged, Loaded, Received, Sent}, Ledger.{Accepts, Finishes}}
use Rattle.disk_model.specs.{Ledger.{Ledger, ShowsPage, ledger, ledger_after, listens, listens_down}, Requests.request_of, Between.alone}
use Rattle.disk_model.proofs.Door.{after_more, asks_fits}
use Rattle.hba_laws.specs.Hosts.{Host, TakesFrame}
use Rattle.disk_simulation.specs.{Anew.IsNextRight, Files.{BothHaveBegun, FilesStayFine, IsFineFile, IsNextHeard, IsNoRefusal, IsOfDisk, IsUnrefused}}
use Rattle.disk_simulation.specs.{Files.NothingIsRefused, Followed.IsFollowed, Line.{EachReply, IsNoSignature, IsWatchedWell, ToSign, Unsigned}}
use Rattle.disk_simulation.specs.{Marked.IsHeardAlike, Watched.{GavePlain, IsPlain, IsPlainRequest, IsWatched, WatchesOn}}
use Rattle.disk_simulation.proofs.{task_files.FileLemmas.{IsFineHeard, fine_view, first_heard, right_heard}, phases.FollowedLemmas.next_or_fails}
use Rattle.disk_simulation.proofs.{link.{LooseLemmas.next_of_disk, MarkedFiles.disk_marked}, joined.MarkedLemmas.marks_tell_nothing}
use Rattle.disk_simulation.proofs.{joined.HeardLemmas.heard_if, link.{PlainLemmas.{each_push, leaves_taken, leaves_up}, WatchedLemmas.watches_on}}

-- ## Nothing is refused

unrefused_alone : (k : Ledger) (r : Request) → IsPlainRequest r → IsUnrefused k → EachReply IsNoRefusal (alone k r).awaited
unrefused_alone k (Queue c) plain none = each_push IsNoRefusal k.awaited Accepts none tt
unrefused_alone k Identify plain none = each_push IsNoRefusal k.awaited ShowsPage none tt
unrefused_alone k Flush plain none = each_push IsNoRefusal k.awaited Finishes none tt
unrefused_alone k other plain none = absurd plain

unrefused_down : (k : Ledger) (r : Result Fis FisFault) → IsPlain r → Fits k r → IsUnrefused k → IsUnrefused (listens_down k r)
unrefused_down k (Ok (view.RegH2D f)) plain fits none =
    subst IsUnrefused (sym (asks_fits k (request_of f) fits.0 fits.1)) (unrefused_alone k (request_of f) plain none)
unrefused_down k (Ok (view.Payload f)) plain fits none = (leaves_taken k k.moving (drop 4 f)).each IsNoRefusal none
unrefused_down k other plain fits none = absurd plain

unrefused_all : (k : Ledger) (since : List Happening) → IsUnrefused k → GavePlain since → FitsAll k since → IsUnrefused (ledger_after k since)
unfolding FitsAll ledger_after
unrefused_all k [] none gave fits = none
unrefused_all k (Received bytes ∷ since) none gave fits =
    unrefused_all (listens k (Received bytes)) since (unrefused_down k (seen bytes) gave.0 fits.0 none) gave.1 fits.1
unrefused_all k (Sent bytes ∷ since) none gave fits =
    unrefused_all (listens k (Sent bytes)) since ((leaves_up k (seen bytes)).each IsNoRefusal none) gave fits
unrefused_all k (Plugged ∷ since) none gave fits = unrefused_all (listens k Plugged) since (tt, tt) gave fits
unrefused_all k (Loaded bytes ∷ since) none gave fits = absurd fits

pub nothing_is_refused : NothingIsRefused
nothing_is_refused base given none plain careful =
    let same : careful.since ≡ plain.since = append_cancel_left base careful.since plain.since (sym careful.is ∙ plain.is) in
    let fits : FitsAll (ledger base) plain.since = subst (FitsAll (ledger base)) same careful.fits in
    let now : ledger_after (ledger base) plain.since ≡ ledger given = sym (after_more _ base plain.since) ∙ ap ledger (sym plain.is) in
    subst IsUnrefused now (unrefused_all (ledger base) plain.since none plain.plain fits)

-- ## Where both begin

pub both_have_begun : BothHaveBegun
both_have_begun = record {
  signs = λ k owes. record { clear = owes.clear; signing = ToSign owes; unrefused = subst (EachReply IsNoRefusal) (sym owes.awaited) (tt, tt) };
  shows = λ k page owes. record {
    clear = owes.clear;
    signing = Unsigned (subst (EachReply IsNoSignature) (sym owes.awaited) (tt, tt));
    unrefused = subst (EachReply IsNoRefusal) (sym owes.awaited) (tt, tt);
  };
}

-- ## A FIS comes

module _ (plan : DiskPlan) (sectors : ℕ) (base disk given : List Happening) (down up : List (List ℕ)) (bytes : List ℕ) (n : ℕ) (host : Host)
    (report : TakeReport) (new : Host) (x : IsNextHeard plan sectors base disk given down up bytes n host report new) where
  small : n < 16
  small = let below : n < 15 = x.below in omega (arith, below)

  well : IsWatchedWell plan sectors base disk given down (bytes ∷ up)
  well = x.well

  watched : IsWatched base disk given down [] (bytes ∷ up)
  watched = well.watched

  next_right : IsNextRight given bytes
  next_right =
      let laws : WatchesOn = watches_on in
      let followed : IsFollowed base disk given down [] (bytes ∷ up) = laws.follows base disk given down [] (bytes ∷ up) watched in
      elim (next_or_fails plan sectors base disk given down up bytes well.size well.run followed well.careful) [
        | inl fails ↦ absurd (true≢false (sym fails ∙ x.fine))
        | inr right ↦ right
      ]

  marked_right : IsRight (ledger given) (seen (marked bytes n))
  marked_right =
      let a : IsHeardAlike (ledger given) bytes (marked bytes n) = marks_tell_nothing (ledger given) bytes n x.framed small in
      a.right next_right.right

  marked_mine : IsOfDisk (seen (marked bytes n))
  marked_mine = disk_marked bytes n x.framed small (next_of_disk plan sectors base disk given down up bytes well x.fine)

  unrefused : IsUnrefused (ledger given)
  unrefused = nothing_is_refused base given x.unrefused watched.gave well.careful

  not_ignored : ignores (port_of (marked bytes n)) host.port (marked bytes n) ≡ false
  not_ignored = heard_if host new (marked bytes n) report (ignores (port_of (marked bytes n)) host.port (marked bytes n)) refl x.takes x.heard

  abbrev dev : ℕ
  dev = port_of (marked bytes n)

  abbrev old_view : DeviceView
  old_view = view_of (port_of (marked bytes n)) host.port

  abbrev now_heard : Heard
  now_heard = heard_now host.port host.memory (port_of (marked bytes n)) (admitted (port_of (marked bytes n)) (seen (marked bytes n)))

  new_view : view_of (port_of (marked bytes n)) new.port ≡ view_after_hearing old_view now_heard
  new_view = let takes : TakesFrame host (marked bytes n) report new = x.takes in (takes.heard not_ignored).own

  new_fine : IsFineHeard old_view now_heard → IsFineFile (view_of n new.port)
  new_fine fine =
      subst (λ (m : ℕ). IsFineFile (view_of m new.port)) x.from (subst IsFineFile (sym new_view) (fine_view old_view now_heard fine))

  file_stays : IsFineFile (view_of n host.port) → IsFineFile (view_of n new.port)
  file_stays fine =
      new_fine (right_heard old_view (ledger given) dev (is_sound host.memory host.port.commands old_view.slots) (seen (marked bytes n)) unrefused
      marked_right marked_mine (subst (λ (m : ℕ). IsFineFile (view_of m host.port)) (sym x.from) fine))

  faulty_report : is_some (device_cause now_heard.fault) ≡ true → is_some report.fault ≡ true
  unfolding heard_report
  faulty_report is =
      let takes : TakesFrame host (marked bytes n) report new = x.takes in
      ap (λ (r : TakeReport). is_some r.fault) (takes.heard not_ignored).reports ∙ is

  file_first : IsClear (ledger base) → given ≡ base → (view_of n host.port).slots.context ≡ None
      → IsFineFile (view_of n new.port) ⊎ (is_some report.fault ≡ true)
  file_first clear new_is unset =
      let here : old_view.slots.context ≡ None = subst (λ (m : ℕ). (view_of m host.port).slots.context ≡ None) (sym x.from) unset in
      let low : dev < 15 = subst (λ (m : ℕ). m < 15) (sym x.from) x.below in
      elim (first_heard old_view (ledger given) dev (is_sound host.memory host.port.commands old_view.slots) (seen (marked bytes n)) low unrefused
      (subst (λ (h : List Happening). IsClear (ledger h)) (sym new_is) clear) marked_right marked_mine here) [
        | inl fine ↦ inl (new_fine fine)
        | inr faulty ↦ inr (faulty_report faulty)
      ]

pub files_stay_fine : FilesStayFine
files_stay_fine = record {
  stays = λ plan sectors base disk given down up bytes n host report new x fine.
      file_stays plan sectors base disk given down up bytes n host report new x fine;
  first = λ plan sectors base disk given down up bytes n host report new x clear new_is unset.
      file_first plan sectors base disk given down up bytes n host report new x clear new_is unset;
}
