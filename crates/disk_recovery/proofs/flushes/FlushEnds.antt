-- For `flushes_are_taken`. If a report says that a FLUSH is done, the disk took one since it was submitted.
use Rattle.std.proofs.Common.{◌≡◌, ℕ, ◌+◌, ◌<◌, Bool, true, false, eqb, List, [], ◌∷◌, refl, sym, ap, subst, ◌∙◌, inl, inr, arith, Option, Some, None, Result}
use Rattle.std.specs.Prelude.{if◌then◌else◌, is_some}
use Rattle.std.proofs.lemmas.Bool.{cases_Bool, false≢true, true≢false}
use Rattle.fis_view.specs.{Frames.{IsFrame, marked}, Seen.seen, declared.{view.Fis.Fis, view.FisFault.FisFault}}
use Rattle.slots.specs.Slots.{has_bit, is_pio}
use Rattle.slots.specs.Work as moved
use Rattle.hba_fbs.specs.{declared.report.TakeReport.TakeReport, Taking.{ignores, is_running, port_of}, Views.view_of}
use Rattle.disk_model.specs.{declared.plan.DiskPlan.DiskPlan, Ends.{Rests, reports}, Histories.{Happening, Sent}, Laws.{AnswersFirst, AnswersRight}}
use Rattle.disk_model.specs.Ledger.{answered, ledger, listens, listens_up}
use Rattle.hba_laws.specs.Client.{Touches, own}
use Rattle.hba_laws.specs.History.{Carried, Emptied, History, Issued, Named, PioSetUp, SentControl, SetUp, Transfer, is_at, issued, waiting_in}
use Rattle.hba_laws.specs.History as event_of
use Rattle.hba_laws.specs.Hosts as event
use Rattle.disk_simulation.specs.{Anew.{IsKeptOn, IsNextRight}, Followed.IsFollowed, Together.is_sent, Watched.IsWatched}
use Rattle.disk_simulation.proofs.Door.{hosted_on_is_kept, next_or_fails, watches_on}
use Rattle.hba_driver.specs.{Events.shared_by, HostTurns.{Does, Host, Took}, Slot30.is_faulty}
use Rattle.hba_driver.proofs.Door.{is_alone, skipped_as, sound_shared}
use Rattle.disk_recovery.specs.Ends.{Apart, AreEnds, IsOnTime, IsRunning, IsSetAside, IsTogether, Together}
use Rattle.disk_recovery.specs.Flushes.{AreEndsSince, Floor, FlushesAreTaken, flushes_among, flushes_taken, write_floors}
use Rattle.disk_recovery.proofs.{aside.ApartDriver.faulty_ignored, coming.ErrorLemmas.{report_ignored, stale_ignored, together_hears}}
use Rattle.disk_recovery.proofs.flushes.{FlushDown.watched_passed, FlushHeard.{IsItsAnswer, its_answer}, FlushLemmas.answer_rests}
use Rattle.disk_recovery.proofs.coming.StaleLemmas.{by_stale}

-- ---- a command that waits for its answer was transmitted

issue_waits : (s slot : ℕ) (w : Option ℕ) (sent test taken : Bool) → eqb slot s ≡ test → is_at slot w ≡ taken → (is_at s w ≡ true → sent ≡ true)
    → is_at s (if taken then None else w) ≡ true → (if test then false else sent) ≡ true
issue_waits s slot w sent test true at is later waits = absurd (false≢true waits)
issue_waits s slot w sent false false at is later waits = later waits
issue_waits s slot w sent true false at is later waits =
    absurd (true≢false (sym waits ∙ ap (λ (m : ℕ). is_at m w) (sym (Rattle.std.proofs.lemmas.Bool.eqb-true slot s at)) ∙ is))

waited_sent : (s : ℕ) (past : History) → is_at s (waiting_in past) ≡ true → is_sent s past ≡ true
waited_sent s (Issued slot t ∷ past) waits =
    issue_waits s slot (waiting_in past) (is_sent s past) (eqb slot s) (is_at slot (waiting_in past)) refl refl (waited_sent s past) waits
waited_sent s (event_of.Sent slot ∷ past) waits = ap (λ (b : Bool). if b then true else is_sent s past) waits
waited_sent s (SentControl slot ∷ past) waits = waited_sent s past waits
waited_sent s (SetUp tag offset count to_host ∷ past) waits = waited_sent s past waits
waited_sent s (PioSetUp count to_host ends ∷ past) waits = waited_sent s past waits
waited_sent s (Carried bytes ∷ past) waits = waited_sent s past waits
waited_sent s (Named mask ∷ past) waits = waited_sent s past waits
waited_sent s (Emptied ∷ past) waits = waited_sent s past waits
waited_sent s other waits = absurd (false≢true waits)

-- ---- the ends

module _ (n : ℕ) (plan : DiskPlan) (sectors : ℕ) (h : Host) (bytes : List ℕ) (report : TakeReport) (new : Host) (disk : List Happening)
    (down up : List (List ℕ)) (touches : Touches)
    (below : n < 15) (runs : IsRunning plan sectors disk touches h) (framed : IsFrame bytes) (port : port_of (marked bytes n) ≡ n)
    (does : Does h (Took (marked bytes n) report) new)
    (s : ℕ) (t : Transfer) (low : s < 30) (here : issued s (own n touches) ≡ Some t) (calm : moved.is_queued t.work.kind ≡ false)
    (pio : is_pio t.work.kind ≡ false) (done : has_bit report.done s ≡ true) where
  abbrev takes : event.TakesFrame (shared_by h) (marked bytes n) report (shared_by new)
  takes = record { ignored = does.ignored; heard = does.heard }

  -- the FLUSH was transmitted, and is not on its way down
  record IsGone : Type 0 where
    sent : is_sent s (own n touches) ≡ true
    none : flushes_among down ≡ 0

  not_ignored : ignores (port_of (marked bytes n)) h.port (marked bytes n) ≡ true → ⊥
  not_ignored thrown = true≢false (sym done ∙ (report_ignored h (marked bytes n) report new does thrown).done s)

  module _ (floors : ℕ → ℕ) (g : IsTogether n h disk down (bytes ∷ up) floors touches) where
    abbrev kept : IsKeptOn n g.base (shared_by h) g.given g.commands (own n touches)
    kept = hosted_on_is_kept n g.base (shared_by h) g.given g.commands (own n touches) below g.served.hosted

    next_watched : g.stale ≡ [] → g.later ≡ bytes ∷ up → IsWatched g.base disk g.given down [] (bytes ∷ up)
    next_watched none next =
        subst (IsWatched g.base disk g.given down []) next
        (subst (λ (xs : List (List ℕ)). IsWatched g.base disk g.given down xs g.later) none g.watched)

    next_gone : IsWatched g.base disk g.given down [] (bytes ∷ up) → IsGone
    next_gone watched =
        let followed : IsFollowed g.base disk g.given down [] (bytes ∷ up) = watches_on.follows g.base disk g.given down [] (bytes ∷ up) watched in
        let a : IsItsAnswer bytes s (own n touches) =
        its_answer n (shared_by h) (shared_by new) bytes report (own n touches) (sound_shared h g.served.sound) below framed does.framed port takes
        kept.joined.history s t (omega (arith, low)) here calm pio done in
        let fine : reports (seen bytes) ≡ false = ap reports a.is in
        let right : IsNextRight g.given bytes =
        elim (next_or_fails plan sectors g.base disk g.given down up bytes runs.size runs.run followed kept.careful) [
          | inl fails ↦ absurd (true≢false (sym fails ∙ fine))
          | inr next ↦ next
        ] in
        let replies : AnswersFirst (ledger g.given).awaited bytes =
        subst (λ (r : Result Fis FisFault). AnswersRight (ledger g.given) r) a.is right.right.replies in
        let rests : Rests (answered (ledger g.given)) =
        answer_rests (own n touches) (ledger g.given) bytes s t replies a.waits here calm kept.joined.same.talk in
        let told : listens (ledger g.given) (Sent bytes) ≡ answered (ledger g.given) = ap (λ (r : Result Fis FisFault). listens_up (ledger g.given) r) a.is in
        record {
          sent = waited_sent s (own n touches) a.waits;
          none =
              watched_passed plan sectors g.base g.given bytes runs.size kept.careful (subst Rests (sym told) rests) disk down up runs.run fine
              watched.to_error;
        }

    together_gone : IsGone
    together_gone = elim (by_stale bytes up g.stale g.later g.up_is) [
      | inl next ↦ next_gone (next_watched next.0 next.1)
      | inr old ↦ absurd (not_ignored (stale_ignored n h g.base g.given g.commands touches bytes below framed port
          (together_hears n plan sectors disk down (bytes ∷ up) floors touches h runs g) g.served old.rest
          (subst (IsOnTime n h g.base g.given) old.is g.on_time)))
    ]

  apart_none : IsSetAside n h disk down (bytes ∷ up) → ⊥
  apart_none a = elim (cases_Bool (is_faulty a.stage)) [
    | inl faulty ↦
        not_ignored (ap (λ (k : ℕ). ignores k h.port (marked bytes n)) port
        ∙ skipped_as n h.port (marked bytes n) (faulty_ignored (is_running h.port) (is_some (view_of n h.port).fault) _ (a.at.fault ∙ faulty)))
    | inr well ↦
        let thirty : s ≡ 30 = ((is_alone n).transfers touches h a.stage below runs.on.served a.at well s t here).0 in
        omega (arith, low, thirty)
  ]

  ends_gone : (floors : ℕ → ℕ) → AreEnds n h disk down (bytes ∷ up) floors touches → IsGone
  ends_gone floors (Together g) = together_gone floors g
  ends_gone floors (Apart a are) = absurd (apart_none a)

  pub end_taken : (floors : ℕ → Floor) → AreEndsSince n h disk down (bytes ∷ up) floors touches → (floors s).flushes < flushes_taken disk
  end_taken floors e =
      let g : IsGone = ends_gone (write_floors floors) e.ends in
      let gone : (floors s).flushes < flushes_taken disk + flushes_among down = e.flushed.gone s t low here calm g.sent in
      let none : flushes_among down ≡ 0 = g.none in
      omega (arith, gone, none)

pub flushes_are_taken : FlushesAreTaken
flushes_are_taken n plan sectors h bytes report new disk down up floors touches below runs framed port does ends s t low here calm pio done =
    end_taken n plan sectors h bytes report new disk down up touches below runs framed port does s t low here calm pio done floors ends
