-- For `begins_anew_apart`. A device is set aside at each stage of slot 30, and driver and disk begin anew.
use Rattle.std.proofs.Common.{◌≡◌, ℕ, ◌<◌, Bool, true, false, eqb, List, [], ◌∷◌, length, refl, sym, ◌∙◌, ap, subst, inl, inr, arith, Option, Some}
use Rattle.std.proofs.{Common.None, lemmas.Bool.{cases_Bool, eq-eqb, false≢true, true≢false}}
use Rattle.std.specs.Prelude.{◌⊎◌, ◌&&◌, ◌||◌, if◌then◌else◌, not}
use Rattle.hba_commands.specs.Requests.{request_of, work_of}
use Rattle.slots.specs.{Slots.{Issue, own_issue}, Work.is_queued, declared.work.Work.Work}
use Rattle.hba_fbs.specs.Views.{view_of}
use Rattle.disk_model.specs.{Anew.OwesOnly, Histories.Happening, Ledger.{ShowsPage, Wanted, ledger}}
use Rattle.hba_laws.specs.{Agreement.{IsHistoryOf, IssueAgrees, is_for}, Client.{Touches, own}, History.{Answered, History, Issued, Sent, Transfer}}
use Rattle.hba_laws.specs.History.{is_at, issued, unless, waiting_in}
use Rattle.hba_laws.proofs.Door.{at_is, some_inj, the_transfer}
use Rattle.disk_simulation.specs.{Anew.IsAwaited, Joined.SentAgrees, Together.{IsWaitedUnset, NoneQueued, is_sent}}
use Rattle.disk_simulation.specs.Aside as aside
use Rattle.hba_driver.specs.declared.{path.Stage.TheVariants.{AwaitReset, ReleaseReset}, slot.Phase.{Phase, TheVariants.{Aside, Ended}}}
use Rattle.hba_driver.specs.{Drivers.{Entry, has_ended_in, is_aside_in, is_issued_in, waits_in}, Events.{IsSoundHost, shared_by}, HostTurns.Host}
use Rattle.hba_driver.specs.{Orders.log_fields, Served.IsServed, Slot30.{IsApart30, IsAt30, IsSent30, IsUnsought, LogSent, Off, ReadsLog, Resets}}
use Rattle.hba_driver.specs.{Slot30.{Stage30, is_faulty}, Tended.{Awaits, IsAtStage, IsLiveAt, IsReleasing, IsTended, IsTendedBy, Logs, Releases}}
use Rattle.hba_driver.proofs.Door.{alone_issue, is_alone}
use Rattle.disk_recovery.proofs.{together.TogetherBegins.{log_begins_served, reset_begins_served}, honest.TurnLemmas.plain_since}
use Rattle.disk_recovery.specs.Apart.{AsideAt, LogBegins, ResetBegins, ServesFrom}

-- ---- set aside

none_queued : (o : Option Transfer) → ((t : Transfer) → o ≡ Some t → is_queued t.work.kind ≡ false) → NoneQueued o
none_queued None h = tt
none_queued (Some t) h = h t refl

pub aside_at : AsideAt
aside_at n h stage touches below served at = elim (cases_Bool (is_faulty stage)) [
  | inl faulty ↦ aside.Faulty (at.fault ∙ faulty)
  | inr well ↦ aside.Spared (λ s. none_queued (issued s (own n touches)) (λ t here. ((is_alone n).transfers touches h stage below served at well s t here).1))
]

-- ---- the driver tends a device that has no requests

not_live : (p : Phase) → (waits_in p || is_issued_in p) ≡ true → (is_aside_in p || has_ended_in p) ≡ true → ⊥
not_live Aside h k = false≢true h
not_live (Ended o) h k = false≢true h
not_live other h k = false≢true k

module _ (n : ℕ) (h : Host) (stage : Stage30) (touches : Touches) (below : n < 15) (sound : IsSoundHost h) (served : IsServed h.driver (shared_by h) touches) (at : IsAt30 n stage h) (off : IsUnsought n h) (well : is_faulty stage ≡ false) where
  abbrev apart : IsApart30 n stage h
  apart = at.apart well

  none_live : (s : ℕ) (e : Entry) → IsLiveAt n s h.driver.entries e → ⊥
  none_live s e live = not_live e.head.phase live.lives (apart.withdrawn s e live.stands live.of_dev)

  tended_by : IsTendedBy n h.driver.plan → IsTended n h.driver
  tended_by way = record {
    plan = record { way = way; order = λ sought. absurd (true≢false (sym sought ∙ off)) };
    requests = record {
      ready = λ s e live. absurd (none_live s e live);
      alone = λ s r e f live other flush. absurd (none_live s e live);
    };
  }

  thirty : (s : ℕ) (i : Issue) → own_issue (view_of n h.port).slots s ≡ Some i → s ≡ 30
  thirty s i there = alone_issue n touches h stage below served at well s i there

-- ---- a software reset

released_tended : (n : ℕ) (h : Host) → IsAt30 n Off h → Resets n ReleaseReset true h.driver.plan ⊎ Resets n AwaitReset false h.driver.plan → IsTendedBy n h.driver.plan × IsAtStage n IsReleasing h.driver.plan
released_tended n h at (inl r) = (Releases r.device r.path, (record { dev = n; stage = ReleaseReset; asked = true }, (r.path, (refl, tt))))
released_tended n h at (inr r) = (Awaits r.device r.path, (record { dev = n; stage = AwaitReset; asked = false }, (r.path, (refl, tt))))

free_at : (n s : ℕ) (h : Host) (o : Option Issue) → own_issue (view_of n h.port).slots s ≡ o → ((i : Issue) → o ≡ Some i → ⊥) → own_issue (view_of n h.port).slots s ≡ None
free_at n s h None is none = is
free_at n s h (Some i) is none = absurd (none i refl)

pub reset_begins : ResetBegins
reset_begins n h base touches below sound served at off owes =
    let ways = released_tended n h at (at.apart refl).plan in
    record {
      commands = plain_since (length (ledger base).writes);
      counted = λ s. refl;
      on = reset_begins_served n h base (plain_since (length (ledger base).writes)) touches below sound served (tended_by n h Off touches below sound served at off refl ways.0) ways.1 (at.apart refl).resetting
          (λ s. free_at n s h (own_issue (view_of n h.port).slots s) refl (λ i there. taken s i there)) (λ s. refl) owes;
    }
  where
    taken : (s : ℕ) (i : Issue) → own_issue (view_of n h.port).slots s ≡ Some i → ⊥
    taken s i there =
        let here : own_issue (view_of n h.port).slots 30 ≡ Some i = subst (λ (k : ℕ). own_issue (view_of n h.port).slots k ≡ Some i) (thirty n h Off touches below sound served at off refl s i there) there in
        let bad : None ≡ Some i = sym (at.apart refl).slot ∙ here in cc

-- ---- the log of an error

waits_on : (s slot : ℕ) (o : Option ℕ) → unless (is_at slot o) o ≡ Some s → (o ≡ Some s) × (eqb slot s ≡ false)
waits_on s slot None h = absurd (none_is s h)
  where
    none_is : (k : ℕ) → None ≡ Some k → ⊥
    none_is k e = cc
waits_on s slot (Some k) h = by_test (eqb k slot) refl h
  where
    by_test : (b : Bool) → eqb k slot ≡ b → (if b then None else Some k) ≡ Some s → (Some k ≡ Some s) × (eqb slot s ≡ false)
    by_test true is e = let bad : None ≡ Some s = e in absurd (none_is s bad)
      where
        none_is : (k : ℕ) → None ≡ Some k → ⊥
        none_is k e = cc
    by_test false is e = (e, other (eqb slot s) refl)
      where
        other : (b : Bool) → eqb slot s ≡ b → b ≡ false
        other false same = refl
        other true same = absurd (true≢false (sym (eq-eqb k slot (some_inj k s e ∙ sym (Rattle.std.proofs.lemmas.Bool.eqb-true slot s same))) ∙ is))

-- what waits for its answer went out since its issue
pub waiting_sent : (s : ℕ) (past : History) → waiting_in past ≡ Some s → is_sent s past ≡ true
waiting_sent s [] h = let bad : None ≡ Some s = h in cc
waiting_sent s (Sent slot ∷ past) h = ap (λ (b : Bool). if b then true else is_sent s past) (eq-eqb slot s (some_inj slot s h))
waiting_sent s (Issued slot t ∷ past) h =
    let on = waits_on s slot (waiting_in past) h in
    ap (λ (b : Bool). if b then false else is_sent s past) on.1 ∙ waiting_sent s past on.0
waiting_sent s (Answered ∷ past) h = let bad : None ≡ Some s = h in cc
waiting_sent s (_ ∷ past) h = waiting_sent s past h

unqueued_log : (n : ℕ) → is_queued (work_of (request_of (log_fields n))).kind ≡ false
unfolding work_of
unqueued_log n = refl

waits_by : (sent answered : Bool) → sent ≡ true → answered ≡ false → (sent && not answered) ≡ true
waits_by true false h k = refl
waits_by true true h k = absurd (true≢false k)
waits_by false a h k = absurd (false≢true h)

module _ (n : ℕ) (h : Host) (touches : Touches) (below : n < 15) (sound : IsSoundHost h) (served : IsServed h.driver (shared_by h) touches) (at : IsAt30 n LogSent h) (off : IsUnsought n h) where
  abbrev slot : IsSent30 n (log_fields n) h.port
  slot = (at.apart refl).slot

  kind : is_queued slot.issue.work.kind ≡ false
  kind = ap (λ (w : Work). is_queued w.kind) slot.work ∙ unqueued_log n

  told : IsHistoryOf n (shared_by h) (own n touches)
  told = served.told n (omega (arith, below))

  agrees : IssueAgrees 30 slot.issue (view_of n h.port).slots.context (own n touches)
  agrees = told.agrees.issues_agree 30 slot.issue slot.issued

  waits : waiting_in (own n touches) ≡ Some 30
  waits = at_is 30 (waiting_in (own n touches)) (agrees.waits_is ∙ waits_by slot.issue.sent slot.issue.answered slot.sent slot.unanswered)

  only : (s : ℕ) (i : Issue) → own_issue (view_of n h.port).slots s ≡ Some i → (s ≡ 30) × (i ≡ slot.issue)
  only s i there =
      let same : s ≡ 30 = thirty n h LogSent touches below sound served at off refl s i there in
      (same, some_inj i slot.issue (sym there ∙ ap (λ (k : ℕ). own_issue (view_of n h.port).slots k) same ∙ slot.issued))

  awaited : (s : ℕ) (i : Issue) → own_issue (view_of n h.port).slots s ≡ Some i → IsAwaited i
  awaited s i there = subst IsAwaited (sym (only s i there).1) (record { kind = kind; sent = slot.sent })

  sent_agrees : SentAgrees (view_of n h.port).slots (own n touches)
  sent_agrees s i there =
      let o = only s i there in
      ap (λ (k : ℕ). is_sent k (own n touches)) o.0 ∙ waiting_sent 30 (own n touches) waits ∙ sym slot.sent ∙ ap (λ (x : Issue). x.sent) (sym o.1)

  waited : IsWaitedUnset (own n touches)
  waited =
      let t = the_transfer (issued 30 (own n touches)) (own_issue (view_of n h.port).slots 30) slot.issue slot.issued (told.issued 30) in
      record {
        waited = record {
          slot = 30;
          transfer = t.0;
          kind = ap (λ (w : Work). is_queued w.kind) t.2 ∙ kind;
          waits = waits;
          there = t.1;
        };
        unset = agrees.set_up_is ∙ ap (is_for 30) (at.apart refl).context;
      }

  serves_log : (base : List Happening) (page : Wanted) → OwesOnly (ledger base) (ShowsPage ∷ []) (page ∷ []) → ServesFrom n base h touches
  serves_log base page owes =
      let plan : ReadsLog n h.driver.plan = (at.apart refl).plan in
      record {
        commands = plain_since (length (ledger base).writes);
        counted = λ s. refl;
        on = log_begins_served n h base plan.file page (plain_since (length (ledger base).writes)) touches below sound served (tended_by n h LogSent touches below sound served at off refl (Logs plan.file plan.file plan.device plan.path)) plan.path (at.apart refl).resetting
            awaited sent_agrees (at.apart refl).context waited (λ s. refl) owes;
      }

pub log_begins : LogBegins
log_begins n h base page touches below sound served at off owes = serves_log n h touches below sound served at off base page owes
