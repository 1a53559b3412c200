-- For `rested_disks_have_done`. Where nothing is on its way between a disk and its host, and the disk owes nothing, no queued command
-- is with the disk, and the port shows neither BSY nor DRQ of it.
use Rattle.std.proofs.Common.{◌≡◌, ◌==◌, eqb, ℕ, ◌<◌, Bool, true, false, List, [], ◌∷◌, ◌++◌, length, refl, sym, ap, subst, ◌∙◌, inl, inr, Option}
use Rattle.std.proofs.{Common.{Some, None, arith}, lemmas.Bool.{eq-eqb, false≢true, true≢false}}
use Rattle.std.specs.{Prelude.{if◌then◌else◌, is_some}, List.list_any, Option.option_map}
use Rattle.port_errors.specs.Errors.{cause_of}
use Rattle.slots.specs.{Data.{payload, payload_len}, Slots.{Issue, context_of, issue_at, own_issue}, Work.is_queued, declared.table.Context.Context}
use Rattle.slots.specs.declared.work.Work.{Work}
use Rattle.hba_fbs.specs.Views.{view_of}
use Rattle.disk_model.specs.{declared.{plan.DiskPlan.DiskPlan, request.Command.Command}, Anew.{IsCarefulSince, IsLinkedOn}, Ends.{IsFree, MovesOther}}
use Rattle.disk_model.specs.{Ends.{has, with_down, with_up}, Histories.Happening, Laws.{OwesNothing, WaitsWell}, Ledger.{IsSize, Ledger, Moving}}
use Rattle.disk_model.specs.{Ledger.{ShowsPage, Signs, ledger}, Runs.IsDiskRun}
use Rattle.disk_model.proofs.Door.{ends_agree_anew}
use Rattle.hba_laws.specs.{Agreement.{IsHistoryOf, IssueAgrees, is_for, work_of_issue, work_of_transfer}, Client.{Touches, own}, History.History}
use Rattle.hba_laws.specs.History.{Transfer, is_set_up, issued}
use Rattle.hba_laws.specs.Hosts as event
use Rattle.hba_laws.proofs.Door.{own_here}
use Rattle.hba_driver.specs.{Events.shared_by, HostTurns.Host, Slot30.is_faulty}
use Rattle.hba_driver.proofs.Door.{is_alone}
use Rattle.disk_simulation.specs.{Anew.IsKeptOn, Between.IsThere, Files.DisksSendTheirs, Joined.IsJoined, Same.{InLife, Moves, Open, ReadEnded}}
use Rattle.disk_simulation.specs.{Same.{SlotCommand, Unsent, WriteEnded}, Together.NoneQueued, Watched.{Erred, Fine, IsWatched, IsWatchedTo}}
use Rattle.disk_simulation.proofs.Door.{hosted_on_is_kept, there_by}
use Rattle.disk_recovery.specs.Ends.{Apart, AreEnds, IsRunning, IsSetAside, IsTogether, Together}
use Rattle.world_rests.specs.Left.{IsOccupied, NoneIsOut}
use Rattle.world_rests.proofs.{Asking.IsAsked, Calm.{AreHeard, GivenFits, IsCalmOn, are_heard, calm_on}, Open.{IsOpen, WasIssued, hosted_is_open}}
use Rattle.world_rests.proofs.Open.{was_issued}

-- ---- both ends tell the same

no_last : {X : Type 0} (xs : List (List ℕ)) (x : List ℕ) → [] ≡ xs ++ x ∷ [] → X
no_last [] x is = cc is
no_last (y ∷ xs) x is = cc is

linked_now : (base disk given : List Happening) → IsWatchedTo base disk given [] [] [] → IsLinkedOn base disk given [] [] []
linked_now base disk given (Fine linked) = linked
linked_now base disk given (Erred followed later error below before disk_is up_is reports linked erred) = no_last before error up_is

both_tell : (plan : DiskPlan) (sectors : ℕ) (base disk given : List Happening) → IsSize plan sectors → IsDiskRun plan sectors disk → IsLinkedOn base disk given [] [] []
    → IsCarefulSince base given → ledger given ≡ ledger disk
unfolding with_up with_down
both_tell plan sectors base disk given size run linked careful = (ends_agree_anew plan sectors base disk given [] [] [] size run linked careful).same

-- ---- the data that moves is of an issued command, which was set up last

moves_it : {X : Type 0} (k : Ledger) (v : Moving) → k.moving ≡ Some v → MovesOther v.command.tag k.moving → X
moves_it k v now other =
    let apart : eqb v.command.tag v.command.tag ≡ false = subst (MovesOther v.command.tag) now other in
    absurd (true≢false (sym (eq-eqb v.command.tag v.command.tag refl) ∙ apart))

by_life : (k : Ledger) (v : Moving) (c : SlotCommand) (past : History) → k.moving ≡ Some v → InLife v.command.tag c past k → is_set_up v.command.tag past ≡ true
by_life k v c past now (Unsent free quiet unset none since) = moves_it k v now free.moving
by_life k v c past now (Open found unanswered other unset none since) = moves_it k v now other
by_life k v c past now (Moves w is own unanswered at since) = at.set_up
by_life k v c past now (ReadEnded at r ended quiet is reads stands since) = moves_it k v now ended.moving
by_life k v c past now (WriteEnded at w ended quiet is writes stands since) = moves_it k v now ended.moving

some_context : (s : ℕ) (o : Option Context) → is_for s o ≡ true → (c : Context) × (o ≡ Some c)
some_context s None is = absurd (false≢true is)
some_context s (Some c) is = (c, refl)

module _ (n : ℕ) (commands : ℕ → SlotCommand) (host : event.Host) (past : History) (k : Ledger) (joined : IsJoined n commands host past k) where
  has_context : (v : Moving) → k.moving ≡ Some v → (c : Context) × ((view_of n host.port).slots.context ≡ Some c)
  has_context v now = by_issue (issued v.command.tag past) refl
    where
      tag : ℕ
      tag = v.command.tag

      by_kind : (t : Transfer) (b : Bool) → issued v.command.tag past ≡ Some t → is_queued t.work.kind ≡ b → (c : Context) × ((view_of n host.port).slots.context ≡ Some c)
      by_kind t false here plain = moves_it k v now (joined.same.free v.command.tag (subst (λ (o : Option Transfer). NoneQueued o) (sym here) plain)).moving
      by_kind t true here queued =
          let at : IsThere (view_of n host.port).slots v.command.tag t =
          there_by (view_of n host.port).slots v.command.tag t (own_issue (view_of n host.port).slots v.command.tag) refl
          (sym (ap (option_map work_of_transfer) here) ∙ joined.history.issued v.command.tag) in
          let agrees : IssueAgrees v.command.tag at.issue (view_of n host.port).slots.context past = joined.history.agrees.issues_agree v.command.tag at.issue at.there in
          some_context v.command.tag (view_of n host.port).slots.context
          (sym agrees.set_up_is ∙ by_life k v (commands v.command.tag) past now (joined.same.live v.command.tag t here queued))

      by_issue : (o : Option Transfer) → issued v.command.tag past ≡ o → (c : Context) × ((view_of n host.port).slots.context ≡ Some c)
      by_issue None here = moves_it k v now (joined.same.free v.command.tag (subst (λ (o : Option Transfer). NoneQueued o) (sym here) tt)).moving
      by_issue (Some t) here = by_kind t (is_queued t.work.kind) here refl

  -- a disk that owes nothing, at a port that has sent the Data that was asked for: each tag is free
  all_free : IsAsked (view_of n host.port).slots.context k → payload (view_of n host.port).slots.context ≡ None → OwesNothing k → (s : ℕ) → IsFree k s
  all_free asked fed owes s = by_moving k.moving refl owes.waits
    where
      by_set : {X : Type 0} (x : ℕ × ℕ × ℕ) (b : Bool) → b ≡ true → (if b then Some x else None) ≡ None → X
      by_set x true set none = cc none
      by_set x false set none = absurd (false≢true set)

      unfed : {X : Type 0} (o : Option Context) (c : Context) → o ≡ Some c → c.activated ≡ true → payload o ≡ None → X
      unfed o c is set none = by_set (c.slot, c.next, payload_len c) c.activated set (ap payload (sym is) ∙ none)

      by_moving : (m : Option Moving) → k.moving ≡ m → WaitsWell k m → IsFree k s
      by_moving None is none = record {
        outstanding = ap (list_any (λ (q : Command). q.tag == s)) none;
        unanswered = ap (has s) owes.unanswered;
        moving = subst (MovesOther s) (sym is) tt;
      }
      by_moving (Some v) is waits = let c = has_context v is in unfed (view_of n host.port).slots.context c.0 c.1 (asked v c.0 is waits.1 c.1) fed

-- ---- at either stage

none_first : (xs ys : List (List ℕ)) → [] ≡ xs ++ ys → xs ≡ []
none_first [] ys is = refl
none_first (x ∷ xs) ys is = cc is

none_last : (xs ys : List (List ℕ)) → [] ≡ xs ++ ys → ys ≡ []
none_last [] ys is = sym is
none_last (x ∷ xs) ys is = cc is

pub not_sent : (b : Bool) → (b ≡ true → ⊥) → b ≡ false
not_sent true never = absurd (never refl)
not_sent false never = refl

module _ (n : ℕ) (below : n < 15) (plan : DiskPlan) (sectors : ℕ) (h : Host) (disk : List Happening) (floors : ℕ → ℕ) (touches : Touches)
    (running : IsRunning plan sectors disk touches h) (t : IsTogether n h disk [] [] floors touches) where
  -- nothing is on its way, so each end has heard the other
  pub linked_at : IsLinkedOn t.base disk t.given [] [] []
  linked_at =
      let stale : t.stale ≡ [] = none_first t.stale t.later t.up_is in
      let later : t.later ≡ [] = none_last t.stale t.later t.up_is in
      let watched : IsWatched t.base disk t.given [] [] [] =
      subst (λ (xs : List (List ℕ)). IsWatched t.base disk t.given [] xs []) stale (subst (λ (xs : List (List ℕ)). IsWatched t.base disk t.given [] t.stale xs) later t.watched) in
      linked_now t.base disk t.given watched.to_error

  pub kept_at : IsKeptOn n t.base (shared_by h) t.given t.commands (own n touches)
  kept_at = hosted_on_is_kept n t.base (shared_by h) t.given t.commands (own n touches) below t.served.hosted

  pub same_told : ledger t.given ≡ ledger disk
  same_told = both_tell plan sectors t.base disk t.given running.size running.run linked_at kept_at.careful

  -- a disk that owes nothing has told something since both began anew, since it owed its signature or the page of its log then
  pub has_told : OwesNothing (ledger disk) → t.given ≡ t.base → ⊥
  has_told owes begun =
      let none : (ledger t.base).awaited ≡ [] = ap (λ (k : Ledger). k.awaited) (sym (ap ledger begun) ∙ same_told) ∙ owes.awaited in
      elim t.owes [
        | inl signs ↦ let bad : [] ≡ Signs ∷ [] = sym none ∙ signs.awaited in cc bad
        | inr (page, shows) ↦ let bad : [] ≡ ShowsPage ∷ [] = sym none ∙ shows.awaited in cc bad
      ]

module _ (n : ℕ) (below : n < 15) (plan : DiskPlan) (sectors : ℕ) (h : Host) (disk : List Happening) (floors : ℕ → ℕ) (touches : Touches)
    (running : IsRunning plan sectors disk touches h) (owes : OwesNothing (ledger disk)) (fed : payload (context_of h.port.slots n) ≡ None)
    (faultless : cause_of h.port.errors n ≡ None) where
  pub own_at : (slot : ℕ) (issue : Issue) → slot < 32 → issue_at h.port.slots slot ≡ Some issue → issue.dev ≡ n → own_issue (view_of n h.port).slots slot ≡ Some issue
  own_at slot issue low there its =
      let long : length h.port.slots.issues ≡ 32 = running.on.sound.ruled.table.slots in
      subst (λ (d : ℕ). own_issue (view_of d h.port).slots slot ≡ Some issue) its (own_here slot h.port.slots issue (omega (arith, long, low)) there)

  together_none : IsTogether n h disk [] [] floors touches → NoneIsOut n h.port
  together_none t slot issue low there its queued = not_sent issue.sent (λ sent.
      let kept : IsKeptOn n t.base (shared_by h) t.given t.commands (own n touches) = kept_at n below plan sectors h disk floors touches running t in
      let same : ledger t.given ≡ ledger disk = same_told n below plan sectors h disk floors touches running t in
      let o : IsOpen n (shared_by h) (own n touches) (ledger t.given) = hosted_is_open n t.base below (shared_by h) t.given t.commands (own n touches) t.served.hosted in
      let here : own_issue (view_of n h.port).slots slot ≡ Some issue = own_at slot issue low there its in
      let w : WasIssued slot issue (own n touches) =
      was_issued slot issue (own n touches) (issued slot (own n touches)) refl (kept.joined.history.issued slot ∙ ap (option_map work_of_issue) here) in
      o.taken slot w.transfer w.there (ap (λ (x : Work). is_queued x.kind) w.work ∙ queued) (kept.joined.sent slot issue here ∙ sent)
      (all_free n t.commands (shared_by h) (own n touches) (ledger t.given) kept.joined o.asked fed (subst OwesNothing (sym same) owes) slot))

  -- nor does the port show BSY or DRQ
  pub together_idle : DisksSendTheirs → GivenFits → IsTogether n h disk [] [] floors touches → IsOccupied n h.port → ⊥
  together_idle theirs fits t occupied =
      let linked : IsLinkedOn t.base disk t.given [] [] [] = linked_at n below plan sectors h disk floors touches running t in
      let same : ledger t.given ≡ ledger disk = same_told n below plan sectors h disk floors touches running t in
      let heard : AreHeard t.base t.given = are_heard plan sectors running.size theirs t.base disk t.given [] [] [] linked running.run in
      let c : IsCalmOn n t.base below t.owes fits (shared_by h) t.given (own n touches) =
      calm_on n t.base below t.owes fits (shared_by h) t.given t.commands (own n touches) t.served.hosted heard in
      elim c.file [
        | inl begun ↦ has_told n below plan sectors h disk floors touches running t owes begun
        | inr calm ↦ elim occupied [
          | inl busy ↦ calm.busy busy (ap (λ (k : Ledger). k.awaited) same ∙ owes.awaited)
          | inr wants ↦ (calm.wants wants).pages (ap (λ (k : Ledger). k.pages) same ∙ owes.pages)
        ]
      ]

  apart_none : IsSetAside n h disk [] [] → NoneIsOut n h.port
  apart_none a slot issue low there its queued =
      let unfaulted : is_faulty a.stage ≡ false = sym a.at.fault ∙ ap is_some faultless in
      let here : own_issue (view_of n h.port).slots slot ≡ Some issue = own_at slot issue low there its in
      let told : IsHistoryOf n (shared_by h) (own n touches) = running.on.served.told n (omega (arith, below)) in
      let w : WasIssued slot issue (own n touches) =
      was_issued slot issue (own n touches) (issued slot (own n touches)) refl (told.issued slot ∙ ap (option_map work_of_issue) here) in
      let plain : is_queued w.transfer.work.kind ≡ false =
      ((is_alone n).transfers touches h a.stage below running.on.served a.at unfaulted slot w.transfer w.there).1 in
      absurd (true≢false (sym queued ∙ ap (λ (x : Work). is_queued x.kind) (sym w.work) ∙ plain))

  pub none_is_out : AreEnds n h disk [] [] floors touches → NoneIsOut n h.port
  none_is_out (Together t) = together_none t
  none_is_out (Apart a are) = apart_none a
