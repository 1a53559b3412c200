-- For `hosts_begin_anew`. A host whose port refuses nothing of a disk is careful from where both began anew, and joined
-- with the disk's ledger.
use Rattle.std.proofs.Common.{◌≡◌, ℕ, ◌<◌, true, List, [], ◌∷◌, ◌++◌, append_assoc, refl, sym, ap, subst, ◌∙◌, inr, Option, Some, None, arith}
use Rattle.std.proofs.lemmas.{Bool.true≢false, List.append-nil}
use Rattle.std.specs.{Prelude.is_some, Option.option_map}
use Rattle.fis_view.specs.{Frames.{IsFrame, Stamped, marked}, Seen.seen}
use Rattle.slots.specs.{Slots.{Issue, own_issue}, Work.is_queued, declared.{table.Context.Context, work.Work.Work}}
use Rattle.hba_fbs.specs.{Taking.port_of, Views.{DeviceView, view_of}}
use Rattle.disk_model.specs.{Anew.{IsCarefulSince, IsClear, OwesOnly}, Ends.FitsAll, Histories.{Happening, Plugged, Loaded, Received, Sent}}
use Rattle.disk_model.specs.{Ledger.{Ledger, ShowsPage, Signs, Wanted, empty, ledger, ledger_after, listens}, Between.FitsOne}
use Rattle.disk_model.proofs.Door.{after_more, begins_anew, ledger_push}
use Rattle.hba_laws.specs.{Agreement.{ContextAgrees, IsHistoryOf, work_of_issue, work_of_transfer}, History.{History, Transfer, issued}, Hosts.Host}
use Rattle.hba_laws.specs.History as event
use Rattle.disk_simulation.specs.{Anew.{HostedOnIsKept, HostedSinceNew, IsAwaited, IsHostedOn, IsKeptOn, IsOpening, OpensAfter}, Joined.IsJoined}
use Rattle.disk_simulation.specs.{Joined.{JoinsGiven, SentAgrees}, Together.{AtMostOne, IsWaitedUnset, NoneQueued, Replies, Shows, is_sent, told}}
use Rattle.disk_simulation.specs.{Marked.IsHeardAlike, Same.SlotCommand, Between.IsThere}
use Rattle.disk_simulation.specs.Anew as anew
use Rattle.disk_simulation.specs.Hosted as since_new
use Rattle.disk_simulation.proofs.joined.{HeardLemmas.there_by, IssueJoins.{joins_issues, keeps_joined}, JoinLemmas.joins_frames}
use Rattle.disk_simulation.proofs.joined.{MarkedLemmas.marks_tell_nothing, OrderJoins.{joins_commands, joins_data, joins_others}}
use Rattle.disk_simulation.proofs.{anew.SignsLemmas.joins_signs, together.TogetherLemmas.opens_the_same}

-- ## Where they begin

module _ (n : ℕ) (host : Host) (commands : ℕ → SlotCommand) (past : History) (k : Ledger) (o : IsOpening n host commands past k) where
  there : (s : ℕ) (t : Transfer) → issued s past ≡ Some t → IsThere (view_of n host.port).slots s t
  there s t here =
      there_by (view_of n host.port).slots s t (own_issue (view_of n host.port).slots s) refl
      (sym (ap (option_map work_of_transfer) here) ∙ o.history.issued s)

  one_alone : (s : ℕ) (p : Option Transfer) → issued s past ≡ p → NoneQueued p
  one_alone s None here = tt
  one_alone s (Some t) here =
      let at : IsThere (view_of n host.port).slots s t = there s t here in
      ap (λ (w : Work). is_queued w.kind) at.work ∙ (o.alone s at.issue at.there).kind

  one_sent : (s : ℕ) (t : Transfer) → issued s past ≡ Some t → is_sent s past ≡ true
  one_sent s t here =
      let at : IsThere (view_of n host.port).slots s t = there s t here in
      o.sent s at.issue at.there ∙ (o.alone s at.issue at.there).sent

  opens_joined : IsJoined n commands host past k
  opens_joined = record {
    history = o.history;
    same = opens_the_same commands past k o.tags (λ s. one_alone s (issued s past) refl) o.clear o.talk one_sent;
    sent = o.sent;
    short = λ v now. let bad : None ≡ Some v = sym o.clear.moving ∙ now in cc bad;
    active = λ c now set. let bad : None ≡ Some c = sym o.unset ∙ now in cc bad;
  }

careful_base : (base : List Happening) → IsCarefulSince base base
unfolding FitsAll
careful_base base = record { since = []; is = sym (append-nil base); fits = tt }

-- ## One happening more

fits_last : (l : Ledger) (e : Happening) → FitsOne l e → FitsAll l (e ∷ [])
unfolding FitsAll
fits_last l (Received bytes) fits = (fits, tt)
fits_last l (Loaded bytes) fits = absurd fits
fits_last l other fits = tt

fits_more : (l : Ledger) (given : List Happening) (e : Happening) → FitsAll l given → FitsOne (ledger_after l given) e → FitsAll l (given ++ e ∷ [])
unfolding FitsAll ledger_after
fits_more l [] e all one = fits_last l e one
fits_more l (Received bytes ∷ given) e all one = (all.0, fits_more (listens l (Received bytes)) given e all.1 one)
fits_more l (Loaded bytes ∷ given) e all one = absurd all
fits_more l (other ∷ given) e all one = fits_more (listens l other) given e all one

pub careful_more : (base given : List Happening) (e : Happening) → IsCarefulSince base given → FitsOne (ledger given) e
    → IsCarefulSince base (given ++ e ∷ [])
careful_more base given e careful one =
    let now : ledger_after (ledger base) careful.since ≡ ledger given = sym (after_more empty base careful.since) ∙ ap ledger (sym careful.is) in
    record {
      since = careful.since ++ e ∷ [];
      is = ap (λ (xs : List Happening). xs ++ e ∷ []) careful.is ∙ append_assoc base careful.since (e ∷ []);
      fits = fits_more (ledger base) careful.since e careful.fits (subst (λ (x : Ledger). FitsOne x e) (sym now) one);
    }

module _ (n : ℕ) (base : List Happening) where
  kept_more : (new : Host) (given : List Happening) (e : Happening) (commands : ℕ → SlotCommand) (past : History) → IsCarefulSince base given
      → FitsOne (ledger given) e → IsJoined n commands new past (listens (ledger given) e)
      → IsKeptOn n base new (given ++ e ∷ []) commands past
  kept_more new given e commands past careful fits joined = record {
    careful = careful_more base given e careful fits;
    joined = subst (IsJoined n commands new past) (sym (ledger_push given e)) joined;
  }

  kept_given : (new : Host) (frame : Stamped) (given : List Happening) (e : event.Event) (commands : ℕ → SlotCommand) (past : History)
      → IsFrame frame.bytes → IsCarefulSince base given
      → JoinsGiven n commands frame.bytes e past (ledger given) new
      → IsKeptOn n base new (given ++ Received (marked frame.bytes 0) ∷ []) commands (e ∷ past)
  kept_given new frame given e commands past framed careful j =
      let a : IsHeardAlike (ledger given) frame.bytes (marked frame.bytes 0) = marks_tell_nothing (ledger given) frame.bytes 0 framed (omega arith) in
      kept_more new given (Received (marked frame.bytes 0)) commands (e ∷ past) careful (a.fits j.fits)
      (subst (IsJoined n commands new (e ∷ past)) (sym a.down) j.joined)

  kept_taken : n < 15 → (old new : Host) (bytes : List ℕ) (given : List Happening) (commands : ℕ → SlotCommand) (past later : History)
      → IsFrame bytes → port_of (marked bytes n) ≡ n → IsKeptOn n base old given commands past
      → (IsHeardAlike (ledger given) bytes (marked bytes n) → IsJoined (port_of (marked bytes n)) commands old past (ledger given)
      → IsJoined (port_of (marked bytes n)) commands new later (listens (ledger given) (Sent (marked bytes n))))
      → IsKeptOn n base new (given ++ Sent bytes ∷ []) commands later
  kept_taken below old new bytes given commands past later plain from_n before next =
      let small : n < 16 = omega (arith, below) in
      let a : IsHeardAlike (ledger given) bytes (marked bytes n) = marks_tell_nothing (ledger given) bytes n plain small in
      let its = next a (subst (λ (m : ℕ). IsJoined m commands old past (ledger given)) (sym from_n) before.joined) in
      kept_more new given (Sent bytes) commands later before.careful tt
      (subst (IsJoined n commands new later) a.up
      (subst (λ (m : ℕ). IsJoined m commands new later (listens (ledger given) (Sent (marked bytes n)))) from_n its))

  kept : n < 15 → (host : Host) (given : List Happening) (commands : ℕ → SlotCommand) (past : History) → IsHostedOn n base host given commands past
      → IsKeptOn n base host given commands past
  kept below host given commands past (anew.opens h c p opening) =
      record { careful = careful_base base; joined = opens_joined n h c p (ledger base) opening }
  kept below host given commands past (anew.stays old new g c p same whole hosted) =
      let before : IsKeptOn n base old g c p = kept below old g c p hosted in
      record { careful = before.careful; joined = keeps_joined n old new c p (ledger g) same before.joined }
  kept below host given commands past (anew.signs old new bytes report g c p sound plain framed from_n well right hosted) =
      kept_taken below old new bytes g c p p plain from_n (kept below old g c p hosted)
      (λ a joined. joins_signs old new (marked bytes n) report c p (ledger g) well (a.right right) joined)
  kept below host given commands past (anew.hears old new bytes report g c p sound plain framed from_n well right short hosted) =
      let lt : port_of (marked bytes n) < 15 = subst (λ (m : ℕ). m < 15) (sym from_n) below in
      kept_taken below old new bytes g c p (told (seen (marked bytes n)) ++ p) plain from_n (kept below old g c p hosted)
      (λ a joined. joins_frames old new (marked bytes n) report c p (ledger g) sound framed lt well (a.right right) (a.short short) joined)
  kept below host given commands past (anew.issues old new value g c next p sound chosen does tags names counted hosted) =
      let before : IsKeptOn n base old g c p = kept below old g c p hosted in
      record { careful = before.careful; joined = joins_issues n value old new c next p (ledger g) sound below chosen does tags names counted before.joined }
  kept below host given commands past (anew.sends old new frame slot command f t g c p sound framed does out here queued cfis request signed hosted) =
      let before : IsKeptOn n base old g c p = kept below old g c p hosted in
      kept_given new frame g (event.Sent slot) c p framed before.careful
      (joins_commands n slot old new frame command f t c p (ledger g) sound below does out here queued cfis request signed before.joined)
  kept below host given commands past
      (anew.asks old new frame slot command f t g c p sound framed does out here not_queued control moves cfis one none signed hosted) =
      let before : IsKeptOn n base old g c p = kept below old g c p hosted in
      kept_given new frame g (event.Sent slot) c p framed before.careful
      (joins_others n slot old new frame command f t c p (ledger g) sound below does out here not_queued control moves cfis one none signed before.joined)
  kept below host given commands past (anew.gives old new frame offset len command g c p sound framed does out hosted) =
      let before : IsKeptOn n base old g c p = kept below old g c p hosted in
      kept_given new frame g (event.Carried _) c p framed before.careful
      (joins_data n offset len old new frame command c p (ledger g) sound below does out before.joined)

pub hosted_on_is_kept : HostedOnIsKept
hosted_on_is_kept n base host given commands past below hosted = kept n base below host given commands past hosted

-- ## Since the disk was new

pub no_context : (n : ℕ) (host : Host) (past : History) → IsHistoryOf n host past → ((s : ℕ) → own_issue (view_of n host.port).slots s ≡ None)
    → (c : Context) → (view_of n host.port).slots.context ≡ Some c → ⊥
no_context n host past history none c now =
    let agrees : ContextAgrees _ c _ past = history.agrees.context_agrees c now in
    true≢false (sym agrees.of_issue ∙ ap is_some (none c.slot))

none_at : (o : Option Context) → ((c : Context) → o ≡ Some c → ⊥) → o ≡ None
none_at None never = refl
none_at (Some c) never = absurd (never c refl)

pub opens_signing : (n : ℕ) (host : Host) (commands : ℕ → SlotCommand) (past : History) (k : Ledger) → IsHistoryOf n host past
    → ((s : ℕ) → own_issue (view_of n host.port).slots s ≡ None) → ((s : ℕ) → (commands s).command.tag ≡ s) → OwesOnly k (Signs ∷ []) []
    → IsOpening n host commands past k
opens_signing n host commands past k history none tags owes =
    let clear : IsClear k = owes.clear in
    record {
      history = history;
      tags = tags;
      alone = λ s i there. let bad : None ≡ Some i = sym (none s) ∙ there in cc bad;
      sent = λ s i there. let bad : None ≡ Some i = sym (none s) ∙ there in cc bad;
      unset = none_at (view_of n host.port).slots.context (no_context n host past history none);
      clear = clear;
      talk = Replies Signs (record { outstanding = clear.outstanding; unanswered = clear.unanswered; moving = clear.moving }) owes.awaited tt owes.pages;
      calm = λ signs s t here.
          let bad : Some (work_of_transfer t) ≡ None = sym (ap (option_map work_of_transfer) here) ∙ history.issued s ∙ ap (option_map work_of_issue) (none s) in cc bad;
    }

opens_paging : (n : ℕ) (host : Host) (commands : ℕ → SlotCommand) (past : History) (k : Ledger) (page : Wanted) → IsHistoryOf n host past
    → ((s : ℕ) (i : Issue) → own_issue (view_of n host.port).slots s ≡ Some i → IsAwaited i) → SentAgrees (view_of n host.port).slots past
    → (view_of n host.port).slots.context ≡ None → IsWaitedUnset past → ((s : ℕ) → (commands s).command.tag ≡ s)
    → OwesOnly k (ShowsPage ∷ []) (page ∷ []) → IsOpening n host commands past k
opens_paging n host commands past k page history alone sent unset waited tags owes =
    let clear : IsClear k = owes.clear in
    record {
      history = history;
      tags = tags;
      alone = alone;
      sent = sent;
      unset = unset;
      clear = clear;
      talk =
          Shows (record { outstanding = clear.outstanding; unanswered = clear.unanswered; moving = clear.moving }) owes.awaited
          (subst AtMostOne (sym owes.pages) tt) waited;
      calm = λ signs. let bad : ShowsPage ∷ [] ≡ Signs ∷ [] = sym owes.awaited ∙ signs in cc bad;
    }

pub opens_after : OpensAfter
opens_after = record { signing = opens_signing; paging = opens_paging }

pub hosted_since_new : HostedSinceNew
hosted_since_new n host given commands past (since_new.plugged h c p history none tags) = anew.opens h c p (opens_signing n h c p (ledger (Plugged ∷ [])) history none tags (begins_anew.plugged []))
hosted_since_new n host given commands past (since_new.stays old new g c p same hosted) = anew.stays old new g c p (record { slots = ap (λ (v : DeviceView). v.slots) same; block = ap (λ (v : DeviceView). v.state.block) same }) (inr same) (hosted_since_new n old g c p hosted)
hosted_since_new n host given commands past (since_new.hears old new bytes report g c p sound plain framed from_n well right short hosted) =
    anew.hears old new bytes report g c p sound plain framed from_n well right short (hosted_since_new n old g c p hosted)
hosted_since_new n host given commands past (since_new.issues old new value g c next p sound chosen does tags names counted hosted) =
    anew.issues old new value g c next p sound chosen does tags names counted (hosted_since_new n old g c p hosted)
hosted_since_new n host given commands past (since_new.sends old new frame slot command f t g c p sound framed does out here queued cfis request signed hosted) =
    anew.sends old new frame slot command f t g c p sound framed does out here queued cfis request signed (hosted_since_new n old g c p hosted)
hosted_since_new n host given commands past (since_new.asks old new frame slot command f t g c p sound framed does out here not_queued control moves cfis one none signed hosted) =
    anew.asks old new frame slot command f t g c p sound framed does out here not_queued control moves cfis one none signed (hosted_since_new n old g c p hosted)
hosted_since_new n host given commands past (since_new.gives old new frame offset len command g c p sound framed does out hosted) =
    anew.gives old new frame offset len command g c p sound framed does out (hosted_since_new n old g c p hosted)
