-- For `rested_disks_have_done`. Over all that a host does with a disk since both began anew, from the first FIS of the disk on: the port
-- shows BSY only while an answer of the disk is to come, and DRQ only while a page is.
use Rattle.std.proofs.Common.{◌≡◌, ◌≢◌, ◌⊎◌, ℕ, zero, suc, ◌<◌, ◌≤◌, Bool, true, false, List, [], ◌∷◌, ◌++◌, append_assoc, length, refl, sym, ap}
use Rattle.std.proofs.{Common.{subst, ◌∙◌, inl, inr, Option, Some, None, Ok, Err, Result, arith}, lemmas.{Bool.{true≢false}, List.append_cancel_left}}
use Rattle.std.proofs.lemmas.List.{append-nil}
use Rattle.std.specs.{Prelude.{◌||◌, bit_or, if◌then◌else◌}, Option.option_map}
use Rattle.fis_view.specs.{Frames.{IsFrame, Stamped, marked}, Marks.IsMarked, Seen.{kind_of, may_have, seen, view_as}, Table.{Activate, Bits, D2h}}
use Rattle.fis_view.specs.{Table.{Data as DataKind, H2d, Kind, Other, Pio, Setup, Status, field}, declared.view.{Fis.Fis, FisFault.FisFault}}
use Rattle.fis_view.specs.declared.view.FisFault.TheVariants.{WrongLength}
use Rattle.fis_view.specs.declared.view.Fis.TheVariants as view
use Rattle.fis_view.proofs.Door.{is_marked}
use Rattle.host_memory.specs.Memory.{Memory}
use Rattle.hba_commands.specs.declared.command.Command as issued_command
use Rattle.slots.specs.{Slots.{is_control, own_issue}, Work.{is_dma, is_queued}}
use Rattle.hba_fbs.specs.{declared.{register.Register.TheVariants.Ci, report.TakeReport.TakeReport, state.DeviceState.DeviceState}, Issuing.aimed}
use Rattle.hba_fbs.specs.{Issuing.asked, Sending.{Data, Gives, Order, Outgoing, gathered, outgoing, resets, view_fed, view_sent}, Status.is_busy}
use Rattle.hba_fbs.specs.{Status.wants_data, Tables.{is_sound, prds_of}, Taking.{admitted, heard, port_of}, Views.{DeviceView, view_of}}
use Rattle.disk_model.specs.{declared.{plan.DiskPlan.DiskPlan, request.Request.Request}, Anew.{IsCarefulSince, IsClear, IsLinkedOn, OwesOnly}}
use Rattle.disk_model.specs.{Between.{alone, opened}, Ends.{Fits, FitsRequest, IsRight, Rests}, Histories.{Happening, Loaded, Plugged, Received}}
use Rattle.disk_model.specs.{Histories.Sent, Laws.AnswersRight, Ledger.{Accepts, IsSize, Ledger, Reply, ShowsPage, Signs, Wanted, answered, asks}}
use Rattle.disk_model.specs.{Ledger.{ledger, listens, listens_down, listens_up, takes_data}, Requests.request_of, Runs.IsDiskRun}
use Rattle.disk_model.specs.declared.request.Request.TheVariants as request
use Rattle.disk_model.specs.Anew as both
use Rattle.disk_model.proofs.Door.{asks_fits, ledger_push, opens_free, run_before}
use Rattle.hba_laws.specs.{Agreement.{IssueAgrees, is_for, work_of_transfer}, Between.{history_below, transfer_of, with_issued}, Client.own}
use Rattle.hba_laws.specs.{Delivering.{issued_below, touched}, History.{History, Transfer, is_set_up, issued, last_setup}, Hosts.{Does, Gave, Host}}
use Rattle.hba_laws.specs.{Hosts.Wrote, Sound.IsHost}
use Rattle.hba_laws.specs.History as event
use Rattle.hba_laws.proofs.Door.{own_below_is}
use Rattle.disk_simulation.specs.Anew as anew
use Rattle.disk_simulation.specs.{Anew.{IsHostedOn, IsKeptOn, IsOpening, IsSignedWell, KeepsSlots}, Answers.IsAlone, Between.{IsSigned, IsThere}}
use Rattle.disk_simulation.specs.{Files.{DisksSendTheirs, IsOfDisk}, Heard.IsTakenWell, Joined.{IsJoined, JoinsCommands, JoinsOthers}}
use Rattle.disk_simulation.specs.{Marked.IsHeardAlike, Same.SlotCommand, Together.{InTalk, NoneQueued, told}}
use Rattle.disk_simulation.proofs.Door.{began_unset, disk_marked, hosted_on_is_kept, marks_tell_nothing, signed, there_by, view_signed}
use Rattle.world_rests.proofs.{Long.{IsLong, sent_long}, Open.{IsToldDown, heard_fine, heard_it, sends, shown, told_down, view_is}, Paged.IsPageDue}
use Rattle.world_rests.proofs.Paged.{IsPaged, asked_down, due_as, no_page_queued, paged_alone, paged_down, paged_idle, paged_issued, paged_queued}
use Rattle.world_rests.proofs.{Paged.{paged_signed, paged_up}, Status.{IsCalm, answer_calm, busied_wants, calm_up, due_up, neither, no_idle}}

-- ---- what the host heard is the disk's

pub record IsDisks (r : Result Fis FisFault) : Type 0 where
  pub mine : IsOfDisk r
  pub long : IsLong r

pub AreDisks : List (List ℕ) → Type 0
AreDisks [] = Unit {0}
AreDisks (bytes ∷ later) = IsDisks (seen bytes) × AreDisks later

pub HeardDisks : List Happening → Type 0
HeardDisks [] = Unit {0}
HeardDisks (Sent bytes ∷ later) = IsDisks (seen bytes) × HeardDisks later
HeardDisks (Received bytes ∷ later) = HeardDisks later
HeardDisks (Plugged ∷ later) = HeardDisks later
HeardDisks (Loaded bytes ∷ later) = HeardDisks later

-- each FIS that the host heard since both began anew
pub record AreHeard (base given : List Happening) : Type 0 where
  pub since : List Happening
  pub is : given ≡ base ++ since
  pub heard : HeardDisks since

disks_push : (up : List (List ℕ)) (bytes : List ℕ) → AreDisks up → IsDisks (seen bytes) → AreDisks (up ++ bytes ∷ [])
unfolding AreDisks
disks_push [] bytes all one = (one, tt)
disks_push (x ∷ up) bytes all one = (all.0, disks_push up bytes all.1 one)

heard_sent : (since : List Happening) (bytes : List ℕ) → HeardDisks since → IsDisks (seen bytes) → HeardDisks (since ++ Sent bytes ∷ [])
unfolding HeardDisks
heard_sent [] bytes all one = (one, tt)
heard_sent (Sent b ∷ since) bytes all one = (all.0, heard_sent since bytes all.1 one)
heard_sent (Received b ∷ since) bytes all one = heard_sent since bytes all one
heard_sent (Plugged ∷ since) bytes all one = heard_sent since bytes all one
heard_sent (Loaded b ∷ since) bytes all one = heard_sent since bytes all one

heard_given : (since : List Happening) (bytes : List ℕ) → HeardDisks since → HeardDisks (since ++ Received bytes ∷ [])
unfolding HeardDisks
heard_given [] bytes all = tt
heard_given (Sent b ∷ since) bytes all = (all.0, heard_given since bytes all.1)
heard_given (Received b ∷ since) bytes all = heard_given since bytes all
heard_given (Plugged ∷ since) bytes all = heard_given since bytes all
heard_given (Loaded b ∷ since) bytes all = heard_given since bytes all

heard_first : (since : List Happening) (e : Happening) → HeardDisks (since ++ e ∷ []) → HeardDisks since × HeardDisks (e ∷ [])
unfolding HeardDisks
heard_first [] e all = (tt, all)
heard_first (Sent b ∷ since) e all = let rest = heard_first since e all.1 in ((all.0, rest.0), rest.1)
heard_first (Received b ∷ since) e all = heard_first since e all
heard_first (Plugged ∷ since) e all = heard_first since e all
heard_first (Loaded b ∷ since) e all = heard_first since e all

before_last : (base given : List Happening) (e : Happening) → IsCarefulSince base given → AreHeard base (given ++ e ∷ []) → AreHeard base given × HeardDisks (e ∷ [])
before_last base given e careful all =
    let same : all.since ≡ careful.since ++ e ∷ [] =
    append_cancel_left base all.since (careful.since ++ e ∷ [])
    (sym all.is ∙ ap (λ (xs : List Happening). xs ++ e ∷ []) careful.is ∙ append_assoc base careful.since (e ∷ [])) in
    let parts = heard_first careful.since e (subst HeardDisks same all.heard) in
    (record { since = careful.since; is = careful.is; heard = parts.0 }, parts.1)

last_sent : (bytes : List ℕ) → HeardDisks (Sent bytes ∷ []) → IsDisks (seen bytes)
unfolding HeardDisks
last_sent bytes all = all.0

module _ (plan : DiskPlan) (sectors : ℕ) (size : IsSize plan sectors) (theirs : DisksSendTheirs) where
  one_sent : (disk : List Happening) (bytes : List ℕ) → IsDiskRun plan sectors (disk ++ Sent bytes ∷ []) → IsDisks (seen bytes)
  one_sent disk bytes run = record { mine = theirs plan sectors disk bytes size run; long = sent_long plan sectors disk bytes size run }

  all_linked : (base disk host : List Happening) (down stale up : List (List ℕ)) → IsLinkedOn base disk host down stale up → IsDiskRun plan sectors disk → AreHeard base host × AreDisks up
  unfolding AreDisks HeardDisks
  all_linked base disk host down stale up (both.begins s clear) run = (record { since = []; is = sym (append-nil base); heard = tt }, tt)
  all_linked base disk host down stale up (both.gives d h below s above bytes linked) run =
      let p = all_linked base d h below s above linked run in (
        record {
          since = p.0.since ++ Received bytes ∷ [];
          is = ap (λ (xs : List Happening). xs ++ Received bytes ∷ []) p.0.is ∙ append_assoc base p.0.since (Received bytes ∷ []);
          heard = heard_given p.0.since bytes p.0.heard;
        },
        p.1,
      )
  all_linked base disk host down stale up (both.comes d h front back s above bytes linked) run =
      all_linked base d h (front ++ bytes ∷ back) s above linked (run_before plan sectors size d (Received bytes) run)
  all_linked base disk host down stale up (both.sends d h below s above bytes fine linked) run =
      let p = all_linked base d h below s above linked (run_before plan sectors size d (Sent bytes) run) in
      (p.0, disks_push above bytes p.1 (one_sent d bytes run))
  all_linked base disk host down stale up (both.drops d h below s above bytes linked) run = all_linked base d h below (bytes ∷ s) above linked run
  all_linked base disk host down stale up (both.takes d h below above bytes linked) run =
      let p = all_linked base d h below [] (bytes ∷ above) linked run in (
        record {
          since = p.0.since ++ Sent bytes ∷ [];
          is = ap (λ (xs : List Happening). xs ++ Sent bytes ∷ []) p.0.is ∙ append_assoc base p.0.since (Sent bytes ∷ []);
          heard = heard_sent p.0.since bytes p.0.heard p.1.0;
        },
        p.1.1,
      )

  pub are_heard : (base disk host : List Happening) (down stale up : List (List ℕ)) → IsLinkedOn base disk host down stale up → IsDiskRun plan sectors disk → AreHeard base host
  are_heard base disk host down stale up linked run = (all_linked base disk host down stale up linked run).0

-- its length stays when its PM Port is set
long_marked : (bytes : List ℕ) (port : ℕ) → IsFrame bytes → port < 16 → IsLong (seen bytes) → IsLong (seen (marked bytes port))
unfolding seen
long_marked bytes port frame below long =
    let m : IsMarked port bytes (marked bytes port) = is_marked bytes port frame below in
    subst IsLong (sym m.view) (by_kind m (kind_of bytes) (may_have (kind_of bytes) (length bytes)) long)
  where
    by_kind : (m : IsMarked port bytes (marked bytes port)) (kind : Kind) (b : Bool) → IsLong (if b then Ok (view_as kind bytes) else Err WrongLength)
        → IsLong (if b then Ok (view_as kind (marked bytes port)) else Err WrongLength)
    by_kind m kind false long = tt
    by_kind m DataKind true long = subst (λ (xs : List ℕ). 512 ≤ length xs) (sym m.payload) long
    by_kind m H2d true long = tt
    by_kind m D2h true long = tt
    by_kind m Activate true long = tt
    by_kind m Setup true long = tt
    by_kind m Pio true long = tt
    by_kind m Bits true long = tt
    by_kind m Other true long = tt

-- ---- commands are issued

module _ (memory : Memory) (asks_for : ℕ → Option issued_command.Command) (past : History) (k : Ledger) where
  one_issued : (m : ℕ) (o : Option issued_command.Command) (h : History) → IsPaged h k → IsPaged (with_issued memory m o h) k
  one_issued m None h p = p
  one_issued m (Some command) h p = paged_issued h k p m (transfer_of memory command)

  all_issued : (m : ℕ) → IsPaged past k → IsPaged (history_below memory asks_for past m) k
  all_issued zero p = p
  all_issued (suc m) p = one_issued m (asks_for m) (history_below memory asks_for past m) (all_issued m p)

  one_last : (m : ℕ) (o : Option issued_command.Command) (h : History) → last_setup (with_issued memory m o h) ≡ last_setup h
  one_last m None h = refl
  one_last m (Some command) h = refl

  all_last : (m : ℕ) → last_setup (history_below memory asks_for past m) ≡ last_setup past
  all_last zero = refl
  all_last (suc m) = one_last m (asks_for m) (history_below memory asks_for past m) ∙ all_last m

-- ---- a command is sent

sent_wants : (state : DeviceState) (on b : Bool) → wants_data (if b then record state { resetting = on } else record state { status = bit_or state.status 0x80 }).status ≡ true
    → wants_data state.status ≡ true
sent_wants state on true set = set
sent_wants state on false set = busied_wants state.status set

not_none : {X : Type 0} (xs : List Reply) (x : Reply) → xs ++ x ∷ [] ≡ [] → X
not_none [] x is = cc is
not_none (y ∷ xs) x is = cc is

awaits_some : (k : Ledger) (r : Request) → IsAlone r → (alone k r).awaited ≢ []
awaits_some k request.ReadErrorLog one empty = not_none k.awaited ShowsPage empty
awaits_some k request.Identify one empty = not_none k.awaited ShowsPage empty
awaits_some k request.Flush one empty = not_none k.awaited _ empty
awaits_some k request.Other one empty = not_none k.awaited _ empty
awaits_some k other one empty = absurd one

alone_rests : (k : Ledger) (f : List ℕ) → IsAlone (request_of f) → Fits k (Ok (view.RegH2D f)) → Rests k
alone_rests k f one fits = by_request (request_of f) one fits.1
  where
    by_request : (r : Request) → IsAlone r → FitsRequest k r → Rests k
    by_request (request.Reset on) one rests = absurd one
    by_request (request.Queue c) one rests = absurd one
    by_request other one rests = rests

-- what the host gives fits the ledger
pub record GivenFits : Type 0 where
  pub commands : JoinsCommands
  pub others : JoinsOthers

-- ---- all of it

-- only the signature was to come where both began, or only the page of the log
abbrev pub OwesOne : List Happening → Type 0
OwesOne base = OwesOnly (ledger base) (Signs ∷ []) [] ⊎ ((page : Wanted) × OwesOnly (ledger base) (ShowsPage ∷ []) (page ∷ []))

module _ (n : ℕ) (base : List Happening) (below : n < 15) (owes : OwesOne base) (fits : GivenFits) where
  pub record IsCalmOn (host : Host) (given : List Happening) (past : History) : Type 0 where
    pub paged : IsPaged past (ledger given)
    pub file : (given ≡ base) ⊎ IsCalm (view_of n host.port).state.status past (ledger given)

  small : n < 16
  small = omega (arith, below)

  kept : (host : Host) (given : List Happening) (commands : ℕ → SlotCommand) (past : History) → IsHostedOn n base host given commands past → IsKeptOn n base host given commands past
  kept host given commands past hosted = hosted_on_is_kept n base host given commands past below hosted

  base_waits : {X : Type 0} (given : List Happening) → given ≡ base → (ledger given).awaited ≡ [] → X
  base_waits given same none = elim owes [
    | inl one ↦ let bad : Signs ∷ [] ≡ [] = sym one.awaited ∙ ap (λ (h : List Happening). (ledger h).awaited) (sym same) ∙ none in cc bad
    | inr page ↦ let bad : ShowsPage ∷ [] ≡ [] = sym page.1.awaited ∙ ap (λ (h : List Happening). (ledger h).awaited) (sym same) ∙ none in cc bad
  ]

  base_clear : IsClear (ledger base)
  base_clear = elim owes [ inl one ↦ one.clear | inr page ↦ page.1.clear ]

  begins : (host : Host) (commands : ℕ → SlotCommand) (past : History) → IsOpening n host commands past (ledger base) → IsCalmOn host base past
  begins host commands past o = record {
    paged = record {
      due = λ s t here plain on.
          let at : IsThere (view_of n host.port).slots s t =
          there_by (view_of n host.port).slots s t (own_issue (view_of n host.port).slots s) refl (sym (ap (option_map work_of_transfer) here) ∙ o.history.issued s) in
          let agrees : IssueAgrees s at.issue (view_of n host.port).slots.context past = o.history.agrees.issues_agree s at.issue at.there in
          absurd (true≢false (sym on ∙ agrees.set_up_is ∙ ap (is_for s) o.unset));
      shown = λ later is empty. elim owes [
        | inl one ↦ let bad : Signs ∷ [] ≡ ShowsPage ∷ later = sym one.awaited ∙ is in cc bad
        | inr page ↦ let bad : page.0 ∷ [] ≡ [] = sym page.1.pages ∙ empty in cc bad
      ];
    };
    file = inl refl;
  }

  abbrev Both : Host → History → Ledger → Type 0
  Both new later x = IsPaged later x × IsCalm (view_of n new.port).state.status later x

  calm_more : (new : Host) (given : List Happening) (e : Happening) (later : History) → Both new later (listens (ledger given) e) → IsCalmOn new (given ++ e ∷ []) later
  calm_more new given e later all =
      let its : Both new later (ledger (given ++ e ∷ [])) = subst (Both new later) (sym (ledger_push given e)) all in
      record { paged = its.0; file = inr its.1 }

  -- a FIS of the disk
  hears : (old new : Host) (bytes : List ℕ) (report : TakeReport) (given : List Happening) (commands : ℕ → SlotCommand) (past : History) → IsFrame bytes → port_of (marked bytes n) ≡ n
      → IsTakenWell old (marked bytes n) report new → IsRight (ledger given) (seen bytes) → IsHostedOn n base old given commands past → IsDisks (seen bytes) → IsCalmOn old given past
      → IsCalmOn new (given ++ Sent bytes ∷ []) (told (seen (marked bytes n)) ++ past)
  hears old new bytes report given commands past plain from_n well right hosted disks was =
      let k : Ledger = ledger given in
      let m : List ℕ = marked bytes n in
      let dev : ℕ = port_of (marked bytes n) in
      let v : DeviceView = view_of (port_of (marked bytes n)) old.port in
      let sound : Bool = is_sound old.memory old.port.commands (view_of (port_of (marked bytes n)) old.port).slots in
      let a : IsHeardAlike (ledger given) bytes (marked bytes n) = marks_tell_nothing (ledger given) bytes n plain small in
      let its : IsRight (ledger given) (seen (marked bytes n)) = a.right right in
      let mine : IsOfDisk (seen (marked bytes n)) = disk_marked bytes n plain small disks.mine in
      let long : IsLong (seen (marked bytes n)) = long_marked bytes n plain small disks.long in
      let joined : IsJoined (port_of (marked bytes n)) commands old past (ledger given) =
      subst (λ (d : ℕ). IsJoined d commands old past (ledger given)) (sym from_n) (kept old given commands past hosted).joined in
      let fine : (heard (port_of (marked bytes n)) (view_of (port_of (marked bytes n)) old.port) (is_sound old.memory old.port.commands (view_of (port_of (marked bytes n)) old.port).slots) (admitted (port_of (marked bytes n)) (seen (marked bytes n)))).fault ≡ None =
      heard_fine old new (marked bytes n) report well in
      let paged : IsPaged (told (seen (marked bytes n)) ++ past) (listens_up (ledger given) (seen (marked bytes n))) =
      paged_up past (ledger given) joined.same.talk was.paged (seen (marked bytes n)) its mine long joined.same.free
      (due_up v commands past (ledger given) joined.history joined.same was.paged dev sound (seen (marked bytes n)) its long fine) in
      let before : ((given ≡ base) ⊎ IsCalm (view_of dev old.port).state.status past (ledger given)) =
      subst (λ (d : ℕ). (given ≡ base) ⊎ IsCalm (view_of d old.port).state.status past (ledger given)) (sym from_n) was.file in
      let calm : IsCalm (heard dev v sound (admitted dev (seen (marked bytes n)))).state.status (told (seen (marked bytes n)) ++ past) (listens_up (ledger given) (seen (marked bytes n))) =
      calm_up v commands past (ledger given) joined.history joined.same was.paged dev sound (seen (marked bytes n)) its mine long
      (elim before [
        | inl same ↦
            inl (
              subst (λ (h : List Happening). IsClear (ledger h)) (sym same) base_clear,
              subst (λ (d : ℕ). (view_of d old.port).slots.context ≡ None) (sym from_n) (began_unset n base below old given commands past hosted same),
            )
        | inr calm ↦ inr calm
      ]) fine in
      let view_new = (well.takes.heard (heard_it old new (marked bytes n) report well)).own in
      let status : (view_of n new.port).state.status ≡ (heard dev v sound (admitted dev (seen (marked bytes n)))).state.status =
      ap (λ (d : ℕ). (view_of d new.port).state.status) (sym from_n) ∙ ap (λ (w : DeviceView). w.state.status) view_new in
      calm_more new given (Sent bytes) (told (seen (marked bytes n)) ++ past)
      (subst (Both new (told (seen (marked bytes n)) ++ past)) a.up
      (paged, subst (λ (s : ℕ). IsCalm s (told (seen (marked bytes n)) ++ past) (listens_up (ledger given) (seen (marked bytes n)))) (sym status) calm))

  -- the signature that ends a software reset
  signs : (old new : Host) (bytes : List ℕ) (report : TakeReport) (given : List Happening) (commands : ℕ → SlotCommand) (past : History) → IsFrame bytes → port_of (marked bytes n) ≡ n
      → IsSignedWell old (marked bytes n) report new → IsRight (ledger given) (seen bytes) → IsHostedOn n base old given commands past → IsCalmOn old given past
      → IsCalmOn new (given ++ Sent bytes ∷ []) past
  signs old new bytes report given commands past plain from_n well right hosted was =
      let a : IsHeardAlike (ledger given) bytes (marked bytes n) = marks_tell_nothing (ledger given) bytes n plain small in
      let s : IsSigned (seen (marked bytes n)) = signed old new (marked bytes n) report well in
      let replies : AnswersRight (ledger given) (Ok (view.RegD2H s.frame)) = subst (AnswersRight (ledger given)) s.is (a.right right).replies in
      let none = answer_calm (ledger given).awaited s.frame replies in
      let status : (view_of n new.port).state.status ≡ field D2h Status s.frame =
      ap (λ (d : ℕ). (view_of d new.port).state.status) (sym from_n) ∙ ap (λ (w : DeviceView). w.state.status) (view_signed old new (marked bytes n) report well) in
      let paged : IsPaged past (answered (ledger given)) = paged_signed past (ledger given) (kept old given commands past hosted).joined.same.talk was.paged in
      let its : Both new past (listens_up (ledger given) (Ok (view.RegD2H s.frame))) =
      (paged, neither _ past (answered (ledger given)) (ap is_busy status ∙ none.0) (ap wants_data status ∙ none.1)) in
      calm_more new given (Sent bytes) past (subst (Both new past) a.up (subst (λ (r : Result Fis FisFault). Both new past (listens_up (ledger given) r)) (sym s.is) its))

  -- commands are issued
  issues : (old new : Host) (value : ℕ) (given : List Happening) (commands next : ℕ → SlotCommand) (past : History) → IsHost old → aimed old.port.registers old.memory.structure value ≡ n
      → Does old (Wrote Ci value) new → IsHostedOn n base old given commands past → IsCalmOn old given past → IsCalmOn new given (own n (touched old (Wrote Ci value)) ++ past)
  issues old new value given commands next past sound chosen does hosted was =
      let later : History = history_below old.memory (asked old.port.registers old.memory value) past 32 in
      let touch_is : own n (touched old (Wrote Ci value)) ++ past ≡ history_below old.memory (asked old.port.registers old.memory value) past 32 =
      ap (λ (d : ℕ). own n (issued_below d old.memory (asked old.port.registers old.memory value) 32) ++ past) chosen
      ∙ own_below_is n old.memory (asked old.port.registers old.memory value) past 32 in
      let joined : IsJoined n commands old past (ledger given) = (kept old given commands past hosted).joined in
      let status : (view_of n new.port).state.status ≡ (view_of n old.port).state.status =
      ap (λ (w : DeviceView). w.state.status) (view_is n value old new commands next past (ledger given) sound below chosen does joined) in
      let last : last_setup (history_below old.memory (asked old.port.registers old.memory value) past 32) ≡ last_setup past =
      all_last old.memory (asked old.port.registers old.memory value) past (ledger given) 32 in
      subst (λ (h : History). IsCalmOn new given h) (sym touch_is) (record {
        paged = all_issued old.memory (asked old.port.registers old.memory value) past (ledger given) 32 was.paged;
        file = elim was.file [
          | inl same ↦ inl same
          | inr calm ↦ inr (record {
            busy = λ on. calm.busy (sym (ap is_busy status) ∙ on);
            wants = λ on. let d : IsPageDue past (ledger given) = calm.wants (sym (ap wants_data status) ∙ on) in due_as past later (ledger given) (ledger given) last d.awaited refl d;
          })
        ];
      })

  module _ (old new : Host) (frame : Stamped) (slot : ℕ) (command : issued_command.Command) (f : List ℕ) (t : Transfer) (given : List Happening) (commands : ℕ → SlotCommand) (past : History)
      (sound : IsHost old) (framed : IsFrame frame.bytes) (does : Does old (Gave (Some frame)) new) (out : outgoing old.port old.memory ≡ Order n slot command)
      (here : issued slot past ≡ Some t) (cfis : seen command.cfis ≡ Ok (view.RegH2D f)) (hosted : IsHostedOn n base old given commands past) (was : IsCalmOn old given past) where
    joined_here : IsJoined n commands old past (ledger given)
    joined_here = (kept old given commands past hosted).joined

    alike : IsHeardAlike (ledger given) frame.bytes (marked frame.bytes 0)
    alike = marks_tell_nothing (ledger given) frame.bytes 0 framed (omega arith)

    told_h2d : seen frame.bytes ≡ Ok (view.RegH2D f)
    told_h2d = shown n slot old new frame command f t commands past (ledger given) sound does out here cfis joined_here

    wanted : wants_data (view_of n new.port).state.status ≡ true → wants_data (view_of n old.port).state.status ≡ true
    wanted on =
        let view_new : view_of n new.port ≡ view_sent (view_of n old.port) slot command =
        (sends n slot old new frame command f t commands past (ledger given) sound does out here cfis joined_here).own in
        sent_wants (view_of n old.port).state ((view_of n old.port).state.resetting || resets command.cfis) (is_control command.work.kind)
        (sym (ap (λ (w : DeviceView). wants_data w.state.status) view_new) ∙ on)

    due_before : (ledger given).awaited ≡ [] → wants_data (view_of n new.port).state.status ≡ true → IsPageDue past (ledger given)
    due_before none on = elim was.file [ inl same ↦ base_waits given same none | inr calm ↦ calm.wants (wanted on) ]

    sent_with : (x : Ledger) → listens (ledger given) (Received frame.bytes) ≡ x → IsPaged (event.Sent slot ∷ past) x → x.awaited ≢ []
        → (wants_data (view_of n new.port).state.status ≡ true → ⊥) → IsCalmOn new (given ++ Received (marked frame.bytes 0) ∷ []) (event.Sent slot ∷ past)
    sent_with x later paged some never =
        let its : Both new (event.Sent slot ∷ past) x = (paged, record { busy = λ on. some; wants = λ on. absurd (never on) }) in
        calm_more new given (Received (marked frame.bytes 0)) (event.Sent slot ∷ past)
        (subst (Both new (event.Sent slot ∷ past)) (sym (alike.down ∙ later)) its)

    queued_calm : is_queued t.work.kind ≡ true → request_of f ≡ request.Queue (commands slot).command → (ledger given).awaited ≢ Signs ∷ []
        → InTalk (event.Sent slot ∷ past) (ledger (given ++ Received (marked frame.bytes 0) ∷ [])) → IsCalmOn new (given ++ Received (marked frame.bytes 0) ∷ []) (event.Sent slot ∷ past)
    queued_calm queued asks_it signed talk =
        let k : Ledger = ledger given in
        let c = (commands slot).command in
        let fit = (fits.commands n slot old new frame command f t commands past (ledger given) sound below does out here queued cfis asks_it signed joined_here).fits in
        let fit_it : Fits (ledger given) (Ok (view.RegH2D f)) = subst (Fits (ledger given)) told_h2d fit in
        let can = subst (λ (r : Request). FitsRequest (ledger given) r) asks_it fit_it.1 in
        let later : listens (ledger given) (Received frame.bytes) ≡ opened (ledger given) (commands slot).command =
        ap (listens_down (ledger given)) told_h2d ∙ ap (λ (r : Request). asks (ledger given) r (ledger given).failed) asks_it
        ∙ opens_free (ledger given) (commands slot).command fit_it.0 can.0.outstanding in
        let now : InTalk (event.Sent slot ∷ past) (opened (ledger given) (commands slot).command) =
        subst (InTalk (event.Sent slot ∷ past)) (ledger_push given (Received (marked frame.bytes 0)) ∙ alike.down ∙ later) talk in
        sent_with (opened (ledger given) (commands slot).command) later (paged_queued past (ledger given) joined_here.same.talk was.paged slot (commands slot).command now can.1)
        (not_none (ledger given).awaited Accepts)
        (λ on. no_page_queued past (ledger given) joined_here.same.talk was.paged slot (commands slot).command now can.1 (due_before can.1 on))

    other_calm : is_queued t.work.kind ≡ false → is_control t.work.kind ≡ false → is_dma t.work.kind ≡ false → IsAlone (request_of f)
        → ((s : ℕ) → NoneQueued (issued s past)) → (ledger given).awaited ≢ Signs ∷ [] → IsCalmOn new (given ++ Received (marked frame.bytes 0) ∷ []) (event.Sent slot ∷ past)
    other_calm plain control moves one none signed =
        let fit = (fits.others n slot old new frame command f t commands past (ledger given) sound below does out here plain control moves cfis one none signed joined_here).fits in
        let fit_it : Fits (ledger given) (Ok (view.RegH2D f)) = subst (Fits (ledger given)) told_h2d fit in
        let rests : Rests (ledger given) = alone_rests (ledger given) f one fit_it in
        let later : listens (ledger given) (Received frame.bytes) ≡ alone (ledger given) (request_of f) =
        ap (listens_down (ledger given)) told_h2d ∙ asks_fits (ledger given) (request_of f) fit_it.0 fit_it.1 in
        sent_with (alone (ledger given) (request_of f)) later (paged_alone past (ledger given) joined_here.same.talk was.paged slot (request_of f) one rests)
        (awaits_some (ledger given) (request_of f) one)
        (λ on. (due_before rests.awaited on).pages rests.pages)

  -- Data is given
  gives : (old new : Host) (frame : Stamped) (offset len : ℕ) (command : issued_command.Command) (given : List Happening) (commands : ℕ → SlotCommand) (past : History) → IsHost old
      → IsFrame frame.bytes → Does old (Gave (Some frame)) new → outgoing old.port old.memory ≡ Data n offset len command → IsHostedOn n base old given commands past → IsCalmOn old given past
      → IsCalmOn new (given ++ Received (marked frame.bytes 0) ∷ []) (event.Carried (gathered (prds_of old.memory command) offset len old.memory.client) ∷ past)
  gives old new frame offset len command given commands past sound framed does out hosted was =
      let bytes : List ℕ = gathered (prds_of old.memory command) offset len old.memory.client in
      let joined : IsJoined n commands old past (ledger given) = (kept old given commands past hosted).joined in
      let alike : IsHeardAlike (ledger given) frame.bytes (marked frame.bytes 0) = marks_tell_nothing (ledger given) frame.bytes 0 framed (omega arith) in
      let d : IsToldDown n offset len old new frame command commands past (ledger given) sound does out joined = told_down n offset len old new frame command commands past (ledger given) sound does out joined in
      let view_new : view_of n new.port ≡ view_fed (view_of n old.port) = (subst (λ (o : Outgoing). Gives o old.port old.memory (Some frame) new.port) out does.0).own in
      let status : (view_of n new.port).state.status ≡ (view_of n old.port).state.status = ap (λ (w : DeviceView). w.state.status) view_new in
      let calm : IsCalm (view_of n old.port).state.status past (ledger given) = elim was.file [
        | inl same ↦
            let bad : None ≡ Some d.context = sym (began_unset n base below old given commands past hosted same) ∙ d.there in
            cc bad
        | inr calm ↦ calm
      ] in
      let later : History = event.Carried (gathered (prds_of old.memory command) offset len old.memory.client) ∷ past in
      let x : Ledger = takes_data (ledger given) (ledger given).moving (gathered (prds_of old.memory command) offset len old.memory.client) in
      let its : Both new later x = (
        paged_down past (ledger given) joined.same.talk was.paged d.asks.current bytes d.asks.moving,
        record {
          busy = λ on empty. calm.busy (sym (ap is_busy status) ∙ on) (sym (asked_down (ledger given) bytes).awaited ∙ empty);
          wants = λ on.
              let due : IsPageDue past (ledger given) = calm.wants (sym (ap wants_data status) ∙ on) in
              no_idle (ledger given) d.asks.current (paged_idle past (ledger given) joined.same.talk due.pages) d.asks.moving;
        },
      ) in
      calm_more new given (Received (marked frame.bytes 0)) later (subst (Both new later) (sym (alike.down ∙ d.later)) its)

  pub calm_on : (host : Host) (given : List Happening) (commands : ℕ → SlotCommand) (past : History) → IsHostedOn n base host given commands past → AreHeard base given → IsCalmOn host given past
  calm_on host given commands past (anew.opens h c p opening) all = begins h c p opening
  calm_on host given commands past (anew.stays old new g c p same whole hosted) all =
      let was : IsCalmOn old g p = calm_on old g c p hosted all in
      record {
        paged = was.paged;
        file = elim whole [
          | inl begun ↦ inl begun
          | inr view_same ↦ subst (λ (w : DeviceView). (g ≡ base) ⊎ IsCalm w.state.status p (ledger g)) (sym view_same) was.file
        ];
      }
  calm_on host given commands past (anew.signs old new bytes report g c p sound plain framed from_n well right hosted) all =
      let before = before_last base g (Sent bytes) (kept old g c p hosted).careful all in
      signs old new bytes report g c p plain from_n well right hosted (calm_on old g c p hosted before.0)
  calm_on host given commands past (anew.hears old new bytes report g c p sound plain framed from_n well right short hosted) all =
      let before = before_last base g (Sent bytes) (kept old g c p hosted).careful all in
      hears old new bytes report g c p plain from_n well right hosted (last_sent bytes before.1) (calm_on old g c p hosted before.0)
  calm_on host given commands past (anew.issues old new value g c next p sound chosen does tags names counted hosted) all =
      issues old new value g c next p sound chosen does hosted (calm_on old g c p hosted all)
  calm_on host given commands past (anew.sends old new frame slot command f t g c p sound framed does out here queued cfis asks_it signed hosted) all =
      let before = before_last base g (Received (marked frame.bytes 0)) (kept old g c p hosted).careful all in
      queued_calm old new frame slot command f t g c p sound framed does out here cfis hosted (calm_on old g c p hosted before.0) queued asks_it signed
      (kept new _ c (event.Sent slot ∷ p) (anew.sends old new frame slot command f t g c p sound framed does out here queued cfis asks_it signed hosted)).joined.same.talk
  calm_on host given commands past (anew.asks old new frame slot command f t g c p sound framed does out here plain control moves cfis one none signed hosted) all =
      let before = before_last base g (Received (marked frame.bytes 0)) (kept old g c p hosted).careful all in
      other_calm old new frame slot command f t g c p sound framed does out here cfis hosted (calm_on old g c p hosted before.0) plain control moves one none signed
  calm_on host given commands past (anew.gives old new frame offset len command g c p sound framed does out hosted) all =
      let before = before_last base g (Received (marked frame.bytes 0)) (kept old g c p hosted).careful all in
      gives old new frame offset len command g c p sound framed does out hosted (calm_on old g c p hosted before.0)
