-- For `rested_disks_have_signed`. While a disk and its host are together, and the disk is new to the driver, nothing of it is issued. So it
-- owes its signature or nothing, and what the host takes of it is its signature, which is posted in its row.
use Rattle.std.proofs.Common.{◌≡◌, ◌≢◌, ℕ, ◌<◌, ◌==◌, ◌&&◌, ◌||◌, Bool, true, false, List, [], ◌∷◌, ◌++◌, refl, sym, ap, subst, ◌∙◌, inl, inr, Option}
use Rattle.std.proofs.{Common.{Some, None, Ok, Result, arith}, lemmas.Bool.{and_from, eq-eqb, false≢true, true≢false}}
use Rattle.std.specs.{Prelude.{◌⊎◌, is_some, is_none, not, find}, List.list_any}
use Rattle.fis_view.specs.{Frames.{IsFrame, marked}, Seen.seen, Table.{Bits, BufferId, D2h, SActive, Setup, field}, declared.view.Fis.Fis}
use Rattle.fis_view.specs.declared.view.FisFault.{FisFault}
use Rattle.fis_view.specs.declared.view.Fis.TheVariants as view
use Rattle.hba_fbs.specs.{declared.report.TakeReport.TakeReport, Posting.{is_ata_signature, signs}, Taking.{Hears, heard_report, ignores, is_running}}
use Rattle.hba_fbs.specs.{Taking.port_of, Views.{DeviceView, view_of}}
use Rattle.disk_model.specs.{declared.{plan.DiskPlan.DiskPlan, request.Command.Command}, Anew.IsCarefulSince, Ends.{IsRight, MovesOther, PageAsked}}
use Rattle.disk_model.specs.{Ends.has, Histories.Happening, Laws.{ActivatesRight, AnswersFirst, IsRegister, SetsUpRight, ShowsFirst, StartsOne}}
use Rattle.disk_model.specs.Ledger.{Accepts, Finishes, Ledger, Moving, Names, Refuses, Reply, ShowsPage, Signs, ledger}
use Rattle.hba_laws.specs.{Client.{Touches, own}, History.{History, Transfer, issued}}
use Rattle.hba_laws.specs.Hosts as event
use Rattle.disk_simulation.specs.{Anew.IsKeptOn, Files.IsOfDisk, Line.IsWatchedWell, Same.SlotCommand, Together.{InTalk, IsOwnReply, IsWaited}}
use Rattle.disk_simulation.specs.{Together.{NoneQueued, Pages, Queues, Replies, Same, Shows}, Watched.IsWatched}
use Rattle.disk_simulation.proofs.Door.{disk_marked, error_faults, hosted_on_is_kept, marks_tell_nothing, next_of_disk, next_or_fails, watches_on}
use Rattle.hba_driver.specs.declared.{path.Recovery.Recovery, plan.{Device.{Device, TheVariants.{Absent, Ready, Recovering, Starting}}, Plan.Plan}}
use Rattle.hba_driver.specs.{Drivers.{device_at, is_issued, waits}, Events.shared_by, HostTurns.{Does, Host, Took}, Steady.HasSignature}
use Rattle.hba_driver.specs.Tended.{Awaits, Fine, Identifies, IsTendedBy, IsUnworked, Logs, Releases, Spoilt}
use Rattle.hba_driver.proofs.Door.{ignores_as}
use Rattle.disk_recovery.specs.{Ends.{IsOnTime, IsRunning, IsTogether, Resetting, Steady}, Together.IsServedOn}
use Rattle.world_rests.proofs.{SignPlans.{IsAbsent, IsNew, Starts}, SignRows.register_posted}

-- ---- the driver

absent_starting : {X : Type 0} (d : Device) → d ≡ Absent → d ≡ Starting → X
absent_starting d a s = absurd (cc)

absent_ready : {X : Type 0} (d : Device) → d ≡ Absent → d ≡ Ready → X
absent_ready d a s = absurd (cc)

starting_ready : {X : Type 0} (d : Device) → d ≡ Starting → d ≡ Ready → X
starting_ready d a s = absurd (cc)

absent_recovering : {X : Type 0} (way : Recovery) (d : Device) → d ≡ Absent → d ≡ Recovering way → X
absent_recovering way d a r = absurd (cc)

starting_recovering : {X : Type 0} (way : Recovery) (d : Device) → d ≡ Starting → d ≡ Recovering way → X
starting_recovering way d a r = absurd (cc)

pub new_ready : {X : Type 0} (n : ℕ) (plan : Plan) → IsNew n plan → device_at plan n ≡ Ready → X
new_ready n plan (IsAbsent a) ready = absent_ready (device_at plan n) a ready
new_ready n plan (Starts s away) ready = starting_ready (device_at plan n) s ready

pub new_recovering : {X : Type 0} (n : ℕ) (plan : Plan) (way : Recovery) → IsNew n plan → device_at plan n ≡ Recovering way → X
new_recovering n plan way (IsAbsent a) r = absent_recovering way (device_at plan n) a r
new_recovering n plan way (Starts s away) r = starting_recovering way (device_at plan n) s r

new_unworked : (n : ℕ) (plan : Plan) → IsTendedBy n plan → IsNew n plan → IsUnworked n plan
new_unworked n plan way (Starts s away) = away
new_unworked n plan (Fine fine works) (IsAbsent a) = λ p goes dev. absent_starting (device_at plan n) a (works p goes dev).1.1
new_unworked n plan (Releases device works) (IsAbsent a) = absent_recovering _ (device_at plan n) a device
new_unworked n plan (Awaits device works) (IsAbsent a) = absent_recovering _ (device_at plan n) a device
new_unworked n plan (Identifies device works) (IsAbsent a) = absent_recovering _ (device_at plan n) a device
new_unworked n plan (Logs before file device works) (IsAbsent a) = absent_recovering _ (device_at plan n) a device
new_unworked n plan (Spoilt device away) (IsAbsent a) = away

-- ---- what the disk owes

pub record OwesAtMost (k : Ledger) : Type 0 where
  pub outstanding : k.outstanding ≡ []
  pub unanswered : k.unanswered ≡ []
  pub moving : k.moving ≡ None
  pub awaited : (k.awaited ≡ []) ⊎ (k.awaited ≡ Signs ∷ [])
  pub pages : k.pages ≡ []

own_first : {X : Type 0} (b c : Bool) → b ≡ true → (b || c) ≡ false → X
own_first true c is none = absurd (true≢false none)
own_first false c is none = absurd (false≢true is)

none_outstanding : (qs : List Command) → ((s : ℕ) → list_any (λ q. q.tag == s) qs ≡ false) → qs ≡ []
none_outstanding [] none = refl
none_outstanding (q ∷ qs) none = own_first (q.tag == q.tag) _ (eq-eqb q.tag q.tag refl) (none q.tag)

none_unanswered : (ts : List ℕ) → ((s : ℕ) → has s ts ≡ false) → ts ≡ []
none_unanswered [] none = refl
none_unanswered (t ∷ ts) none = own_first (t == t) _ (eq-eqb t t refl) (none t)

none_moving : (m : Option Moving) → ((s : ℕ) → MovesOther s m) → m ≡ None
none_moving None none = refl
none_moving (Some v) none = absurd (true≢false (sym (eq-eqb v.command.tag v.command.tag refl) ∙ none v.command.tag))

module _ (k : Ledger) (past : History) (none : (s : ℕ) (t : Transfer) → issued s past ≡ Some t → ⊥) where
  none_queued : (s : ℕ) → NoneQueued (issued s past)
  none_queued s = by_issue (issued s past) refl
    where
      by_issue : (o : Option Transfer) → issued s past ≡ o → NoneQueued o
      by_issue None here = tt
      by_issue (Some t) here = absurd (none s t here)

  none_waits : (queued : Bool) → IsWaited queued past → ⊥
  none_waits queued w = none w.slot w.transfer w.there

  none_awaited : (xs : List Reply) → k.awaited ≡ xs → (k.awaited ≢ [] → IsWaited true past) → (k.awaited ≡ []) ⊎ (k.awaited ≡ Signs ∷ [])
  none_awaited [] is waits = inl is
  none_awaited (x ∷ xs) is waits = absurd (none_waits true (waits (λ e. let wrong : x ∷ xs ≡ [] = sym is ∙ e in cc wrong)))

  own_reply : (reply : Reply) → k.awaited ≡ reply ∷ [] → IsOwnReply reply past → (k.awaited ≡ []) ⊎ (k.awaited ≡ Signs ∷ [])
  own_reply Signs is mine = inr is
  own_reply Accepts is mine = absurd mine
  own_reply Finishes is mine = absurd (none_waits false mine)
  own_reply Refuses is mine = absurd (none_waits false mine)
  own_reply ShowsPage is mine = absurd mine

  talk_none : InTalk past k → ((k.awaited ≡ []) ⊎ (k.awaited ≡ Signs ∷ [])) × (k.pages ≡ [])
  talk_none (Queues most waits pages) = (none_awaited k.awaited refl waits, pages)
  talk_none (Replies reply idle one mine pages) = (own_reply reply one mine, pages)
  talk_none (Shows idle one most unset) = absurd (none_waits false unset.waited)
  talk_none (Pages page idle empty one waits) = absurd (none_waits false waits)

  owes_at_most : (commands : ℕ → SlotCommand) → Same commands past k → OwesAtMost k
  owes_at_most commands same =
      let talk = talk_none same.talk in
      record {
        outstanding = none_outstanding k.outstanding (λ s. (same.free s (none_queued s)).outstanding);
        unanswered = none_unanswered k.unanswered (λ s. (same.free s (none_queued s)).unanswered);
        moving = none_moving k.moving (λ s. (same.free s (none_queued s)).moving);
        awaited = talk.0;
        pages = talk.1;
      }

module _ (n : ℕ) (below : n < 15) (base : List Happening) (h : Host) (given : List Happening) (commands : ℕ → SlotCommand) (touches : Touches)
    (s : IsServedOn n base h given commands touches)
    (new : IsNew n h.driver.plan) where
  unworked : IsUnworked n h.driver.plan
  unworked = new_unworked n h.driver.plan s.tended.plan.way new

  -- nothing of it is issued
  none_issued : (slot : ℕ) (t : Transfer) → issued slot (own n touches) ≡ Some t → ⊥
  none_issued slot t there =
      let of = s.served.issues n slot t there in
      elim of.from [
        | inl r ↦
            new_ready n h.driver.plan new
            (s.tended.requests.ready slot r.entry
            (record { stands = r.stands; of_dev = r.of_dev; lives = or_right (waits r.entry.head) (is_issued r.entry.head) r.goes }))
        | inr (inl step) ↦ unworked step.path step.goes step.of_dev
        | inr (inr ordered) ↦ let same : n ≡ 15 = ordered.of_dev in absurd (omega (arith, below, same))
      ]
    where
      or_right : (a b : Bool) → b ≡ true → (a || b) ≡ true
      or_right true b is = refl
      or_right false b is = is

  kept : IsKeptOn n base (shared_by h) given commands (own n touches)
  kept = hosted_on_is_kept n base (shared_by h) given commands (own n touches) below s.hosted

  owes : OwesAtMost (ledger given)
  owes = owes_at_most (ledger given) (own n touches) none_issued commands kept.joined.same

-- ---- what the disk sends then

no_setup : (k : Ledger) (f : List ℕ) → k.moving ≡ None → k.outstanding ≡ [] → SetsUpRight k k.moving f → ⊥
no_setup k f none empty right =
    subst (λ (qs : List Command). StartsOne (find (λ (c : Command). c.tag == field Setup BufferId f) qs) f) empty
    (subst (λ (m : Option Moving). SetsUpRight k m f) none right)

-- a Register FIS with the signature of a disk
record IsSigned (r : Result Fis FisFault) : Type 0 where
  frame : List ℕ
  is : r ≡ Ok (view.RegD2H frame)
  register : IsRegister D2h 0 0x50 1 1 frame

first_signs : (k : Ledger) (f : List ℕ) → OwesAtMost k → AnswersFirst k.awaited f → IsRegister D2h 0 0x50 1 1 f
first_signs k f q right = elim q.awaited [
  | inl none ↦ absurd (subst (λ (xs : List Reply). AnswersFirst xs f) none right)
  | inr signs ↦ subst (λ (xs : List Reply). AnswersFirst xs f) signs right
]

no_page : (k : Ledger) (f : List ℕ) → OwesAtMost k → ShowsFirst k.awaited f → ⊥
no_page k f q right = elim q.awaited [
  | inl none ↦ subst (λ (xs : List Reply). ShowsFirst xs f) none right
  | inr signs ↦ subst (λ (xs : List Reply). ShowsFirst xs f) signs right
]

signs_next : (k : Ledger) (r : Result Fis FisFault) → OwesAtMost k → IsRight k r → IsOfDisk r → IsSigned r
signs_next k (Ok (view.RegD2H f)) q right mine = record { frame = f; is = refl; register = first_signs k f q right.replies }
signs_next k (Ok (view.SetBits f)) q right mine = absurd (subst (λ (tags : List ℕ). Names tags (field Bits SActive f)) q.unanswered (right.answers right.fine))
signs_next k (Ok (view.DmaActivate f)) q right mine = absurd (subst ActivatesRight q.moving right.moves)
signs_next k (Ok (view.DmaSetup f)) q right mine = absurd (no_setup k f q.moving q.outstanding right.moves)
signs_next k (Ok (view.PioSetup f)) q right mine = absurd (no_page k f q right.replies)
signs_next k (Ok (view.Payload f)) q right mine = absurd ((subst (PageAsked k) q.moving right.asked) q.pages)
signs_next k r q right mine = absurd mine

is_signature : (f : List ℕ) → IsRegister D2h 0 0x50 1 1 f → is_ata_signature f ≡ true
is_signature f r = rw (r.error_is, r.status_is, r.count, r.lba) refl

-- ---- the port hears it

hears_by : (a b c d : Bool) → a ≡ true → b ≡ false → c ≡ false → (not a || b || (c && not d)) ≡ false
hears_by true false false d x y z = refl
hears_by false b c d x y z = absurd (false≢true x)
hears_by true true c d x y z = absurd (true≢false y)
hears_by true false true d x y z = absurd (true≢false z)

module _ (n : ℕ) (below : n < 15) (plan : DiskPlan) (sectors : ℕ) (h : Host) (disk : List Happening) (down up : List (List ℕ)) (bytes : List ℕ) (floors : ℕ → ℕ)
    (touches : Touches)
    (runs : IsRunning plan sectors disk touches h) (t : IsTogether n h disk down (bytes ∷ up) floors touches) (new : IsNew n h.driver.plan) where
  -- it is not in software reset, and nothing of before comes
  unreset : (t.stale ≡ []) × ((view_of n h.port).state.resetting ≡ false)
  unreset = by_time t.on_time
    where
      by_time : IsOnTime n h t.base t.given t.stale → (t.stale ≡ []) × ((view_of n h.port).state.resetting ≡ false)
      by_time (Steady none off away) = (none, off)
      by_time (Resetting quiet same owed at) = absurd (unworked n below t.base h t.given t.commands touches t.served new at.0 at.1.0 at.1.1.0)

  next_is : t.later ≡ bytes ∷ up
  next_is = sym (ap (λ (xs : List (List ℕ)). xs ++ t.later) unreset.0) ∙ sym t.up_is

  watched : IsWatched t.base disk t.given down [] (bytes ∷ up)
  watched =
      subst (IsWatched t.base disk t.given down []) next_is
      (subst (λ (xs : List (List ℕ)). IsWatched t.base disk t.given down xs t.later) unreset.0 t.watched)

  careful : IsCarefulSince t.base t.given
  careful = (kept n below t.base h t.given t.commands touches t.served new).careful

  well : IsWatchedWell plan sectors t.base disk t.given down (bytes ∷ up)
  well = record { size = runs.size; run = runs.run; signing = t.begun.signing; careful = careful; watched = watched }

  module _ (framed : IsFrame bytes) (from : port_of (marked bytes n) ≡ n) (report : TakeReport) (after : Host)
      (does : Does h (Took (marked bytes n) report) after) where
    abbrev frame : List ℕ
    frame = marked bytes n

    hears : ignores (port_of (marked bytes n)) h.port (marked bytes n) ≡ false
    hears =
        ap (λ (m : ℕ). ignores m h.port (marked bytes n)) from
        ∙ ignores_as n h.port (marked bytes n) (runs.on.sound.registers.switches (omega (arith, t.opened)))
        ∙ hears_by (is_running h.port) (is_some (view_of n h.port).fault) (view_of n h.port).state.resetting (signs (seen (marked bytes n)))
        (and_from h.port.registers.started (is_none h.port.errors.port) (runs.starts t.opened) (ap is_none runs.on.going.faultless))
        (ap is_some t.well) unreset.1

    fault_is : (view_of n after.port).fault ≡ report.fault
    unfolding heard_report
    fault_is =
        let told : Hears (port_of frame) h.port h.memory frame report after.port after.memory = does.heard hears in
        subst (λ (m : ℕ). (view_of m after.port).fault ≡ report.fault) from
        (ap (λ (v : DeviceView). v.fault) told.own ∙ sym (ap (λ (r : TakeReport). r.fault) told.reports))

    takes : event.TakesFrame (shared_by h) (marked bytes n) report (shared_by after)
    takes = record { ignored = does.ignored; heard = does.heard }

    heard_it : report.ignored ≡ false
    unfolding heard_report
    heard_it = ap (λ (r : TakeReport). r.ignored) (does.heard hears).reports

    signature_comes : IsRight (ledger t.given) (seen bytes) → HasSignature n after
    signature_comes right =
        let low : n < 16 = omega (arith, below) in
        let mine : IsOfDisk (seen bytes) = next_of_disk plan sectors t.base disk t.given down up bytes well right.fine in
        let s : IsSigned (seen frame) =
        signs_next (ledger t.given) (seen frame) (owes n below t.base h t.given t.commands touches t.served new)
        ((marks_tell_nothing (ledger t.given) bytes n framed low).right right) (disk_marked bytes n framed low mine) in
        register_posted n h frame s.frame report after does low runs.on.sound from hears s.is (is_signature s.frame s.register)

    pub takes_signature : (view_of n after.port).fault ≡ None → HasSignature n after
    takes_signature fine =
        elim (next_or_fails plan sectors t.base disk t.given down up bytes runs.size runs.run
        (watches_on.follows t.base disk t.given down [] (bytes ∷ up) watched) careful) [
          | inl fails ↦
              absurd (true≢false
              (sym (error_faults n (shared_by h) (shared_by after) bytes report (omega (arith, below)) framed takes heard_it fails) ∙ ap is_some
              (sym fault_is ∙ fine)))
          | inr next ↦ signature_comes next.right
        ]
