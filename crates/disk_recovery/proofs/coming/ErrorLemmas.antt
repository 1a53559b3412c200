-- For `ends_go_on`. An error that a disk reports next was asked for, and in a software reset its signature comes next.
use Rattle.std.proofs.Common.{arith, ◌≡◌, ◌≢◌, ◌==◌, ℕ, ◌<◌, Bool, true, false, List, [], ◌∷◌, ◌++◌, append_assoc, drop, refl, sym, ap, subst, ◌∙◌}
use Rattle.std.proofs.{Common.{inl, inr, Option, None, Ok, Result}, lemmas.{Bool.{cases_Bool, true≢false}, Nat.Bits.bit_at-zero}}
use Rattle.std.specs.Prelude.{◌&&◌, ◌||◌, is_none, is_some, not}
use Rattle.fis_view.specs.{Frames.{IsFrame, marked}, Table.{Bits, D2h, Error, field}, Seen.seen, declared.view.{Fis.Fis, FisFault.FisFault}}
use Rattle.fis_view.specs.declared.view.Fis.TheVariants as view
use Rattle.port_errors.specs.declared.cause.{DeviceCause.DeviceCause, Stop.Stop}
use Rattle.slots.specs.Slots.{has_bit}
use Rattle.hba_fbs.specs.{Posting.{is_signature, signs}, Taking.{heard_report, ignores, is_ignored, port_of}, Views.{DeviceView, view_of}}
use Rattle.hba_fbs.specs.declared.report.TakeReport.{TakeReport}
use Rattle.disk_model.specs.declared.{plan.{DiskPlan.DiskPlan, Order.{Order, TheVariants.{Newest, Oldest}}}, request.Command.Command}
use Rattle.disk_model.specs.{declared.request.Request.Request, Anew.{IsCarefulSince, IsClear, IsLinkedOn, OwesOnly}, Disks.picked, Ends.AreRight}
use Rattle.disk_model.specs.{Ends.{Fits, FitsData, FitsRequest, IsRight, reports, with_down, with_up}, Histories.{Happening, Received, Sent}}
use Rattle.disk_model.specs.{Laws.{AnswersFirst, ErrsRight, FailsNext, IsRegister}, Ledger.{IsSize, Ledger, Moving, Reply, Signs, ledger, listens}}
use Rattle.disk_model.specs.{Ledger.listens_down, Requests.request_of, Runs.IsDiskRun, Between.{AreApart, AreFit, Ties, alone}}
use Rattle.disk_model.specs.declared.request.Request.TheVariants as asked
use Rattle.disk_model.specs.Anew as anew
use Rattle.disk_model.proofs.Door.{asks_fits, errs_right, never_empty, run_before, sent_right, tie_comes, tie_gives, tie_sends, tie_takes}
use Rattle.hba_laws.specs.Client.{Touches, own}
use Rattle.disk_simulation.proofs.Door.{careful_before, hosted_on_is_kept, marks_ask_nothing, next_anew, next_of_disk, next_or_fails, run_to}
use Rattle.disk_simulation.proofs.Door.{same_first, since_of, watches_on}
use Rattle.disk_simulation.specs.{Anew.{IsKeptOn, IsNextRight}, Files.IsOfDisk, Line.{IsAskedAlike, IsWatchedWell, ToSign}, Watched.{Erred, Fine}}
use Rattle.disk_simulation.specs.{Watched.{IsWatched, IsWatchedTo, WatchesOn}, Same.SlotCommand}
use Rattle.hba_driver.specs.{Events.shared_by, HostTurns.{Does, Host, Took}, Steady.detects, Tended.{IsAtStage, IsReleasing}}
use Rattle.hba_driver.proofs.Door.{ignores_as}
use Rattle.disk_recovery.specs.{Together.IsServedOn, Unasked.{IsUnasked, OwesSignature}, Ends.{IsOnTime, IsRunning, IsTogether, Resetting, Steady}}
use Rattle.disk_recovery.proofs.unasked.UnaskedLemmas.{IsItsSignature, signs_only}

-- ---- what is told at both ends

-- as tie_begins_anew of disk_model/proofs/AnewLemmas.antt
tie_begins_anew : (base : List Happening) → IsClear (ledger base) → Ties base base [] []
unfolding with_up with_down AreRight
tie_begins_anew base clear = record { same = refl; right = tt; fit = tt; apart = subst (AreApart (ledger base)) (sym clear.unanswered) tt }

module _ (plan : DiskPlan) (sectors : ℕ) (size : IsSize plan sectors) (base : List Happening) where
  -- as ties_anew of disk_model/proofs/AnewLemmas.antt
  pub ties_anew : (disk host : List Happening) (down stale up : List (List ℕ)) → IsLinkedOn base disk host down stale up → IsDiskRun plan sectors disk
      → IsCarefulSince base host → Ties disk host down up
  ties_anew disk host down stale up (anew.begins s clear) run careful = tie_begins_anew base clear
  ties_anew disk host down stale up (anew.gives d h below s above bytes linked) run careful =
      let p = since_of base d h below s above linked in
      let last = careful_before base h p.0 (Received bytes) p.1 careful in
      tie_gives d h below above bytes (ties_anew d h below s above linked run last.0) last.1
  ties_anew disk host down stale up (anew.comes d h before after s above bytes linked) run careful =
      tie_comes d h before after above bytes
      (ties_anew d h (before ++ bytes ∷ after) s above linked (run_before plan sectors size d (Received bytes) run) careful)
  ties_anew disk host down stale up (anew.sends d h below s above bytes fine linked) run careful =
      tie_sends d h below above bytes (ties_anew d h below s above linked (run_before plan sectors size d (Sent bytes) run) careful)
      (sent_right plan sectors size d bytes run fine)
  ties_anew disk host down stale up (anew.drops d h below s above bytes linked) run careful = ties_anew d h below (bytes ∷ s) above linked run careful
  ties_anew disk host down stale up (anew.takes d h below above bytes linked) run careful =
      let p = since_of base d h below [] (bytes ∷ above) linked in
      tie_takes d h below above bytes
      (ties_anew d h below [] (bytes ∷ above) linked run (careful_before base h p.0 (Sent bytes) p.1 careful).0)

-- ---- what is outstanding while no data moves

-- no data moves, and some command is outstanding
abbrev pub IsAsked : Ledger → Type 0
IsAsked l = (l.moving ≡ None) × (l.outstanding ≢ [])

asked_alone : (l : Ledger) (r : Request) → FitsRequest l r → IsAsked l → IsAsked (alone l r)
asked_alone l (asked.Reset on) fits is = absurd fits
asked_alone l (asked.Queue c) fits is = (is.0, λ none. never_empty l.outstanding c none)
asked_alone l other fits is = absurd (is.1 fits.outstanding)

asked_down : (l : Ledger) (fis : Result Fis FisFault) → Fits l fis → IsAsked l → IsAsked (listens_down l fis)
asked_down l (Ok (view.RegH2D f)) fits is =
    subst IsAsked (sym (asks_fits l (request_of f) fits.0 fits.1)) (asked_alone l (request_of f) fits.1 is)
asked_down l (Ok (view.Payload f)) fits is = absurd (subst (λ (v : Option Moving). FitsData v (drop 4 f)) is.0 fits)
asked_down l other fits is = absurd fits

pub asked_with : (l : Ledger) (down : List (List ℕ)) → AreFit l down → IsAsked l → IsAsked (with_down l down)
unfolding with_down
asked_with l [] fit is = is
asked_with l (bytes ∷ down) fit is = asked_with (listens l (Received bytes)) down fit.1 (asked_down l (seen bytes) fit.0 is)

-- ---- an error was asked for

none_picked : (order : Order) → picked order [] ≡ None
none_picked Oldest = refl
none_picked Newest = refl

never_fails : (plan : DiskPlan) (sectors error : ℕ) (queued : List Command) → FailsNext plan sectors (picked plan.order queued) error → queued ≢ []
never_fails plan sectors error queued fails none =
    let picks : picked plan.order queued ≡ None = ap (picked plan.order) none ∙ none_picked plan.order in
    subst (λ (o : Option Command). FailsNext plan sectors o error) picks fails

pub error_asked : (plan : DiskPlan) (sectors : ℕ) (l : Ledger) (r : Result Fis FisFault) → ErrsRight plan sectors l r → reports r ≡ true → IsAsked l
error_asked plan sectors l (Ok (view.SetBits f)) errs is =
    let parts = errs is in
    (parts.0, never_fails plan sectors (field Bits Error f) l.outstanding parts.1)
error_asked plan sectors l other errs is = cc is

module _ (plan : DiskPlan) (sectors : ℕ) (base disk given : List Happening) (down up : List (List ℕ)) (bytes : List ℕ) (size : IsSize plan sectors)
    (run : IsDiskRun plan sectors disk) (careful : IsCarefulSince base given) (fails : reports (seen bytes) ≡ true) where
  linked_fine : (followed : List Happening) (below above : List (List ℕ)) → IsDiskRun plan sectors followed
      → IsLinkedOn base followed given below [] (bytes ∷ above) → ⊥
  linked_fine followed below above goes linked =
      let next : IsNextRight given bytes = next_anew plan sectors base followed given below above bytes size goes linked careful in
      true≢false (sym fails ∙ next.right.fine)

  -- the disk reported it, with these on their way to it
  first_error : (followed : List Happening) (error : List ℕ) (below : List (List ℕ)) → IsDiskRun plan sectors (followed ++ Sent error ∷ [])
      → reports (seen error) ≡ true → IsLinkedOn base followed given below [] [] → IsAsked (ledger given)
  unfolding with_up
  first_error followed error below goes bad linked =
      let t : Ties followed given below [] =
      ties_anew plan sectors size base followed given below [] [] linked (run_before plan sectors size followed (Sent error) goes) careful in
      let was : IsAsked (ledger followed) =
      error_asked plan sectors (ledger followed) (seen error) (errs_right plan sectors followed error size goes) bad in
      subst IsAsked (sym t.same) (asked_with (ledger followed) below t.fit was)

  erred_asked : (followed later : List Happening) (error : List ℕ) (below before : List (List ℕ)) → disk ≡ followed ++ Sent error ∷ later
      → bytes ∷ up ≡ before ++ error ∷ [] → reports (seen error) ≡ true → IsLinkedOn base followed given below [] before
      → IsAsked (ledger given)
  erred_asked followed later error below [] disk_is up_is bad linked =
      first_error followed error below
      (run_to plan sectors disk (followed ++ Sent error ∷ []) later (disk_is ∙ sym (append_assoc followed (Sent error ∷ []) later)) run) bad linked
  erred_asked followed later error below (b ∷ before) disk_is up_is bad linked =
      let first = same_first bytes b up (before ++ error ∷ []) up_is in
      absurd (linked_fine followed below before (run_to plan sectors disk followed (Sent error ∷ later) disk_is run)
      (subst (λ (x : List ℕ). IsLinkedOn base followed given below [] (x ∷ before)) first.0 linked))

  asked_to : IsWatchedTo base disk given down [] (bytes ∷ up) → IsAsked (ledger given)
  asked_to (Fine linked) = absurd (linked_fine disk down up run linked)
  asked_to (Erred followed later error below before disk_is up_is bad linked erred) =
      erred_asked followed later error below before disk_is up_is bad linked

-- a disk reports an error only while a queued command is outstanding, by what the host gave and heard
pub error_was_asked : (plan : DiskPlan) (sectors : ℕ) (base disk given : List Happening) (down up : List (List ℕ)) (bytes : List ℕ)
    → IsSize plan sectors → IsDiskRun plan sectors disk → IsWatched base disk given down [] (bytes ∷ up) → IsCarefulSince base given
    → reports (seen bytes) ≡ true → (ledger given).outstanding ≢ []
error_was_asked plan sectors base disk given down up bytes size run w careful fails =
    (asked_to plan sectors base disk given down up bytes size run careful fails w.to_error).1

-- ---- a signature comes next

-- what the host gave and heard, where that is nothing since both began anew with the signature to come
given_owes : (base given : List Happening) → given ≡ base → OwesOnly (ledger base) (Signs ∷ []) [] → OwesOnly (ledger given) (Signs ∷ []) []
given_owes base given same owes = subst (λ (xs : List Happening). OwesOnly (ledger xs) (Signs ∷ []) []) (sym same) owes

is_its : (f : List ℕ) → IsRegister D2h 0 0x50 1 1 f → is_signature f ≡ true
is_its f r = rw (r.error_is, r.status_is, r.count, r.lba) refl

register_signs : (k : Ledger) (fis : Result Fis FisFault) → IsRight k fis → IsItsSignature k fis → signs fis ≡ true
register_signs k fis right s =
    let replies : IsRight k (Ok (view.RegD2H s.frame)) = subst (IsRight k) s.is right in
    let register : AnswersFirst (Signs ∷ []) s.frame = subst (λ (xs : List Reply). AnswersFirst xs s.frame) s.owed replies.replies in
    ap signs s.is ∙ is_its s.frame register

-- what comes next in a software reset is the signature
pub next_signs : (plan : DiskPlan) (sectors : ℕ) (base disk given : List Happening) (down up : List (List ℕ)) (bytes : List ℕ)
    → IsSize plan sectors → IsDiskRun plan sectors disk → IsWatched base disk given down [] (bytes ∷ up) → IsCarefulSince base given
    → given ≡ base → OwesOnly (ledger base) (Signs ∷ []) [] → IsRight (ledger given) (seen bytes) × (signs (seen bytes) ≡ true)
next_signs plan sectors base disk given down up bytes size run w careful same owes =
    let laws : WatchesOn = watches_on in
    let now : OwesOnly (ledger given) (Signs ∷ []) [] = given_owes base given same owes in
    let next : IsNextRight given bytes = elim (next_or_fails plan sectors base disk given down up bytes size run
    (laws.follows base disk given down [] (bytes ∷ up) w) careful) [
      | inl fails ↦ absurd (error_was_asked plan sectors base disk given down up bytes size run w careful fails now.clear.outstanding)
      | inr right ↦ right
    ] in
    let well : IsWatchedWell plan sectors base disk given down (bytes ∷ up) =
    record { size = size; run = run; signing = ToSign owes; careful = careful; watched = w } in
    let mine : IsOfDisk (seen bytes) = next_of_disk plan sectors base disk given down up bytes well next.right.fine in
    let only : OwesSignature (ledger given) = record { clear = now.clear; awaited = inr now.awaited; pages = now.pages } in
    (next.right, register_signs (ledger given) (seen bytes) next.right (signs_only (ledger given) (seen bytes) only next.right mine))

-- ---- what the port ignores

ignored_by : (v : DeviceView) (fis : Result Fis FisFault) (starts : Bool) (stands : Option Stop) → starts ≡ true → stands ≡ None → v.fault ≡ None
    → is_ignored (starts && is_none stands) v fis ≡ (v.state.resetting && not (signs fis))
ignored_by v fis starts stands on none well =
    ap (λ (b : Bool). is_ignored (b && is_none stands) v fis) on
    ∙ ap (λ (c : Option Stop). is_ignored (true && is_none c) v fis) none
    ∙ ap (λ (c : Option DeviceCause). is_some c || (v.state.resetting && not (signs fis))) well

-- the port runs with FIS-based switching, and the device has no fault
pub record IsHearing (n : ℕ) (h : Host) : Type 0 where
  pub starts : h.port.registers.started ≡ true
  pub switches : h.port.registers.switching ≡ true
  pub goes : h.port.errors.port ≡ None
  pub well : (view_of n h.port).fault ≡ None

module _ (n : ℕ) (h : Host) (bytes : List ℕ) (below : n < 15) (framed : IsFrame bytes) (from : port_of (marked bytes n) ≡ n)
    (hearing : IsHearing n h) where
  ignores_is : ignores (port_of (marked bytes n)) h.port (marked bytes n) ≡ ((view_of n h.port).state.resetting && not (signs (seen bytes)))
  ignores_is =
      let alike : IsAskedAlike bytes (marked bytes n) = marks_ask_nothing bytes n framed (omega (arith, below)) in
      ap (λ (m : ℕ). ignores m h.port (marked bytes n)) from
      ∙ ignores_as n h.port (marked bytes n) hearing.switches
      ∙ ignored_by (view_of n h.port) (seen (marked bytes n)) h.port.registers.started h.port.errors.port hearing.starts hearing.goes hearing.well
      ∙ ap (λ (b : Bool). (view_of n h.port).state.resetting && not b) alike.signature

  -- it ignores nothing of a device that is in no software reset
  pub hears_unreset : (view_of n h.port).state.resetting ≡ false → ignores (port_of (marked bytes n)) h.port (marked bytes n) ≡ false
  hears_unreset out = ignores_is ∙ ap (λ (b : Bool). b && not (signs (seen bytes))) out

  -- and nothing but what is no signature
  pub hears_signature : signs (seen bytes) ≡ true → ignores (port_of (marked bytes n)) h.port (marked bytes n) ≡ false
  hears_signature signed =
      ignores_is
      ∙ ap (λ (b : Bool). (view_of n h.port).state.resetting && not b) signed
      ∙ none_of (view_of n h.port).state.resetting
    where
      none_of : (b : Bool) → (b && false) ≡ false
      none_of true = refl
      none_of false = refl

  -- in a software reset it ignores that
  pub throws_away : (view_of n h.port).state.resetting ≡ true → signs (seen bytes) ≡ false
      → ignores (port_of (marked bytes n)) h.port (marked bytes n) ≡ true
  throws_away on unsigned =
      ignores_is
      ∙ ap (λ (b : Bool). b && not (signs (seen bytes))) on
      ∙ ap (λ (b : Bool). true && not b) unsigned

-- what the port hears is reported as heard
pub report_heard : (old : Host) (frame : List ℕ) (report : TakeReport) (new : Host) → Does old (Took frame report) new
    → ignores (port_of frame) old.port frame ≡ false → report.ignored ≡ false
unfolding heard_report
report_heard old frame report new does is = ap (λ (r : TakeReport). r.ignored) (does.heard is).reports

-- and what it ignores as ignored, with nothing wrong and nothing done
pub record IsIgnoredReport (report : TakeReport) : Type 0 where
  pub ignored : report.ignored ≡ true
  pub fault : report.fault ≡ None
  pub stopped : report.stopped ≡ None
  pub done : (s : ℕ) → has_bit report.done s ≡ false

none_set : (s : ℕ) → has_bit 0 s ≡ false
none_set s = ap (λ (b : ℕ). b == 1) (bit_at-zero s)

pub report_ignored : (old : Host) (frame : List ℕ) (report : TakeReport) (new : Host) → Does old (Took frame report) new
    → ignores (port_of frame) old.port frame ≡ true → IsIgnoredReport report
report_ignored old frame report new does is =
    let told = (does.ignored is).reports in
    record {
      ignored = ap (λ (r : TakeReport). r.ignored) told;
      fault = ap (λ (r : TakeReport). r.fault) told;
      stopped = ap (λ (r : TakeReport). r.stopped) told;
      done = λ s. ap (λ (r : TakeReport). has_bit r.done s) told ∙ none_set s;
    }

-- ---- the driver does not look for a device that reports an error

-- the host of a served disk is careful since both began anew
pub careful_on : (n : ℕ) (base : List Happening) (h : Host) (given : List Happening) (commands : ℕ → SlotCommand) (touches : Touches) → n < 15
    → IsServedOn n base h given commands touches → IsCarefulSince base given
careful_on n base h given commands touches below served =
    let kept : IsKeptOn n base (shared_by h) given commands (own n touches) =
    hosted_on_is_kept n base (shared_by h) given commands (own n touches) below served.hosted in
    kept.careful

pub sought_is_unasked : (plan : DiskPlan) (sectors : ℕ) (base disk given : List Happening) (down up : List (List ℕ)) (bytes : List ℕ) (n : ℕ)
    (h : Host) (commands : ℕ → SlotCommand) (touches : Touches) → n < 15 → IsSize plan sectors → IsDiskRun plan sectors disk
    → IsWatched base disk given down [] (bytes ∷ up) → reports (seen bytes) ≡ true → IsServedOn n base h given commands touches
    → IsUnasked n h given → detects n h.driver.plan.asked h.driver.plan.order ≡ false
sought_is_unasked plan sectors base disk given down up bytes n h commands touches below size run w fails served unasked =
    elim (cases_Bool (detects n h.driver.plan.asked h.driver.plan.order)) [
      | inl on ↦
          let owes : OwesSignature (ledger given) = unasked (served.tended.plan.order on) in
          let careful : IsCarefulSince base given = careful_on n base h given commands touches below served in
          absurd (error_was_asked plan sectors base disk given down up bytes size run w careful fails owes.clear.outstanding)
      | inr off ↦ off
    ]

-- ---- while both are together

pub together_hears : (n : ℕ) (plan : DiskPlan) (sectors : ℕ) (disk : List Happening) (down up : List (List ℕ)) (floors : ℕ → ℕ) (touches : Touches) (h : Host)
    → IsRunning plan sectors disk touches h → IsTogether n h disk down up floors touches → IsHearing n h
together_hears n plan sectors disk down up floors touches h runs t =
    record {
      starts = runs.starts t.opened;
      switches = t.served.sound.registers.switches (omega (arith, t.opened));
      goes = runs.on.going.faultless;
      well = t.well;
    }

-- until its signature comes, the device is in its software reset
pub is_resetting : (n : ℕ) (base : List Happening) (h : Host) (given : List Happening) (commands : ℕ → SlotCommand) (touches : Touches)
    → IsServedOn n base h given commands touches → given ≡ base → OwesOnly (ledger base) (Signs ∷ []) [] → IsAtStage n IsReleasing h.driver.plan
    → (view_of n h.port).state.resetting ≡ true
is_resetting n base h given commands touches served same owes at = elim (cases_Bool (view_of n h.port).state.resetting) [
  | inl on ↦ on
  | inr off ↦ absurd (served.ended at off (given_owes base given same owes).awaited)
]

module _ (n : ℕ) (h : Host) (base given : List Happening) (commands : ℕ → SlotCommand) (touches : Touches) (bytes : List ℕ) (below : n < 15)
    (framed : IsFrame bytes) (from : port_of (marked bytes n) ≡ n) (hearing : IsHearing n h)
    (served : IsServedOn n base h given commands touches) where
  -- the port ignores what the disk sent before both began anew
  pub stale_ignored : (stale : List (List ℕ)) → IsOnTime n h base given (bytes ∷ stale)
      → ignores (port_of (marked bytes n)) h.port (marked bytes n) ≡ true
  stale_ignored stale (Steady none out ends) = cc none
  stale_ignored stale (Resetting quiet same owes at) =
      throws_away n h bytes below framed from hearing (is_resetting n base h given commands touches served same owes at) quiet.0
