-- For `fises_are_heard_as_told`. What a FIS of a disk is to its device's history at a host port that reports nothing
-- wrong.
use Rattle.std.proofs.Common.{◌≡◌, ◌==◌, ◌%◌, ◌/◌, ◌&&◌, eqb, ℕ, ◌-◌, ◌<◌, Bool, true, false, List, [], ◌∷◌, drop, length, refl, sym, ap, subst, ◌∙◌}
use Rattle.std.proofs.{Common.{Option, Some, None, Ok, Err, Result, arith}, lemmas.Bool.{and_from, and_parts, eq-eqb, eqb-true, true≢false}}
use Rattle.std.proofs.lemmas.{Nat.Bits.bit_at-zero}
use Rattle.std.specs.{Prelude.{not, nat_lt, if◌then◌else◌, is_some}, Option.option_map}
use Rattle.fis_view.specs.{Table.{Bits, BufferId, D2h, Offset, Pio, SActive, Setup, Status, field}, Seen.seen, declared.view.Fis.Fis}
use Rattle.fis_view.specs.declared.view.FisFault.{FisFault}
use Rattle.fis_view.specs.Table as table
use Rattle.fis_view.specs.declared.view.Fis.TheVariants as view
use Rattle.port_errors.specs.declared.cause.DeviceCause.TheVariants as cause
use Rattle.slots.specs.{Commands.{answer_of, completed, is_short}, Data.{after_arrive, may_activate}, Setup.{dma_context, is_outstanding, out_setup}}
use Rattle.slots.specs.{Setup.{pio_fault, pio_issue, setup_fault, transfer_fault}, Slots.{DeviceSlots, Issue, has_bit, holds, is_queued_issue}}
use Rattle.slots.specs.{Slots.{is_short_issue, is_whole_issue, mask_of, match_some, own_issue, sent_pio}, Work.is_queued}
use Rattle.slots.specs.declared.{answer.{Answered.Answered, SetupError.SetupError}, table.Context.Context, work.Work.Work}
use Rattle.slots.specs.declared.answer.Answered.TheVariants as answer
use Rattle.slots.specs.declared.answer.SetupError.TheVariants as refused
use Rattle.slots.proofs.Door.{has_bit_mask}
use Rattle.hba_fbs.specs.declared.{hearing.{Fault.Fault, Happening.Happening, Heard.Heard}, report.{TakeReport.TakeReport, Wrote.Wrote}}
use Rattle.hba_fbs.specs.{declared.{state.DeviceState.DeviceState, status.Block.Block}, Hearing.{answered, block_of, bus_failed, faulty, heard_bytes}}
use Rattle.hba_fbs.specs.{Hearing.{heard_data_of, heard_fis, heard_out, is_admitted, named, overflowed, quietly, set_up, tag_of}, Status.after_reset}
use Rattle.hba_fbs.specs.{Status.{is_busy, is_error, with_bits, with_file}, Taking.{admitted, device_cause, heard, heard_now, heard_report, ignores}}
use Rattle.hba_fbs.specs.{Taking.{port_cause, port_of}, Tables.is_sound, Views.{DeviceView, view_of}}
use Rattle.hba_fbs.specs.declared.hearing.Fault.TheVariants as fault
use Rattle.hba_fbs.specs.declared.hearing.Happening.TheVariants as happening
use Rattle.disk_model.specs.{Ends.{IsFree, IsRight}, Laws.AnswersFirst, Ledger.{Ledger, Reply, ShowsPage}}
use Rattle.hba_laws.specs.{Agreement.{IsTold, IssueAgrees, work_of_issue, work_of_transfer}, Client.own, Delivering.{by_device, event_heard}}
use Rattle.hba_laws.specs.{History.{Event, History, Transfer, completes, filled, is_all_filled, is_at, issued, waiting_in}, Hosts.{Host, TakesFrame}}
use Rattle.hba_laws.specs.Between.{IsOwn}
use Rattle.hba_laws.specs.History as event
use Rattle.hba_laws.proofs.Door.{is_own, own_below, payload_is, whole_is}
use Rattle.disk_simulation.specs.{Together.{IsHeard, NoneQueued, Same, told}, Heard.{HeardAsTold, IsTakenWell}, Same.SlotCommand, Between.IsThere}
use Rattle.disk_simulation.proofs.{together.TogetherLemmas.set_up_now, joined.OutLemmas.{IsRefused, pio_up, refuses_up}}

-- ## Events as lists

abbrev pub list_of : Option Event → History
list_of None = []
list_of (Some e) = e ∷ []

pub own_list : (dev : ℕ) (o : Option Event) → own dev (by_device dev o) ≡ list_of o
own_list dev None = refl
own_list dev (Some e) = ap (λ (b : Bool). if b then e ∷ [] else []) (eq-eqb dev dev refl)

-- Status.ERR
pub error_is : (status : ℕ) → is_error status ≡ (status % 2 == 1)
error_is status =
    let same : status / 1 ≡ status = omega arith in
    ap (λ (x : ℕ). x % 2 == 1) same

-- what a FIS is heard as, where nothing is wrong with it
abbrev ToldAs : Heard → List ℕ → History → Type 0
ToldAs h payload events = h.fault ≡ None → list_of (event_heard h payload) ≡ events

-- ## Register Device to Host

told_answer : (a : Answered) (state : DeviceState) (payload : List ℕ) → ToldAs (answered a state) payload (event.Answered ∷ [])
told_answer (answer.Short slot) state payload fine = cc fine
told_answer other state payload fine = refl

told_register : (own : DeviceSlots) (state : DeviceState) (status error : ℕ) (payload : List ℕ) (resetting e busy : Bool) → resetting ≡ false
    → busy ≡ false
    → ToldAs (if resetting then quietly (after_reset state status error) happening.Nothing
    else (if e then faulty (with_file state status error) cause.TaskFile
    else (if busy then quietly (with_file state status error) happening.Nothing else answered (answer_of own)
    (with_file state status error)))) payload (event.Answered ∷ [])
told_register own state status error payload true e busy steady idle = absurd (true≢false steady)
told_register own state status error payload false true busy steady idle = λ fine. cc fine
told_register own state status error payload false false true steady idle = absurd (true≢false idle)
told_register own state status error payload false false false steady idle = told_answer (answer_of own) (with_file state status error) payload

-- no answer of a disk has BSY set
not_busy : (xs : List Reply) (f : List ℕ) → AnswersFirst xs f → is_busy (field D2h Status f) ≡ false
not_busy [] f answers = absurd answers
not_busy (ShowsPage ∷ xs) f answers = absurd answers
not_busy other f answers = ap is_busy answers.status_is

-- ## Set Device Bits

told_bits : (own : DeviceSlots) (state : DeviceState) (status error mask : ℕ) (payload : List ℕ) (e : Bool)
    → ToldAs (if e then faulty (with_bits state status error) cause.TaskFile else named (completed mask own)
    (with_bits state status error) mask) payload (event.Named mask ∷ [])
told_bits own state status error mask payload true = λ fine. cc fine
told_bits own state status error mask payload false = λ fine. refl

-- then no slot is named of which bytes are missing
none_short : (own : DeviceSlots) (state : DeviceState) (status error mask : ℕ) (e short : Bool) → eqb (completed mask own).short 0 ≡ short
    → (if e then faulty (with_bits state status error) cause.TaskFile else named (completed mask own)
    (with_bits state status error) mask).fault ≡ None → short ≡ true
none_short own state status error mask true short is fine = cc fine
none_short own state status error mask false true is fine = refl
none_short own state status error mask false false is fine =
    let some : (if eqb (completed mask own).short 0 then None else Some (fault.Device cause.Short)) ≡ Some (fault.Device cause.Short) =
    ap (λ (b : Bool). if b then None else Some (fault.Device cause.Short)) is in
    cc (sym fine ∙ some)

-- ## Setups

told_setup : (state : DeviceState) (c : Context) (payload : List ℕ) (o : Option SetupError)
    → ToldAs (set_up o state None (happening.SetUp c)) payload (event.SetUp c.slot c.next c.left c.to_host ∷ [])
told_setup state c payload None = λ fine. refl
told_setup state c payload (Some e) = λ fine. cc fine

accepted_setup : (state : DeviceState) (h : Happening) (block : Option Block) (o : Option SetupError) → (set_up o state block h).fault ≡ None
    → o ≡ None
accepted_setup state h block None fine = refl
accepted_setup state h block (Some e) fine = cc fine

-- the slot's command was answered where its setup is accepted
record IsAnswered (o : Option Issue) : Type 0 where
  issue : Issue
  there : o ≡ Some issue
  answered_yet : issue.answered ≡ true

answered_if : (i : Issue) (offset count : ℕ) (to_host b : Bool) → is_outstanding i ≡ b
    → (if b then transfer_fault i offset count to_host else Some refused.NotOutstanding) ≡ None → i.answered ≡ true
answered_if i offset count to_host true is none = (and_parts (is_queued_issue i) i.answered is).1
answered_if i offset count to_host false is none = cc none

setup_answered : (o : Option Issue) (offset count : ℕ) (to_host : Bool) → setup_fault o offset count to_host ≡ None → IsAnswered o
setup_answered None offset count to_host none = cc none
setup_answered (Some i) offset count to_host none =
    record { issue = i; there = refl; answered_yet = answered_if i offset count to_host (is_outstanding i) refl none }

told_pio : (state : DeviceState) (status error count : ℕ) (to_host : Bool) (block : Block) (payload : List ℕ) (e sent : Bool) (o : Option SetupError)
    (r : Result Context SetupError) → IsRefused r
    → ToldAs (if e then faulty (with_file state status error) cause.TaskFile else (if sent then set_up o (with_file state status error) (Some block)
    (happening.PioSetUp count to_host) else heard_out (with_file state status error) block r)) payload (event.PioSetUp count to_host block.ends ∷ [])
told_pio state status error count to_host block payload true sent o r refuses = λ fine. cc fine
told_pio state status error count to_host block payload false true None r refuses = λ fine. refl
told_pio state status error count to_host block payload false true (Some e) r refuses = λ fine. cc fine
told_pio state status error count to_host block payload false false o r refuses =
    subst (λ (x : Result Context SetupError). ToldAs (heard_out (with_file state status error) block x) payload (event.PioSetUp count to_host block.ends ∷ []))
    (sym refuses.is) (λ fine. cc fine)

told_activate : (state : DeviceState) (payload : List ℕ) (b : Bool)
    → ToldAs (if b then quietly state happening.Activated else faulty state cause.Stray) payload []
told_activate state payload true = λ fine. refl
told_activate state payload false = λ fine. cc fine

-- ## Data

told_bytes : (own : DeviceSlots) (state : DeviceState) (wrote : Wrote) (payload : List ℕ) (block : Option Block) (last : Bool)
    → ToldAs (heard_bytes own state wrote block last) payload (event.Carried payload ∷ [])
told_bytes own state wrote payload None last = λ fine. refl
told_bytes own state wrote payload (Some block) true = λ fine. refl
told_bytes own state wrote payload (Some block) false = λ fine. refl

told_data_of : (own after : DeviceSlots) (state : DeviceState) (wrote : Wrote) (payload : List ℕ) (to_host sound over last : Bool)
    → ToldAs (if not to_host then faulty state cause.Stray else
    (if not sound then bus_failed state else (if over then overflowed state else heard_bytes after state wrote state.block last))) payload
    (event.Carried payload ∷ [])
told_data_of own after state wrote payload false sound over last = λ fine. cc fine
told_data_of own after state wrote payload true false over last = λ fine. cc fine
told_data_of own after state wrote payload true true true last = λ fine. cc fine
told_data_of own after state wrote payload true true false last = told_bytes after state wrote payload state.block last

told_data : (own : DeviceSlots) (state : DeviceState) (sound : Bool) (count : ℕ) (payload : List ℕ) (o : Option Context)
    → ToldAs (match_some o (faulty state cause.Stray) (heard_data_of own state sound count)) payload (event.Carried payload ∷ [])
told_data own state sound count payload None = λ fine. cc fine
told_data own state sound count payload (Some c) =
    told_data_of own (after_arrive own count) state (record { slot = c.slot; offset = c.next; len = count }) payload c.to_host sound
    (nat_lt c.left count) (c.left == count)

-- ## By what belongs to the device

none_issue : (t : Transfer) → Some (work_of_transfer t) ≡ None → ⊥
none_issue t e = cc e

pub there_by : (own : DeviceSlots) (s : ℕ) (t : Transfer) (o : Option Issue) → own_issue own s ≡ o
    → Some (work_of_transfer t) ≡ option_map work_of_issue o → IsThere own s t
there_by own s t None is same = absurd (none_issue t same)
there_by own s t (Some i) is same = record { issue = i; there = is; work = let e : Some t.work ≡ Some i.work = same in cc e }

module _ (dev : ℕ) (v : DeviceView) (commands : ℕ → SlotCommand) (past : History) (k : Ledger) (is : IsOwn dev v.slots) (history : IsTold v past)
    (same : Same commands past k) where
  issue_there : (s : ℕ) (t : Transfer) → issued s past ≡ Some t → IsThere v.slots s t
  issue_there s t here = there_by v.slots s t (own_issue v.slots s) refl (sym (ap (option_map work_of_transfer) here) ∙ history.issued s)

  below : (s : ℕ) (o : Option Transfer) → issued s past ≡ o → (IsFree k s → ⊥) → s < 32
  below s None none busy = absurd (busy (same.free s (subst (λ (x : Option Transfer). NoneQueued x) (sym none) tt)))
  below s (Some t) here busy = let at : IsThere v.slots s t = issue_there s t here in own_below dev s v.slots at.issue is at.there

  pub setup_tag : (f : List ℕ) → IsRight k (Ok (view.DmaSetup f)) → tag_of f ≡ field Setup BufferId f
  setup_tag f right =
      let busy : IsFree k (field Setup BufferId f) → ⊥ =
      λ free. true≢false (sym (eq-eqb (field Setup BufferId f) (field Setup BufferId f) refl)
      ∙ (set_up_now k f right).beside (field Setup BufferId f) free) in
      let lt : field Setup BufferId f < 32 = below (field Setup BufferId f) (issued (field Setup BufferId f) past) refl busy in
      omega (arith, lt)

module _ (dev : ℕ) (v : DeviceView) (sound : Bool) (frame : List ℕ) (commands : ℕ
    → SlotCommand) (past : History) (k : Ledger) (is : IsOwn dev v.slots) (history : IsTold v past) (same : Same commands past k)
    (steady : v.state.resetting ≡ false) where
  -- a queued command that is named is whole
  whole : (s : ℕ) (i : Issue) (mask : ℕ) (b : Bool) → own_issue v.slots s ≡ Some i → is_whole_issue i ≡ b → is_queued i.work.kind ≡ true
      → has_bit mask s ≡ true → (completed mask v.slots).short ≡ 0 → b ≡ true
  whole s i mask true here is_b queued named none = refl
  whole s i mask false here is_b queued named none =
      let lt : s < 32 = own_below dev s v.slots i is here in
      let short : holds is_short_issue (own_issue v.slots s) ≡ true =
      ap (holds is_short_issue) here ∙ and_from (is_queued_issue i) (not (is_whole_issue i)) queued (ap not is_b) in
      let test : is_short mask v.slots s ≡ true = and_from (has_bit mask s) (holds is_short_issue (own_issue v.slots s)) named short in
      let set : has_bit (mask_of (is_short mask v.slots)) s ≡ true = has_bit_mask (is_short mask v.slots) s lt ∙ test in
      let unset : has_bit (mask_of (is_short mask v.slots)) s ≡ false = ap (λ (m : ℕ). has_bit m s) none ∙ ap (λ (b : ℕ). b == 1) (bit_at-zero s) in
      absurd (true≢false (sym set ∙ unset))

  names_whole : (mask : ℕ) → (completed mask v.slots).short ≡ 0 → (s : ℕ) (t : Transfer) → issued s past ≡ Some t → is_queued t.work.kind ≡ true
      → has_bit mask s ≡ true → completes s (event.Named mask) past t.work ≡ true
  names_whole mask none s t here queued named =
      let at : IsThere v.slots s t = issue_there dev v commands past k is history same s t here in
      let kind : is_queued at.issue.work.kind ≡ true = ap (λ (w : Work). is_queued w.kind) (sym at.work) ∙ queued in
      let agrees : IssueAgrees s at.issue v.slots.context past = history.agrees.issues_agree s at.issue at.there in
      let all : is_whole_issue at.issue ≡ true = whole s at.issue mask (is_whole_issue at.issue) at.there refl kind named none in
      let fills : is_all_filled (filled s past) t.work.len ≡ true =
      ap (λ (w : Work). is_all_filled (filled s past) w.len) at.work ∙ sym (whole_is s at.issue v.slots.context past agrees) ∙ all in
      and_from (has_bit mask s) (is_queued t.work.kind && is_all_filled (filled s past) t.work.len) named
      (and_from (is_queued t.work.kind) (is_all_filled (filled s past) t.work.len) queued fills)

  -- the command of a setup that is accepted does not wait for its answer
  not_waiting : (s : ℕ) → IsAnswered (own_issue v.slots s) → is_at s (waiting_in past) ≡ false
  not_waiting s a =
      let agrees : IssueAgrees s a.issue v.slots.context past = history.agrees.issues_agree s a.issue a.there in
      agrees.waits_is ∙ ap (λ (b : Bool). a.issue.sent && not b) a.answered_yet ∙ and_false a.issue.sent
    where
      and_false : (b : Bool) → (b && false) ≡ false
      and_false true = refl
      and_false false = refl

  abbrev Tells : Result Fis FisFault → Heard → Type 0
  Tells r h = h.fault ≡ None → (list_of (event_heard h (drop 4 frame)) ≡ told r) × IsHeard past r

  tells_setup : (f : List ℕ) → IsRight k (Ok (view.DmaSetup f)) → Tells (Ok (view.DmaSetup f)) (heard_fis v.slots v.state sound (view.DmaSetup f))
  unfolding heard_fis
  tells_setup f right fine =
      let at : tag_of f ≡ field Setup BufferId f = setup_tag dev v commands past k is history same f right in
      let to_host = field Setup table.D f == 1 in
      let c : Context = dma_context (tag_of f) (field Setup Offset f) (field Setup table.Count f) (field Setup table.D f == 1) (field Setup table.A f == 1) in
      let o : Option SetupError =
      setup_fault (own_issue v.slots (tag_of f)) (field Setup Offset f) (field Setup table.Count f) (field Setup table.D f == 1) in
      let accepts : setup_fault (own_issue v.slots (tag_of f)) (field Setup Offset f) (field Setup table.Count f)
      (field Setup table.D f == 1) ≡ None = accepted_setup v.state (happening.SetUp c) None o fine in
      let a : IsAnswered (own_issue v.slots (tag_of f)) =
      setup_answered (own_issue v.slots (tag_of f)) (field Setup Offset f) (field Setup table.Count f) (field Setup table.D f == 1) accepts in (
        told_setup v.state c (drop 4 frame) o fine
            ∙ ap (λ (n : ℕ). event.SetUp n (field Setup Offset f) (field Setup table.Count f) (field Setup table.D f == 1) ∷ []) at,
        subst (λ (n : ℕ). is_at n (waiting_in past) ≡ false) at (not_waiting (tag_of f) a),
      )

  tells_bits : (f : List ℕ) → Tells (Ok (view.SetBits f)) (heard_fis v.slots v.state sound (view.SetBits f))
  unfolding heard_fis
  tells_bits f fine =
      let status = field Bits Status f in
      let error = field Bits table.Error f in
      let mask = field Bits SActive f in
      let short : eqb (completed (field Bits SActive f) v.slots).short 0 ≡ true =
      none_short v.slots v.state status error mask (is_error status) (eqb (completed (field Bits SActive f) v.slots).short 0) refl fine in (
        told_bits v.slots v.state status error mask (drop 4 frame) (is_error status) fine,
        names_whole mask
            (eqb-true (completed (field Bits SActive f) v.slots).short 0 short),
      )

  tells_fis : (fis : Fis) → seen frame ≡ Ok fis → IsRight k (Ok fis) → Tells (Ok fis) (heard_fis v.slots v.state sound fis)
  unfolding heard_fis
  tells_fis (view.RegD2H f) here right = λ fine. (
    told_register v.slots v.state (field D2h Status f) (field D2h table.Error f) (drop 4 frame) v.state.resetting (is_error (field D2h Status f))
        (is_busy (field D2h Status f)) steady (not_busy k.awaited f right.replies) fine,
    tt,
  )
  tells_fis (view.SetBits f) here right = tells_bits f
  tells_fis (view.DmaActivate f) here right = λ fine. (told_activate v.state (drop 4 frame) (may_activate v.slots.context) fine, tt)
  tells_fis (view.DmaSetup f) here right = tells_setup f right
  tells_fis (view.PioSetup f) here right = λ fine. (
    told_pio v.state (field Pio Status f) (field Pio table.Error f) (field Pio table.Transfer f) (field Pio table.D f == 1) (block_of f)
        (drop 4 frame) (is_error (field Pio Status f)) (is_some (sent_pio v.slots))
        (pio_fault (pio_issue v.slots) (field Pio table.Transfer f) (field Pio table.D f == 1))
        (out_setup v.slots (field Pio table.Transfer f) (field Pio table.D f == 1))
        (refuses_up v.slots (field Pio table.Transfer f) (field Pio table.D f == 1) (pio_up k.awaited f right.replies)) fine,
    tt,
  )
  tells_fis (view.Payload f) here right = λ fine. (
    told_data v.slots v.state sound (length f - 4) (drop 4 frame) v.slots.context fine
        ∙ ap (λ (g : List ℕ). event.Carried (drop 4 g) ∷ []) (sym (payload_is frame f here)),
    tt,
  )
  tells_fis other here right = λ fine. (refl, tt)

  tells_test : (fis : Fis) (b : Bool) → seen frame ≡ Ok fis → IsRight k (Ok fis) → Tells (Ok fis) (heard dev v sound (if b then Some fis else None))
  tells_test fis true here right = tells_fis fis here right
  tells_test fis false here right = λ fine. cc fine

  pub tells : (r : Result Fis FisFault) → seen frame ≡ r → IsRight k r → Tells r (heard dev v sound (admitted dev r))
  tells (Err e) here right = λ fine. cc fine
  tells (Ok fis) here right = tells_test fis (is_admitted dev fis) here right

-- ## At the port

no_fault : (o : Option Fault) → device_cause o ≡ None → port_cause o ≡ None → o ≡ None
no_fault None device port = refl
no_fault (Some (fault.Device c)) device port = cc device
no_fault (Some (fault.Port c)) device port = cc port

pub heard_if : (host new : Host) (frame : List ℕ) (report : TakeReport) (b : Bool) → ignores (port_of frame) host.port frame ≡ b
    → TakesFrame host frame report new → report.ignored ≡ false → b ≡ false
heard_if host new frame report false is takes heard = refl
heard_if host new frame report true is takes heard =
    let said = (takes.ignored is).reports in
    absurd (true≢false (sym (ap (λ (r : TakeReport). r.ignored) said) ∙ heard))

pub heard_fine : (host new : Host) (frame : List ℕ) (report : TakeReport) → ignores (port_of frame) host.port frame ≡ false
    → IsTakenWell host frame report new
    → (heard_now host.port host.memory (port_of frame) (admitted (port_of frame) (seen frame))).fault ≡ None
unfolding heard_report
heard_fine host new frame report heard_it well =
    let takes : TakesFrame host frame report new = well.takes in
    let reports = (takes.heard heard_it).reports in
    no_fault (heard_now host.port host.memory (port_of frame) (admitted (port_of frame) (seen frame))).fault
    (sym (ap (λ (r : TakeReport). r.fault) reports) ∙ well.no_fault) (sym (ap (λ (r : TakeReport). r.stopped) reports) ∙ well.no_stop)

pub heard_as_told : HeardAsTold
heard_as_told host new frame report commands past k sound below_it well history same right =
    let dev = port_of frame in
    let v : DeviceView = view_of (port_of frame) host.port in
    let h : Heard = heard_now host.port host.memory (port_of frame) (admitted (port_of frame) (seen frame)) in
    let heard_it : ignores (port_of frame) host.port frame ≡ false =
    heard_if host new frame report (ignores (port_of frame) host.port frame) refl well.takes well.heard in
    let both =
    tells (port_of frame) v (is_sound host.memory host.port.commands v.slots) frame commands past k
    (is_own (port_of frame) host.port.slots sound.slots) history same well.steady (seen frame) refl right
    (heard_fine host new frame report heard_it well) in
    record {
      events =
          ap (λ (b : Bool). own (port_of frame) (by_device (port_of frame) (if b then None else event_heard h (drop 4 frame)))) heard_it
          ∙ own_list (port_of frame) (event_heard h (drop 4 frame)) ∙ both.0;
      heard = both.1;
    }
