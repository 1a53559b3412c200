-- For `reports_are_honest_anew` and `reports_are_honest`. What comes from a disk, and what is done, from where both
-- ends began anew.
use Rattle.std.proofs.Common.{◌≡◌, ◌==◌, ℕ, ◌-◌, ◌<◌, Bool, true, false, List, [], ◌∷◌, ◌++◌, drop, length, refl, sym, ap, subst, ◌∙◌, Option, Some, None, Ok, Err, Result, arith}
use Rattle.std.specs.Prelude.{slice_get, if◌then◌else◌, is_some}
use Rattle.std.proofs.lemmas.Bool.{true≢false}
use Rattle.fis_view.specs.{Frames.{IsFrame, marked}, Table.{Bits, D2h, Pio, SActive, Setup, Status, field}, Seen.seen, declared.view.Fis.Fis}
use Rattle.fis_view.specs.declared.view.FisFault.{FisFault}
use Rattle.fis_view.specs.Table as table
use Rattle.fis_view.specs.declared.view.Fis.TheVariants as view
use Rattle.fis_view.proofs.Door.{is_marked}
use Rattle.port_errors.specs.declared.cause.DeviceCause.TheVariants as cause
use Rattle.slots.specs.{Commands.completed, Data.may_activate, Setup.{dma_context, out_setup, pio_fault, pio_issue, setup_fault}}
use Rattle.slots.specs.{Slots.{DeviceSlots, has_bit, is_pio, match_some, own_issue, sent_pio}, Work.is_queued, declared.answer.SetupError.SetupError}
use Rattle.slots.specs.declared.table.Context.{Context}
use Rattle.slots.specs.declared.answer.Answered.TheVariants as answer
use Rattle.hba_fbs.specs.declared.hearing.Happening as hearing
use Rattle.hba_fbs.specs.declared.hearing.Happening.TheVariants as happening
use Rattle.hba_fbs.specs.declared.{hearing.Heard.Heard, report.TakeReport.TakeReport, state.DeviceState.DeviceState, status.Block.Block}
use Rattle.hba_fbs.specs.Hearing.{block_of, faulty, heard_data, heard_fis, heard_out, heard_register, is_admitted, named, quietly, set_up, tag_of}
use Rattle.hba_fbs.specs.{Status.{is_busy, is_error, with_bits, with_file}, Taking.{admitted, heard, heard_now, ignores, port_of}, Tables.is_sound}
use Rattle.hba_fbs.specs.Views.{DeviceView, view_of}
use Rattle.disk_model.specs.{Anew.StayWritten, Ends.{EndsAgree, reports}, Histories.{Happening, Plugged}, Ledger.{Ledger, Written, ledger}}
use Rattle.disk_model.proofs.Door.{ends_agree_anew, later_tells_of_all, linked_since_new, writes_stay}
use Rattle.hba_laws.specs.Delivering.{completes_now, event_heard, event_of, event_taken}
use Rattle.hba_laws.specs.{History.{Event, History, Named, Transfer, completes, is_at, issued, waiting_in}, Hosts.{Host, TakesFrame}, Sound.IsHost}
use Rattle.hba_laws.specs.History as event
use Rattle.hba_laws.proofs.Door.{done_is_completed}
use Rattle.disk_simulation.specs.{Anew.{HonestStays, NextIsRightAnew, ReportsHonestlyAnew}, Honest.IsOnMedium, Joined.{IsJoined, ReportsHonestly}}
use Rattle.disk_simulation.specs.Same.{SlotCommand}
use Rattle.disk_simulation.proofs.{honest.HonestLemmas.{done_where, next_where}, joined.JoinLemmas.{NamesNoTag, quiet_data, quiet_register}}
use Rattle.disk_simulation.proofs.joined.{MarkedLemmas.{IsMarkedBits, bits_of_marked}, SizeLemmas.comes_short}
use Rattle.disk_simulation.proofs.{together.TogetherLemmas.{no_answer, no_end, not_pio}, events.DataLemmas.get_more, joined.HeardLemmas.error_is}

-- ## What comes

pub next_anew : NextIsRightAnew
next_anew plan sectors base disk given down up bytes size run linked careful = record {
  right =
      next_where sectors disk given down up bytes (ends_agree_anew plan sectors base disk given down [] (bytes ∷ up) size run linked careful);
  short = comes_short plan sectors base disk given down [] up bytes size run linked;
}

-- ## What names slots

-- it is heard as no event that names slots, or it is a Set Device Bits FIS that names these
record IsByBits (r : Result Fis FisFault) (mask : ℕ) : Type 0 where
  frame : List ℕ
  is : r ≡ Ok (view.SetBits frame)
  named_is : mask ≡ field Bits SActive frame
  fine : is_error (field Bits Status frame) ≡ false

abbrev NamesNone : Heard → List ℕ → Type 0
NamesNone h payload = (mask : ℕ) → event_heard h payload ≡ Some (Named mask) → ⊥

none_by : (h : hearing.Happening) (block : Option Block) (payload : List ℕ) (mask : ℕ) → NamesNoTag h → event_of h block payload ≡ Some (Named mask) → ⊥
none_by happening.Nothing block payload mask plain is = cc is
none_by (happening.Answered answer.Nobody) block payload mask plain is = cc is
none_by (happening.Answered other) block payload mask plain is = cc is
none_by (happening.PioSetUp count to_host) None payload mask plain is = cc is
none_by (happening.PioSetUp count to_host) (Some b) payload mask plain is = cc is
none_by (happening.Carried wrote finishes) block payload mask plain is = cc is
none_by other block payload mask plain is = absurd plain

none_named : (h : Heard) (payload : List ℕ) → NamesNoTag h.happening → NamesNone h payload
none_named h payload plain mask is = none_by h.happening h.state.block payload mask plain is

none_setup : (state : DeviceState) (c : Context) (payload : List ℕ) (o : Option SetupError)
    → NamesNone (set_up o state None (happening.SetUp c)) payload
none_setup state c payload None mask is = cc is
none_setup state c payload (Some e) mask is = cc is

none_out : (state : DeviceState) (block : Block) (payload : List ℕ) (r : Result Context SetupError) → NamesNone (heard_out state block r) payload
none_out state block payload (Ok c) mask is = cc is
none_out state block payload (Err e) mask is = cc is

none_pio : (state : DeviceState) (status error count : ℕ) (to_host : Bool) (block : Block) (payload : List ℕ) (e sent : Bool) (o : Option SetupError)
    (r : Result Context SetupError)
    → NamesNone (if e then faulty (with_file state status error) cause.TaskFile else (if sent then set_up o (with_file state status error) (Some block)
    (happening.PioSetUp count to_host) else heard_out (with_file state status error) block r)) payload
none_pio state status error count to_host block payload true sent o r mask is = cc is
none_pio state status error count to_host block payload false true None r mask is = cc is
none_pio state status error count to_host block payload false true (Some e) r mask is = cc is
none_pio state status error count to_host block payload false false o r mask is = none_out (with_file state status error) block payload r mask is

none_activate : (state : DeviceState) (payload : List ℕ) (b : Bool)
    → NamesNone (if b then quietly state happening.Activated else faulty state cause.Stray) payload
none_activate state payload true mask is = cc is
none_activate state payload false mask is = cc is

bits_name : (own : DeviceSlots) (state : DeviceState) (f payload : List ℕ) (mask : ℕ) (e : Bool)
    → event_heard (if e then faulty (with_bits state (field Bits Status f) (field Bits table.Error f)) cause.TaskFile
    else named (completed (field Bits SActive f) own) (with_bits state (field Bits Status f) (field Bits table.Error f)) (field Bits SActive f)) payload
    ≡ Some (Named mask) → (mask ≡ field Bits SActive f) × (e ≡ false)
bits_name own state f payload mask true is = cc is
bits_name own state f payload mask false is = let same : mask ≡ field Bits SActive f = cc is in (same, refl)

by_fis : (v : DeviceView) (sound : Bool) (payload : List ℕ) (mask : ℕ) (fis : Fis)
    → event_heard (heard_fis v.slots v.state sound fis) payload ≡ Some (Named mask) → IsByBits (Ok fis) mask
unfolding heard_fis
by_fis v sound payload mask (view.RegD2H f) is =
    absurd (none_named (heard_register v.slots v.state (field D2h Status f) (field D2h table.Error f)) payload
    (quiet_register v.slots v.state (field D2h Status f) (field D2h table.Error f) v.state.resetting (is_error (field D2h Status f))
    (is_busy (field D2h Status f))) mask is)
by_fis v sound payload mask (view.SetBits f) is =
    let names = bits_name v.slots v.state f payload mask (is_error (field Bits Status f)) is in
    record { frame = f; is = refl; named_is = names.0; fine = names.1 }
by_fis v sound payload mask (view.DmaActivate f) is = absurd (none_activate v.state payload (may_activate v.slots.context) mask is)
by_fis v sound payload mask (view.DmaSetup f) is =
    absurd (none_setup v.state (dma_context (tag_of f) (field Setup table.Offset f) (field Setup table.Count f) (field Setup table.D f == 1) (field Setup table.A f == 1)) payload
    (setup_fault (own_issue v.slots (tag_of f)) (field Setup table.Offset f) (field Setup table.Count f) (field Setup table.D f == 1)) mask is)
by_fis v sound payload mask (view.PioSetup f) is =
    absurd (none_pio v.state (field Pio Status f) (field Pio table.Error f) (field Pio table.Transfer f) (field Pio table.D f == 1) (block_of f) payload
    (is_error (field Pio Status f)) (is_some (sent_pio v.slots)) (pio_fault (pio_issue v.slots) (field Pio table.Transfer f) (field Pio table.D f == 1))
    (out_setup v.slots (field Pio table.Transfer f) (field Pio table.D f == 1)) mask is)
by_fis v sound payload mask (view.Payload f) is =
    absurd (none_named (heard_data v.slots v.state sound (length f - 4)) payload (quiet_data v.slots v.state sound (length f - 4) v.slots.context) mask is)
by_fis v sound payload mask other is = cc is

by_test : (dev : ℕ) (v : DeviceView) (sound : Bool) (payload : List ℕ) (mask : ℕ) (fis : Fis) (b : Bool)
    → event_heard (heard dev v sound (if b then Some fis else None)) payload ≡ Some (Named mask) → IsByBits (Ok fis) mask
by_test dev v sound payload mask fis true is = by_fis v sound payload mask fis is
by_test dev v sound payload mask fis false is = cc is

by_heard : (dev : ℕ) (v : DeviceView) (sound : Bool) (payload : List ℕ) (mask : ℕ) (r : Result Fis FisFault)
    → event_heard (heard dev v sound (admitted dev r)) payload ≡ Some (Named mask) → IsByBits r mask
by_heard dev v sound payload mask (Err e) is = cc is
by_heard dev v sound payload mask (Ok fis) is = by_test dev v sound payload mask fis (is_admitted dev fis) is

by_taken : (host : Host) (frame : List ℕ) (mask : ℕ) (b : Bool) → ignores (port_of frame) host.port frame ≡ b
    → event_taken host frame ≡ Some (Named mask) → IsByBits (seen frame) mask
by_taken host frame mask true ignored is =
    let h : Heard = heard_now host.port host.memory (port_of frame) (admitted (port_of frame) (seen frame)) in
    let none : None ≡ Some (Named mask) = sym (ap (λ (b : Bool). if b then None else event_heard h (drop 4 frame)) ignored) ∙ is in
    cc none
by_taken host frame mask false ignored is =
    let v : DeviceView = view_of (port_of frame) host.port in
    let h : Heard = heard_now host.port host.memory (port_of frame) (admitted (port_of frame) (seen frame)) in
    by_heard (port_of frame) v (is_sound host.memory host.port.commands v.slots) (drop 4 frame) mask (seen frame)
    (sym (ap (λ (b : Bool). if b then None else event_heard h (drop 4 frame)) ignored) ∙ is)

-- ## What completes a queued command

record NamesOne (o : Option Event) (s : ℕ) (past : History) (t : Transfer) : Type 0 where
  mask : ℕ
  is : o ≡ Some (Named mask)
  done : completes s (Named mask) past t.work ≡ true

by_event : (o : Option Event) (s : ℕ) (past : History) (t : Transfer) → is_queued t.work.kind ≡ true
    → match_some o false (λ e. completes s e past t.work) ≡ true → NamesOne o s past t
by_event None s past t queued done = cc done
by_event (Some (Named mask)) s past t queued done = record { mask = mask; is = refl; done = done }
by_event (Some event.Answered) s past t queued done =
    absurd (no_answer (is_at s (waiting_in past)) (is_queued t.work.kind) _ queued done)
by_event (Some (event.Carried bytes)) s past t queued done = absurd (no_end _ (is_pio t.work.kind) _ _ (not_pio t.work.kind queued) done)
by_event other s past t queued done = absurd (true≢false (sym done))

-- the FIS that a report of a queued command is of, as the disk sent it
pub record IsOfBits (bytes : List ℕ) (s : ℕ) (past : History) (t : Transfer) : Type 0 where
  pub is : seen bytes ≡ Ok (view.SetBits bytes)
  pub done : completes s (Named (field Bits SActive bytes)) past t.work ≡ true
  pub fine : reports (seen bytes) ≡ false

pub of_bits : (n : ℕ) (host new : Host) (bytes : List ℕ) (report : TakeReport) (commands : ℕ → SlotCommand) (past : History) (k : Ledger) → IsHost host → n < 15
    → IsFrame bytes → IsFrame (marked bytes n) → port_of (marked bytes n) ≡ n → TakesFrame host (marked bytes n) report new
    → IsJoined n commands host past k → (s : ℕ) (t : Transfer) → s < 32 → issued s past ≡ Some t → is_queued t.work.kind ≡ true
    → has_bit report.done s ≡ true → IsOfBits bytes s past t
of_bits n host new bytes report commands past k sound below plain framed from_n takes joined s t lt here queued set =
    let frame : List ℕ = marked bytes n in
    let small : n < 16 = omega (arith, below) in
    let its : IsJoined (port_of (marked bytes n)) commands host past k = subst (λ (m : ℕ). IsJoined m commands host past k) (sym from_n) joined in
    let reported =
    done_is_completed host host new [] refl (record { hosts = sound; frames = tt }) (marked bytes n) report past framed its.history takes in
    let now : completes_now s host (marked bytes n) past ≡ true = sym (reported.done s lt) ∙ set in
    let at : match_some (event_taken host (marked bytes n)) false (λ e. completes s e past t.work) ≡ true =
    sym (ap (λ (o : Option Transfer). match_some o false
    (λ u. match_some (event_taken host (marked bytes n)) false (λ e. completes s e past u.work))) here) ∙ now in
    let one : NamesOne (event_taken host (marked bytes n)) s past t = by_event (event_taken host (marked bytes n)) s past t queued at in
    let b : IsByBits (seen (marked bytes n)) one.mask =
    by_taken host (marked bytes n) one.mask (ignores (port_of (marked bytes n)) host.port (marked bytes n)) refl one.is in
    let bits : IsMarkedBits bytes (marked bytes n) b.frame = bits_of_marked n bytes b.frame plain small b.is in
    let sactive : one.mask ≡ field Bits SActive bytes =
    b.named_is ∙ ap (field Bits SActive) bits.same ∙ (is_marked bytes n plain small).fields Bits SActive (λ e. cc e) in
    let status : field Bits Status b.frame ≡ field Bits Status bytes =
    ap (field Bits Status) bits.same ∙ (is_marked bytes n plain small).fields Bits Status (λ e. cc e) in
    record {
      is = bits.is;
      done = subst (λ (mask : ℕ). completes s (Named mask) past t.work ≡ true) sactive one.done;
      fine = ap reports bits.is ∙ sym (error_is (field Bits Status bytes)) ∙ subst (λ (x : ℕ). is_error x ≡ false) status b.fine;
    }

-- a FIS of which that is reported has no error
pub fine_done : (n : ℕ) (host new : Host) (bytes : List ℕ) (report : TakeReport) (commands : ℕ → SlotCommand) (past : History) (k : Ledger) → IsHost host
    → n < 15 → IsFrame bytes → IsFrame (marked bytes n) → port_of (marked bytes n) ≡ n → TakesFrame host (marked bytes n) report new
    → IsJoined n commands host past k → (s : ℕ) (t : Transfer) → s < 32 → issued s past ≡ Some t → is_queued t.work.kind ≡ true
    → has_bit report.done s ≡ true → reports (seen bytes) ≡ false
fine_done n host new bytes report commands past k sound below plain framed from_n takes joined s t lt here queued set =
    (of_bits n host new bytes report commands past k sound below plain framed from_n takes joined s t lt here queued set).fine

pub reports_anew : ReportsHonestlyAnew
reports_anew plan sectors base disk given down up bytes size run linked careful n host new report commands past sound below plain framed from_n takes joined s t lt here queued set =
    let ends : EndsAgree sectors disk given down (bytes ∷ up) =
    ends_agree_anew plan sectors base disk given down [] (bytes ∷ up) size run linked careful in
    let bits : IsOfBits bytes s past t =
    of_bits n host new bytes report commands past (ledger given) sound below plain framed from_n takes joined s t lt here queued set in
    done_where sectors disk given down up bytes bytes ends (next_where sectors disk given down up bytes ends) bits.is commands past joined.same s t here queued bits.done

-- a disk that is new began with its plugging
pub reports_honestly : ReportsHonestly
reports_honestly plan sectors disk given down up bytes size run linked careful n host new report commands past sound below plain framed from_n well =
    reports_anew plan sectors (Plugged ∷ []) disk given down up bytes size run (linked_since_new disk given down (bytes ∷ up) linked)
    (later_tells_of_all [] disk given down (bytes ∷ up) linked careful).careful n host new report commands past sound below plain framed from_n well.takes

-- ## What was done stays done

stays_on : (c : SlotCommand) (bytes : ℕ → Option ℕ) (len : ℕ) (disk more : List Happening) → IsOnMedium c bytes len (ledger disk)
    → IsOnMedium c bytes len (ledger (disk ++ more))
stays_on c bytes len disk more m =
    let w : StayWritten disk more = writes_stay disk more in
    let k : Ledger = ledger disk in
    record {
      at = m.at;
      written = m.written;
      since = m.since;
      entered = ap (λ (ws : List Written). slice_get ws m.at) w.same ∙ get_more k.writes w.later m.at m.written m.entered;
      tag = m.tag;
      place = m.place;
      long = m.long;
      bytes = m.bytes;
    }

pub honest_stays : HonestStays
honest_stays sectors len c bytes disk more k honest =
    record { reads = honest.reads; writes = λ way. stays_on c bytes len disk more (honest.writes way) }
