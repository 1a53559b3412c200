-- For `hosts_begin_anew`. The signature that ends a device's software reset.
use Rattle.std.proofs.Common.{◌≡◌, ◌==◌, ◌&&◌, ◌||◌, eqb, ℕ, ◌%◌, Bool, true, false, List, [], ◌∷◌, drop, refl, sym, ap, subst, ◌∙◌, None, Ok, Result}
use Rattle.std.proofs.lemmas.Bool.{and_parts, or_parts, true≢false}
use Rattle.std.specs.Prelude.{not, is_some, if◌then◌else◌}
use Rattle.fis_view.specs.{Table.{D2h, Status, Error, field}, Seen.seen, declared.view.{Fis.Fis, FisFault.FisFault}}
use Rattle.fis_view.specs.Table as table
use Rattle.fis_view.specs.declared.view.Fis.TheVariants as view
use Rattle.slots.specs.Slots.{own_issue}
use Rattle.hba_fbs.specs.declared.hearing.Happening.TheVariants as happening
use Rattle.hba_fbs.specs.{declared.{hearing.Heard.Heard, report.TakeReport.TakeReport}, Hearing.{heard_d2h, heard_fis, quietly, signing}}
use Rattle.hba_fbs.specs.{Posting.{is_signature, signs}, Status.{after_reset, is_quiet}, Tables.is_sound, Taking.{admitted, heard, heard_now}}
use Rattle.hba_fbs.specs.{Taking.{ignores, is_ignored, is_running, passes_over, port_of, view_after_hearing}, Views.{DeviceView, view_of}}
use Rattle.disk_model.specs.{Ends.IsRight, Laws.AnswersFirst, Ledger.{Accepts, Finishes, Ledger, Refuses, Reply, ShowsPage, Signs, answered}}
use Rattle.disk_model.specs.Ledger.{listens_up}
use Rattle.hba_laws.specs.{Agreement.IsTold, Client.own, Delivering.{by_device, event_heard, touched}, History.History, Hosts.{Host, TakesFrame}}
use Rattle.hba_laws.specs.Hosts.{Took}
use Rattle.disk_simulation.specs.{Anew.{IsSignedWell, SignatureIsNone}, Joined.IsJoined, Together.{AtMostAccepts, InTalk, Pages, Queues, Replies}}
use Rattle.disk_simulation.specs.{Together.{Same, Shows}, Same.SlotCommand, Between.{IsSigned, reset_by}}
use Rattle.disk_simulation.proofs.{events.AnswerLemmas.{IsBeside, free_beside, life_beside}, joined.HeardLemmas.{heard_if, list_of, own_list}}
use Rattle.disk_simulation.proofs.joined.JoinLemmas.{asked_same}

-- ## The frame

signed_by : (r : Result Fis FisFault) → signs r ≡ true → IsSigned r
signed_by (Ok (view.RegD2H f)) is = record { frame = f; is = refl; signature = is }
signed_by other is = cc is

not_test : (a b c d : Bool) → (a || b || (c && not d)) ≡ false → c ≡ true → d ≡ true
not_test false false true true unset on = refl
not_test false false true false unset on = cc unset
not_test false false false d unset on = cc on
not_test true b c d unset on = cc unset
not_test false true c d unset on = cc unset

pub not_ignored : (host new : Host) (frame : List ℕ) (report : TakeReport) → IsSignedWell host frame report new
    → ignores (port_of frame) host.port frame ≡ false
not_ignored host new frame report well =
    heard_if host new frame report (ignores (port_of frame) host.port frame) refl well.takes well.heard

pub signed : (host new : Host) (frame : List ℕ) (report : TakeReport) → IsSignedWell host frame report new → IsSigned (seen frame)
signed host new frame report well =
    let v : DeviceView = view_of (port_of frame) host.port in
    signed_by (seen frame)
    (not_test (not (is_running host.port)) (is_some v.fault) v.state.resetting (signs (seen frame))
    (or_parts (passes_over host.port.registers.switching (port_of frame) v (seen frame)) (is_ignored (is_running host.port) v (seen frame))
    (not_ignored host new frame report well)).1 well.resetting)

-- ## What the port makes of it

signed_heard : (dev : ℕ) (v : DeviceView) (sound : Bool) (f : List ℕ) (resetting : Bool) → v.state.resetting ≡ resetting → resetting ≡ true
    → heard dev v sound (admitted dev (Ok (view.RegD2H f))) ≡ reset_by v f
unfolding heard_fis
signed_heard dev v sound f false is set = cc set
signed_heard dev v sound f true is set =
    ap (λ (b : Bool). signing f (if b then quietly (after_reset v.state (field D2h Status f) (field D2h table.Error f)) happening.Nothing
    else heard_d2h v.slots v.state (field D2h Status f) (field D2h table.Error f))) is

pub now_heard : (host new : Host) (frame : List ℕ) (report : TakeReport) (well : IsSignedWell host frame report new)
    → heard_now host.port host.memory (port_of frame) (admitted (port_of frame) (seen frame))
    ≡ reset_by (view_of (port_of frame) host.port) (signed host new frame report well).frame
now_heard host new frame report well =
    let dev = port_of frame in
    let v : DeviceView = view_of (port_of frame) host.port in
    let s : IsSigned (seen frame) = signed host new frame report well in
    ap (λ (r : Result Fis FisFault). heard dev v (is_sound host.memory host.port.commands v.slots) (admitted dev r)) s.is
    ∙ signed_heard dev v (is_sound host.memory host.port.commands v.slots) s.frame v.state.resetting refl well.resetting

pub view_signed : (host new : Host) (frame : List ℕ) (report : TakeReport) (well : IsSignedWell host frame report new)
    → view_of (port_of frame) new.port
    ≡ view_after_hearing (view_of (port_of frame) host.port) (reset_by (view_of (port_of frame) host.port) (signed host new frame report well).frame)
view_signed host new frame report well =
    let takes : TakesFrame host frame report new = well.takes in
    (takes.heard (not_ignored host new frame report well)).own
    ∙ ap (view_after_hearing (view_of (port_of frame) host.port)) (now_heard host new frame report well)

no_event : (host new : Host) (frame : List ℕ) (report : TakeReport) → IsSignedWell host frame report new
    → own (port_of frame) (touched host (Took frame report)) ≡ []
no_event host new frame report well =
    let h : Heard = heard_now host.port host.memory (port_of frame) (admitted (port_of frame) (seen frame)) in
    ap (λ (b : Bool). own (port_of frame) (by_device (port_of frame) (if b then None else event_heard h (drop 4 frame)))) (not_ignored host new frame report well)
    ∙ own_list (port_of frame) (event_heard h (drop 4 frame))
    ∙ ap (λ (x : Heard). list_of (event_heard x (drop 4 frame))) (now_heard host new frame report well)

pub signature_is_none : SignatureIsNone
signature_is_none host new frame report well =
    let view_is = view_signed host new frame report well in
    record {
      none = no_event host new frame report well;
      keeps = record { slots = ap (λ (v : DeviceView). v.slots) view_is; block = ap (λ (v : DeviceView). v.state.block) view_is };
    }

-- ## What the ledger makes of it

beside : (k : Ledger) → IsBeside k (answered k)
beside k = record { outstanding = refl; unanswered = refl; moving = refl; writes = refl; reads = refl }

no_signature : (f : List ℕ) (error : ℕ) → field D2h table.Error f ≡ error → eqb error 1 ≡ false → is_signature f ≡ true → ⊥
no_signature f error is other set =
    let error_one : Bool = field D2h table.Error f == 1 in
    let quiet : Bool = is_quiet (field D2h table.Status f) in
    let count_one : Bool = field D2h table.Count f % 256 == 1 in
    let all = and_parts (error_one && quiet && count_one) (field D2h table.Lba f % 256 == 1) set in
    let first = and_parts error_one quiet (and_parts (error_one && quiet) count_one all.0).0 in
    true≢false (sym first.0 ∙ ap (λ (n : ℕ). eqb n 1) is ∙ other)

-- it answers what came first, and that is the signature
pub signs_first : (xs : List Reply) (f : List ℕ) → AnswersFirst xs f → is_signature f ≡ true → (later : List Reply) × (xs ≡ Signs ∷ later)
signs_first (Signs ∷ xs) f answers set = (xs, refl)
signs_first (Accepts ∷ xs) f answers set = absurd (no_signature f 0 answers.error_is refl set)
signs_first (Finishes ∷ xs) f answers set = absurd (no_signature f 0 answers.error_is refl set)
signs_first (Refuses ∷ xs) f answers set = absurd (no_signature f 4 answers.error_is refl set)
signs_first other f answers set = absurd answers

talk_quiet : (past : History) (k : Ledger) → k.awaited ≡ [] → k.pages ≡ [] → InTalk past k
talk_quiet past k none pages = Queues (subst AtMostAccepts (sym none) tt) (λ some. absurd (some none)) pages

one_left : (xs : List Reply) (reply : Reply) → xs ≡ reply ∷ [] → drop 1 xs ≡ []
one_left xs reply is = ap (λ (ys : List Reply). drop 1 ys) is

talk_signed : (past : History) (k : Ledger) (later : List Reply) → k.awaited ≡ Signs ∷ later → InTalk past k → InTalk past (answered k)
talk_signed past k later signs (Queues most waits pages) = absurd (subst AtMostAccepts signs most)
talk_signed past k later signs (Replies reply idle one mine pages) = talk_quiet past (answered k) (one_left k.awaited reply one) pages
talk_signed past k later signs (Shows idle one most unset) = let bad : Signs ∷ later ≡ ShowsPage ∷ [] = sym signs ∙ one in cc bad
talk_signed past k later signs (Pages page idle none one waits) = let bad : Signs ∷ later ≡ [] = sym signs ∙ none in cc bad

same_signed : (commands : ℕ → SlotCommand) (past : History) (k : Ledger) (f : List ℕ) → AnswersFirst k.awaited f → is_signature f ≡ true
    → Same commands past k → Same commands past (answered k)
same_signed commands past k f answers set same =
    let first = signs_first k.awaited f answers set in
    record {
      fine = same.fine;
      tags = same.tags;
      live = λ s t there queued. life_beside s (commands s) past k (answered k) (beside k) (same.live s t there queued);
      free = λ s none. free_beside s k (answered k) (beside k) (same.free s none);
      unsent = λ s sent. free_beside s k (answered k) (beside k) (same.unsent s sent);
      untouched = same.untouched;
      talk = talk_signed past k first.0 first.1 same.talk;
    }

-- ## Both

pub joins_signs : (host new : Host) (frame : List ℕ) (report : TakeReport) (commands : ℕ → SlotCommand) (past : History) (k : Ledger)
    → IsSignedWell host frame report new → IsRight k (seen frame) → IsJoined (port_of frame) commands host past k
    → IsJoined (port_of frame) commands new past (listens_up k (seen frame))
joins_signs host new frame report commands past k well right joined =
    let v : DeviceView = view_of (port_of frame) host.port in
    let s : IsSigned (seen frame) = signed host new frame report well in
    let f : List ℕ = s.frame in
    let mine : IsRight k (Ok (view.RegD2H s.frame)) = subst (IsRight k) s.is right in
    let view_is = view_signed host new frame report well in
    let same_context = ap (λ (w : DeviceView). w.slots.context) view_is in
    let told : IsTold (view_after_hearing v (reset_by v s.frame)) past = record { issued = joined.history.issued; agrees = joined.history.agrees } in
    subst (λ (r : Result Fis FisFault). IsJoined (port_of frame) commands new past (listens_up k r)) (sym s.is) (record {
      history = subst (λ (w : DeviceView). IsTold w past) (sym view_is) told;
      same = same_signed commands past k s.frame mine.replies s.signature joined.same;
      sent = λ slot i there. joined.sent slot i (sym (ap (λ (w : DeviceView). own_issue w.slots slot) view_is) ∙ there);
      short = joined.short;
      active = λ c now set. asked_same c k (answered k) refl (joined.active c (sym same_context ∙ now) set);
    })
