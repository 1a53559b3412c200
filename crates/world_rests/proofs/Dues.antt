-- For `rested_disks_are_left`. Over all that a host does with a disk since both began anew: while a command that is not queued
-- waits at the port, the ledger owes its answer or its page.
use Rattle.std.proofs.Common.{◌≡◌, ◌⊎◌, ℕ, ◌<◌, true, false, List, [], ◌∷◌, ◌++◌, ◌%◌, ◌==◌, ◌&&◌, refl, sym, ap, subst, ◌∙◌, inl, inr, Option, Some}
use Rattle.std.proofs.{Common.{None, Ok, arith}, lemmas.Bool.{and_parts, eqb-true, false≢true, true≢false}}
use Rattle.std.specs.{Prelude.not, Option.option_map}
use Rattle.fis_view.specs.{Frames.{IsFrame, Stamped, marked}, Seen.seen, Table.{Count, D2h, Error, Lba, Status, field}}
use Rattle.fis_view.specs.declared.view.Fis.TheVariants as view
use Rattle.hba_commands.specs.declared.command.Command as issued_command
use Rattle.slots.specs.{Slots.{is_waiting, own_issue}, Work.is_queued}
use Rattle.hba_fbs.specs.{declared.{register.Register.TheVariants.Ci, report.TakeReport.TakeReport, status.Block.Block}, Issuing.aimed}
use Rattle.hba_fbs.specs.{Posting.is_signature, Sending.{Data, Gives, Outgoing, outgoing}, Status.is_quiet, Tables.is_sound, Taking.port_of}
use Rattle.hba_fbs.specs.Views.{DeviceView, view_of}
use Rattle.disk_model.specs.{declared.request.Request.Request, Anew.{IsCarefulSince, IsRequest, OwesOnly}, Between.alone, Ends.{Fits, FitsRequest}}
use Rattle.disk_model.specs.{Ends.{IsRight, Rests}, Histories.{Happening, Received, Sent}, Laws.AnswersFirst, Ledger.{Finishes, Ledger, Refuses}}
use Rattle.disk_model.specs.{Ledger.{Reply, ShowsPage, Signs, Wanted, asks, ledger, listens, listens_down, listens_up}, Requests.request_of}
use Rattle.disk_model.specs.declared.request.Request.TheVariants as request
use Rattle.disk_model.proofs.Door.{asks_fits, ledger_push}
use Rattle.hba_laws.specs.{Agreement.{IssueAgrees, work_of_issue, work_of_transfer}, Between.{GoesOut, NotIssue}, Client.own, Delivering.touched}
use Rattle.hba_laws.specs.{History.{Event, History, Transfer, issued}, Hosts.{Does, Host, Wrote}, Sound.IsHost}
use Rattle.hba_laws.specs.History as event
use Rattle.hba_laws.proofs.Door.{goes_out, is_own, issued_before}
use Rattle.disk_simulation.specs.Anew as anew
use Rattle.disk_simulation.specs.{Anew.{IsHostedOn, IsKeptOn, IsSignedWell}, Answers.{IsAlone, IsIdle}, Between.{IsSigned, IsThere}}
use Rattle.disk_simulation.specs.{Heard.IsTakenWell, Joined.{IsAskedBy, IsJoined}, Marked.IsHeardAlike, Same.SlotCommand, Together.NothingWaits}
use Rattle.disk_simulation.specs.Together.{told}
use Rattle.disk_simulation.proofs.Door.{careful_before, hosted_on_is_kept, marks_ask_nothing, marks_tell_nothing, signed, there_by}
use Rattle.world_rests.proofs.{Due.{AreOwed, IsEnd, IsPlain, OwesIt, OwesPage, OwesReply, OwesShow, idle_by, owed_up, plain_unqueued}, Frames.AllFull}
use Rattle.world_rests.proofs.{Frames.{IsFull, full_last, marked_full}, Open.{IsDue, WasIssued, due_out, heard_fine, heard_it, stood, view_is}}
use Rattle.world_rests.proofs.Open.{was_issued}

-- where both begin, the disk owes only this
abbrev pub Begins : Ledger → Type 0
Begins k = OwesOnly k (Signs ∷ []) [] ⊎ ((page : Wanted) × OwesOnly k (ShowsPage ∷ []) (page ∷ []))

opens : (block : Option Block) (past : History) (k : Ledger) → (k.awaited ≡ Signs ∷ [] → NothingWaits past) → Begins k → AreOwed block past k
opens block past k calm begins s t waits = elim begins [
  | inl signs ↦ absurd (true≢false (sym waits.waits ∙ calm signs.awaited s t waits.here))
  | inr (page, shows) ↦ OwesShow shows.awaited (λ none. let bad : [] ≡ page ∷ [] = sym none ∙ shows.pages in cc bad)
]

-- ---- a signature answers no command

not_first : (block : Option Block) (k : Ledger) (f : List ℕ) → OwesIt block k → AnswersFirst k.awaited f → is_signature f ≡ true → ⊥
not_first block k f owes answers signs = by_due owes
  where
    first : field D2h Lba f % 256 == 1 ≡ true
    first = (and_parts ((field D2h Error f == 1) && is_quiet (field D2h Status f) && (field D2h Count f % 256 == 1)) (field D2h Lba f % 256 == 1) signs).1

    other : field D2h Lba f ≡ 0 → ⊥
    other zero = false≢true (sym (ap (λ (n : ℕ). n % 256 == 1) zero) ∙ first)

    by_reply : (reply : Reply) → IsEnd reply → AnswersFirst (reply ∷ []) f → ⊥
    by_reply Finishes end first = other first.lba
    by_reply Refuses end first = other first.lba
    by_reply other end first = end

    by_due : OwesIt block k → ⊥
    by_due (OwesReply reply is end) = by_reply reply end (subst (λ (xs : List Reply). AnswersFirst xs f) is answers)
    by_due (OwesShow is some) = subst (λ (xs : List Reply). AnswersFirst xs f) is answers
    by_due (OwesPage is some quiet) = subst (λ (xs : List Reply). AnswersFirst xs f) is answers

-- ---- a FIS of the disk

module _ (host new : Host) (frame : List ℕ) (report : TakeReport) (well : IsTakenWell host frame report new) where
  heard_owed : (commands : ℕ → SlotCommand) (past : History) (k : Ledger) → IsHost host → IsRight k (seen frame) → IsFull (seen frame) → IsJoined (port_of frame) commands host past k
      → AreOwed (view_of (port_of frame) host.port).state.block past k → AreOwed (view_of (port_of frame) new.port).state.block (told (seen frame) ++ past) (listens_up k (seen frame))
  heard_owed commands past k sound right full joined owed =
      let w : DeviceView = view_of (port_of frame) host.port in
      let now = (well.takes.heard (heard_it host new frame report well)).own in
      subst (λ (x : DeviceView). AreOwed x.state.block (told (seen frame) ++ past) (listens_up k (seen frame))) (sym now)
      (owed_up (port_of frame) w (is_sound host.memory host.port.commands w.slots) commands past k (is_own (port_of frame) host.port.slots sound.slots) joined.history joined.same joined.sent owed
      (seen frame) right full (heard_fine host new frame report well))

module _ (host new : Host) (frame : List ℕ) (report : TakeReport) (well : IsSignedWell host frame report new) where
  signed_owed : (block after : Option Block) (past : History) (k : Ledger) → IsRight k (seen frame) → AreOwed block past k → AreOwed after past (listens_up k (seen frame))
  signed_owed block after past k right owed s t waits =
      let is : IsSigned (seen frame) = signed host new frame report well in
      let its : IsRight k (Ok (view.RegD2H is.frame)) = subst (IsRight k) is.is right in
      absurd (not_first block k is.frame (owed s t waits) its.replies is.signature)

-- ---- commands are issued

module _ (n value : ℕ) (host new : Host) (commands next : ℕ → SlotCommand) (past : History) (k : Ledger) (sound : IsHost host) (below : n < 15)
    (chosen : aimed host.port.registers host.memory.structure value ≡ n) (does : Does host (Wrote Ci value) new) (joined : IsJoined n commands host past k) where
  issued_owed : IsJoined n next new (own n (touched host (Wrote Ci value)) ++ past) k → AreOwed (view_of n host.port).state.block past k
      → AreOwed (view_of n new.port).state.block (own n (touched host (Wrote Ci value)) ++ past) k
  issued_owed later owed s t waits =
      let at : IsThere (view_of n new.port).slots s t =
      there_by (view_of n new.port).slots s t (own_issue (view_of n new.port).slots s) refl (sym (ap (option_map work_of_transfer) waits.here) ∙ later.history.issued s) in
      let agrees : IssueAgrees s at.issue (view_of n new.port).slots.context (own n (touched host (Wrote Ci value)) ++ past) = later.history.agrees.issues_agree s at.issue at.there in
      let now : is_waiting at.issue ≡ true = sym agrees.waits_is ∙ waits.waits in
      let old : own_issue (view_of n host.port).slots s ≡ Some at.issue =
      stood n value host new commands next past k sound below chosen does joined s at.issue (and_parts at.issue.sent (not at.issue.answered) now).0 at.there in
      let w : WasIssued s at.issue past = was_issued s at.issue past (issued s past) refl (joined.history.issued s ∙ ap (option_map work_of_issue) old) in
      let before : IssueAgrees s at.issue (view_of n host.port).slots.context past = joined.history.agrees.issues_agree s at.issue old in
      subst (λ (v : DeviceView). OwesIt v.state.block k) (sym (view_is n value host new commands next past k sound below chosen does joined))
      (owed s w.transfer (record {
        here = w.there;
        plain = subst IsPlain (at.work ∙ sym w.work) waits.plain;
        waits = before.waits_is ∙ now;
      }))

-- ---- a command is sent

sent_queued : (block : Option Block) (slot : ℕ) (t : Transfer) (past : History) (k : Ledger) → issued slot past ≡ Some t → is_queued t.work.kind ≡ true
    → AreOwed block (event.Sent slot ∷ past) k
unfolding NotIssue
sent_queued block slot t past k here queued s u waits =
    let same : slot ≡ s = eqb-true slot s waits.waits in
    let both : Some t ≡ Some u = sym here ∙ ap (λ (r : ℕ). issued r past) same ∙ issued_before s (event.Sent slot) past u tt waits.here in
    let one : t ≡ u = cc both in
    absurd (true≢false (sym queued ∙ ap (λ (x : Transfer). is_queued x.work.kind) one ∙ plain_unqueued u.work waits.plain))

no_page : {X : Type 0} (xs : List Wanted) (x : Wanted) → xs ++ x ∷ [] ≡ [] → X
no_page [] x is = cc is
no_page (y ∷ xs) x is = cc is

-- a command that is alone is answered, or its page is shown
owes_alone : (block : Option Block) (k : Ledger) (r : Request) → IsAlone r → Rests k → OwesIt block (alone k r)
owes_alone block k request.ReadErrorLog is rests = OwesShow (ap (λ (xs : List Reply). xs ++ ShowsPage ∷ []) rests.awaited) (λ none. no_page k.pages _ none)
owes_alone block k request.Identify is rests = OwesShow (ap (λ (xs : List Reply). xs ++ ShowsPage ∷ []) rests.awaited) (λ none. no_page k.pages _ none)
owes_alone block k request.Flush is rests = OwesReply Finishes (ap (λ (xs : List Reply). xs ++ Finishes ∷ []) rests.awaited) tt
owes_alone block k request.Other is rests = OwesReply Refuses (ap (λ (xs : List Reply). xs ++ Refuses ∷ []) rests.awaited) tt
owes_alone block k other is rests = absurd is

rests_by : (k : Ledger) (r : Request) → IsAlone r → FitsRequest k r → Rests k
rests_by k (request.Reset on) is fits = absurd is
rests_by k (request.Queue c) is fits = absurd is
rests_by k other is fits = fits

asked_owed : (block : Option Block) (k : Ledger) (r : Request) → IsAlone r → k.failed ≡ false → FitsRequest k r → OwesIt block (asks k r k.failed)
asked_owed block k r is fine fits = subst (OwesIt block) (sym (asks_fits k r fine fits)) (owes_alone block k r is (rests_by k r is fits))

-- ---- Data is sent

data_owed : (n offset len : ℕ) (host : Host) (command : issued_command.Command) (commands : ℕ → SlotCommand) (past : History) (k after : Ledger) (bytes : List ℕ) (block next : Option Block)
    → outgoing host.port host.memory ≡ Data n offset len command → IsJoined n commands host past k → AreOwed block past k → AreOwed next (event.Carried bytes ∷ past) after
unfolding NotIssue
data_owed n offset len host command commands past k after bytes block next out joined owed s t waits =
    let due : IsDue n len host = due_out n offset len host command (subst (GoesOut host.port) out (goes_out host.port host.memory)) in
    let a : IsAskedBy due.context k = joined.active due.context due.now due.asked in
    let idle : IsIdle k =
    idle_by block past k (owed s t (record { here = issued_before s (event.Carried bytes) past t tt waits.here; plain = waits.plain; waits = waits.waits })) joined.same.talk in
    let bad : None ≡ Some a.current = sym idle.moving ∙ a.moving in
    cc bad

-- ---- all of it

module _ (n : ℕ) (base : List Happening) (below : n < 15) (begins : Begins (ledger base)) where
  kept : (host : Host) (given : List Happening) (commands : ℕ → SlotCommand) (past : History) → IsHostedOn n base host given commands past → IsKeptOn n base host given commands past
  kept host given commands past hosted = hosted_on_is_kept n base host given commands past below hosted

  taken_owed : (old new : Host) (bytes : List ℕ) (given : List Happening) (commands : ℕ → SlotCommand) (past later : History) → IsFrame bytes → port_of (marked bytes n) ≡ n
      → IsJoined n commands old past (ledger given) → AreOwed (view_of n old.port).state.block past (ledger given)
      → (IsHeardAlike (ledger given) bytes (marked bytes n) → IsJoined (port_of (marked bytes n)) commands old past (ledger given) → AreOwed (view_of (port_of (marked bytes n)) old.port).state.block past (ledger given)
      → AreOwed (view_of (port_of (marked bytes n)) new.port).state.block later (listens (ledger given) (Sent (marked bytes n))))
      → AreOwed (view_of n new.port).state.block later (ledger (given ++ Sent bytes ∷ []))
  taken_owed old new bytes given commands past later plain from_n joined before next =
      let a : IsHeardAlike (ledger given) bytes (marked bytes n) = marks_tell_nothing (ledger given) bytes n plain (omega (arith, below)) in
      let its = next a (subst (λ (m : ℕ). IsJoined m commands old past (ledger given)) (sym from_n) joined)
      (subst (λ (m : ℕ). AreOwed (view_of m old.port).state.block past (ledger given)) (sym from_n) before) in
      subst (AreOwed (view_of n new.port).state.block later) (sym (ledger_push given (Sent bytes)))
      (subst (AreOwed (view_of n new.port).state.block later) a.up
      (subst (λ (m : ℕ). AreOwed (view_of m new.port).state.block later (listens (ledger given) (Sent (marked bytes n)))) from_n its))

  -- a command that is not queued goes out, and nothing else was to come
  asks_owed : (frame : Stamped) (f : List ℕ) (given : List Happening) (block : Option Block) → IsFrame frame.bytes → seen frame.bytes ≡ Ok (view.RegH2D f) → IsAlone (request_of f)
      → (since : List Happening) → given ≡ base ++ since → IsCarefulSince base (given ++ Received (marked frame.bytes 0) ∷ []) → OwesIt block (ledger (given ++ Received (marked frame.bytes 0) ∷ []))
  asks_owed frame f given block framed shown is since since_is careful =
      let k : Ledger = ledger given in
      let its : IsRequest (marked frame.bytes 0) (request_of f) =
      (marks_ask_nothing frame.bytes 0 framed (omega arith)).request (request_of f) (record { frame = f; is = shown; asks = refl }) in
      let fits : Fits (ledger given) (Ok (view.RegH2D its.frame)) = subst (Fits (ledger given)) its.is (careful_before base given since (Received (marked frame.bytes 0)) since_is careful).1 in
      let next : ledger (given ++ Received (marked frame.bytes 0) ∷ []) ≡ asks (ledger given) (request_of f) (ledger given).failed =
      ledger_push given (Received (marked frame.bytes 0)) ∙ ap (listens_down (ledger given)) its.is ∙ ap (λ (r : Request). asks (ledger given) r (ledger given).failed) its.asks in
      subst (OwesIt block) (sym next) (asked_owed block (ledger given) (request_of f) is fits.0 (subst (FitsRequest (ledger given)) its.asks fits.1))

  pub hosted_is_owed : (host : Host) (given : List Happening) (commands : ℕ → SlotCommand) (past : History) → AllFull given → IsHostedOn n base host given commands past
      → AreOwed (view_of n host.port).state.block past (ledger given)
  hosted_is_owed host given commands past full (anew.opens h c p opening) = opens (view_of n h.port).state.block p (ledger base) opening.calm begins
  hosted_is_owed host given commands past full (anew.stays old new g c p same whole hosted) =
      subst (λ (b : Option Block). AreOwed b p (ledger g)) (sym same.block) (hosted_is_owed old g c p full hosted)
  hosted_is_owed host given commands past full (anew.signs old new bytes report g c p sound plain framed from_n well right hosted) =
      taken_owed old new bytes g c p p plain from_n (kept old g c p hosted).joined (hosted_is_owed old g c p (full_last g (Sent bytes) full).0 hosted)
      (λ a joined owed. signed_owed old new (marked bytes n) report well (view_of (port_of (marked bytes n)) old.port).state.block _ p (ledger g) (a.right right) owed)
  hosted_is_owed host given commands past full (anew.hears old new bytes report g c p sound plain framed from_n well right short hosted) =
      let parts = full_last g (Sent bytes) full in
      taken_owed old new bytes g c p (told (seen (marked bytes n)) ++ p) plain from_n (kept old g c p hosted).joined (hosted_is_owed old g c p parts.0 hosted)
      (λ a joined owed. heard_owed old new (marked bytes n) report well c p (ledger g) sound (a.right right) (marked_full bytes n plain (omega (arith, below)) parts.1) joined owed)
  hosted_is_owed host given commands past full (anew.issues old new value g c next p sound chosen does tags names counted hosted) =
      issued_owed n value old new c next p (ledger g) sound below chosen does (kept old g c p hosted).joined
      (kept new g next _ (anew.issues old new value g c next p sound chosen does tags names counted hosted)).joined (hosted_is_owed old g c p full hosted)
  hosted_is_owed host given commands past full (anew.sends old new frame slot command f t g c p sound framed does out here queued cfis request signs hosted) =
      sent_queued (view_of n new.port).state.block slot t p _ here queued
  hosted_is_owed host given commands past full (anew.asks old new frame slot command f t g c p sound framed does out here not_queued control moves cfis one none signs hosted) =
      λ s u waits.
      let sends = subst (λ (o : Outgoing). Gives o old.port old.memory (Some frame) new.port) out does.0 in
      let shown : seen frame.bytes ≡ Ok (view.RegH2D f) = ap (λ (x : Stamped). seen x.bytes) sends.frame_is ∙ cfis in
      let before : IsKeptOn n base old g c p = kept old g c p hosted in
      asks_owed frame f g (view_of n new.port).state.block framed shown one before.careful.since before.careful.is
      (kept new _ c (event.Sent slot ∷ p) (anew.asks old new frame slot command f t g c p sound framed does out here not_queued control moves cfis one none signs hosted)).careful
  hosted_is_owed host given commands past full (anew.gives old new frame offset len command g c p sound framed does out hosted) =
      data_owed n offset len old command c p (ledger g) _ _ (view_of n old.port).state.block (view_of n new.port).state.block out (kept old g c p hosted).joined
      (hosted_is_owed old g c p (full_last g (Received (marked frame.bytes 0)) full).0 hosted)
