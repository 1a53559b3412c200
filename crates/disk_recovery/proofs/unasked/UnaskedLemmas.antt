-- For `stays_unasked`. A device that is taken to be absent owes nothing but its signature.
use Rattle.std.proofs.Common.{◌≡◌, ℕ, ◌<◌, ◌⊎◌, Bool, true, false, List, [], ◌∷◌, ◌++◌, refl, sym, ◌∙◌, ap, subst, inl, inr, arith, Option, Some, None, Result, Ok}
use Rattle.std.specs.Prelude.{◌%◌, ◌==◌, find, slice_index, drop}
use Rattle.std.proofs.lemmas.{Bool.cases_eq, List.append-nil}
use Rattle.fis_view.specs.{Frames.Stamped, Seen.seen, Table.{Bits, BufferId, D2h, SActive, Setup, Status, field}, declared.view.Fis.Fis}
use Rattle.fis_view.specs.declared.view.FisFault.{FisFault}
use Rattle.fis_view.specs.declared.view.Fis.TheVariants as view
use Rattle.slots.specs.{Slots.{Issue, own_issue}, declared.table.Context.Context}
use Rattle.hba_commands.specs.declared.command.Command as issued_command
use Rattle.hba_fbs.specs.{Sending.{Data, Gives, Order, Outgoing, data_fis, gathered, outgoing}, Tables.prds_of, Views.view_of}
use Rattle.disk_model.specs.{declared.request.Command.Command, Anew.{IsClear, OwesOnly}, Ends.{IsRight, PageAsked}}
use Rattle.disk_model.specs.{Histories.{Happening, Plugged, Sent}, Laws.{ActivatesRight, AnswersFirst, SetsUpRight, ShowsFirst, StartsOne}}
use Rattle.disk_model.specs.Ledger.{Ledger, Moving, Names, Reply, Signs, empty, ledger, listens_up}
use Rattle.disk_model.proofs.Door.{begins_anew}
use Rattle.hba_laws.specs.{Agreement.IsHistoryOf, Client.{Touches, own}, History.{Transfer, issued}, Sound.IsHost, Between.GoesOut}
use Rattle.hba_laws.proofs.Door.{goes_out, the, the_transfer}
use Rattle.disk_simulation.specs.Files.{IsOfDisk}
use Rattle.hba_driver.specs.declared.{path.Path.Path, path.Recovery.{Recovery, TheVariants.{Log, Reset}}, path.Stage.Stage}
use Rattle.hba_driver.specs.declared.{plan.Device.{Device, TheVariants.{Absent, Ready, Recovering, Starting}}, plan.Plan.Plan}
use Rattle.hba_driver.specs.{Drivers.{Driver, device_at}, Events.shared_by, HostTurns.{Host, HostTurn, Ticked}, Served.IsServed, Slot30.Resets}
use Rattle.hba_driver.specs.{Steady.IsSteadyTurn, Tended.{Awaits, Fine, Identifies, IsTended, IsTendedBy, Logs, Releases, Spoilt}, Between.From}
use Rattle.hba_driver.proofs.Door.{issued_live, sound_shared, turn_was}
use Rattle.disk_recovery.specs.{Kept.{IsCalmTurn, given_to}, Unasked.{EachStaysUnasked, IsUnasked, OwesSignature}}
use Rattle.disk_recovery.proofs.honest.{PushLemmas.{HasLast, OutData, OutTold, given_elsewhere, out_data, out_last, out_told}, SignLemmas.ledger_more}

-- ---- what may come of it

-- the FIS is the signature that is owed
pub record IsItsSignature (k : Ledger) (fis : Result Fis FisFault) : Type 0 where
  pub frame : List ℕ
  pub is : fis ≡ Ok (view.RegD2H frame)
  pub owed : k.awaited ≡ Signs ∷ []
  pub status : field D2h Status frame ≡ 0x50

register_owed : (k : Ledger) (f : List ℕ) → (k.awaited ≡ []) ⊎ (k.awaited ≡ Signs ∷ []) → AnswersFirst k.awaited f → IsItsSignature k (Ok (view.RegD2H f))
register_owed k f (inl none) answers = absurd (subst (λ (xs : List Reply). AnswersFirst xs f) none answers)
register_owed k f (inr one) answers =
    let register = subst (λ (xs : List Reply). AnswersFirst xs f) one answers in
    record { frame = f; is = refl; owed = one; status = register.status_is }

shows_none : (k : Ledger) (f : List ℕ) → (k.awaited ≡ []) ⊎ (k.awaited ≡ Signs ∷ []) → ShowsFirst k.awaited f → ⊥
shows_none k f (inl none) shows = subst (λ (xs : List Reply). ShowsFirst xs f) none shows
shows_none k f (inr one) shows = subst (λ (xs : List Reply). ShowsFirst xs f) one shows

setup_none : (k : Ledger) (f : List ℕ) → IsClear k → SetsUpRight k k.moving f → ⊥
setup_none k f clear right =
    let starts = subst (λ (m : Option Moving). SetsUpRight k m f) clear.moving right in
    subst (λ (cs : List Command). StartsOne (find (λ c. c.tag == field Setup BufferId f) cs) f) clear.outstanding starts

pub signs_only : (k : Ledger) (fis : Result Fis FisFault) → OwesSignature k → IsRight k fis → IsOfDisk fis → IsItsSignature k fis
signs_only k (Ok (view.RegD2H f)) owes right mine = register_owed k f owes.awaited right.replies
signs_only k (Ok (view.SetBits f)) owes right mine = absurd (subst (λ (xs : List ℕ). Names xs (field Bits SActive f)) owes.clear.unanswered (right.answers right.fine))
signs_only k (Ok (view.DmaActivate f)) owes right mine = absurd (subst ActivatesRight owes.clear.moving right.moves)
signs_only k (Ok (view.DmaSetup f)) owes right mine = absurd (setup_none k f owes.clear right.moves)
signs_only k (Ok (view.PioSetup f)) owes right mine = absurd (shows_none k f owes.awaited right.replies)
signs_only k (Ok (view.Payload f)) owes right mine = absurd ((subst (PageAsked k) owes.clear.moving right.asked) owes.pages)
signs_only k other owes right mine = absurd mine

signed_owes : (k : Ledger) (f : List ℕ) → OwesSignature k → k.awaited ≡ Signs ∷ [] → OwesSignature (listens_up k (Ok (view.RegD2H f)))
signed_owes k f owes owed = record {
  clear = record { failed = owes.clear.failed; outstanding = owes.clear.outstanding; unanswered = owes.clear.unanswered; moving = owes.clear.moving };
  awaited = inl (ap (λ (xs : List Reply). drop 1 xs) owed);
  pages = owes.pages;
}

sent_owes : (given : List Happening) (plain : List ℕ) → IsRight (ledger given) (seen plain) → IsOfDisk (seen plain) → OwesSignature (ledger given) → OwesSignature (ledger (given ++ Sent plain ∷ []))
sent_owes given plain right mine owes =
    let s = signs_only (ledger given) (seen plain) owes right mine in
    subst OwesSignature (sym (ledger_more empty given (Sent plain)))
    (subst (λ (r : Result Fis FisFault). OwesSignature (listens_up (ledger given) r)) (sym s.is) (signed_owes (ledger given) s.frame owes s.owed))

-- ---- nothing of it is issued

recovering_absent : (way : Recovery) → Recovering way ≡ Absent → ⊥
recovering_absent way is = cc

starting_absent : (d : Device) → d ≡ Starting → d ≡ Absent → ⊥
starting_absent d is absent = cc

ready_absent : (d : Device) → d ≡ Ready → d ≡ Absent → ⊥
ready_absent d is absent = cc

works_on_none : (n : ℕ) (plan : Plan) (p : Path) → IsTendedBy n plan → plan.path ≡ Some p → p.dev ≡ n → device_at plan n ≡ Absent → ⊥
works_on_none n plan p (Fine fine path) here to absent = starting_absent (device_at plan n) (path p here to).1.1 absent
works_on_none n plan p (Releases device works) here to absent = recovering_absent Reset (sym device ∙ absent)
works_on_none n plan p (Awaits device works) here to absent = recovering_absent Reset (sym device ∙ absent)
works_on_none n plan p (Identifies device works) here to absent = recovering_absent Reset (sym device ∙ absent)
works_on_none n plan p (Logs before file device works) here to absent = recovering_absent (Log before) (sym device ∙ absent)
works_on_none n plan p (Spoilt device free) here to absent = recovering_absent Reset (sym device ∙ absent)

module _ (n : ℕ) (h : Host) (touches : Touches) (below : n < 15) (served : IsServed h.driver (shared_by h) touches) (tended : IsTended n h.driver) (absent : device_at h.driver.plan n ≡ Absent) where
  none_issued : (s : ℕ) (t : Transfer) → issued s (own n touches) ≡ Some t → ⊥
  none_issued s t here = by_issue (served.issues n s t here).from
    where
      by_issue : From h.driver n s t → ⊥
      by_issue (inl r) =
          ready_absent (device_at h.driver.plan n) (tended.requests.ready s r.entry (record { stands = r.stands; of_dev = r.of_dev; lives = issued_live r.entry r.goes })) absent
      by_issue (inr (inl i)) = works_on_none n h.driver.plan i.path tended.plan.way i.goes i.of_dev absent
      by_issue (inr (inr o)) = omega (arith, below, o.of_dev)

  told : IsHistoryOf n (shared_by h) (own n touches)
  told = served.told n (omega (arith, below))

  none_held : (s : ℕ) (i : Issue) → own_issue (view_of n h.port).slots s ≡ Some i → ⊥
  none_held s i there =
      let t = the_transfer (issued s (own n touches)) (own_issue (view_of n h.port).slots s) i there (told.issued s) in
      none_issued s t.0 t.1

  pub none_at : (s : ℕ) → own_issue (view_of n h.port).slots s ≡ None
  none_at s = by_issue (own_issue (view_of n h.port).slots s) refl
    where
      by_issue : (o : Option Issue) → own_issue (view_of n h.port).slots s ≡ o → own_issue (view_of n h.port).slots s ≡ None
      by_issue None is = is
      by_issue (Some i) is = absurd (none_held s i is)

  none_set_up : (c : Context) → (view_of n h.port).slots.context ≡ Some c → ⊥
  none_set_up c now =
      let issue = the (own_issue (view_of n h.port).slots c.slot) (told.agrees.context_agrees c now).of_issue in
      none_held c.slot issue.0 issue.1

  -- ---- and nothing goes out to it

  module _ (frame : Option Stamped) (new : Host) (sound : IsHost (shared_by h)) where
    no_data : (offset len : ℕ) (command : issued_command.Command) → GoesOut h.port (Data n offset len command) → ⊥
    no_data offset len command goes = let due : OutData n len h = out_data n offset len h command goes in none_set_up due.context due.now

    no_order : (slot : ℕ) (command : issued_command.Command) → OutTold h touches n slot command → ⊥
    no_order slot command o = none_issued slot o.transfer o.there

    data_port : (dev : ℕ) (bytes : List ℕ) → dev < 16 → slice_index (data_fis dev bytes) 1 % 16 ≡ dev
    data_port dev bytes small = omega (arith, small)

    by_frame : (o : Outgoing) → Gives o h.port h.memory frame new.port → HasLast h.port o → GoesOut h.port o → (x : Option Stamped) → frame ≡ x → given_to n frame ≡ []
    by_frame (Data dev offset len command) gave last goes None is = ap (given_to n) is
    by_frame (Data dev offset len command) gave last goes (Some f) is =
        let sent = subst (λ (y : Option Stamped). Gives (Data dev offset len command) h.port h.memory y new.port) is gave in
        elim (cases_eq dev n) [
          | inl same ↦ absurd (no_data offset len command (subst (λ (d : ℕ). GoesOut h.port (Data d offset len command)) same goes))
          | inr other ↦
              ap (given_to n) is
              ∙ given_elsewhere n dev f
              (ap (λ (b : List ℕ). slice_index b 1 % 16) (ap (λ (s : Stamped). s.bytes) sent.frame_is) ∙ data_port dev (gathered (prds_of h.memory command) offset len h.memory.client) last) (λ e. other (sym e))
        ]
    by_frame (Order dev slot command) gave last goes None is = ap (given_to n) is
    by_frame (Order dev slot command) gave last goes (Some f) is =
        let sent = subst (λ (y : Option Stamped). Gives (Order dev slot command) h.port h.memory y new.port) is gave in
        let o : OutTold h touches dev slot command = out_told h touches dev slot command sound served goes last in
        elim (cases_eq dev n) [
          | inl same ↦ absurd (no_order slot command (subst (λ (d : ℕ). OutTold h touches d slot command) same o))
          | inr other ↦ ap (given_to n) is ∙ given_elsewhere n dev f (ap (λ (b : List ℕ). slice_index b 1 % 16) (ap (λ (s : Stamped). s.bytes) sent.frame_is) ∙ o.port) (λ e. other (sym e))
        ]
    by_frame rest gave last goes x is = ap (given_to n) gave.0

    none_given : Gives (outgoing h.port h.memory) h.port h.memory frame new.port → given_to n frame ≡ []
    none_given gives = by_frame (outgoing h.port h.memory) gives (out_last h.port h.memory) (goes_out h.port h.memory) frame refl

-- ---- turns

same_driver : (n : ℕ) (old new : Host) (given : List Happening) → new.driver ≡ old.driver → IsUnasked n old given → IsUnasked n new given
same_driver n old new given same h absent = h (sym (ap (λ (d : Driver). device_at d.plan n) same) ∙ absent)

steady_of : (n : ℕ) (old : Host) (turn : HostTurn) → IsCalmTurn n old turn → IsSteadyTurn n old turn
steady_of n old (Ticked a) calm = calm
steady_of n old other calm = tt

reset_there : (n : ℕ) (h : Host) (asked : Bool) (stage other : Stage) → Resets n stage true h.driver.plan ⊎ Resets n other false h.driver.plan → device_at h.driver.plan n ≡ Absent → ⊥
reset_there n h asked stage other (inl r) absent = recovering_absent Reset (sym r.device ∙ absent)
reset_there n h asked stage other (inr r) absent = recovering_absent Reset (sym r.device ∙ absent)

plugged_owes : (before : List Happening) → OwesSignature (ledger (before ++ Plugged ∷ []))
plugged_owes before =
    let owes : OwesOnly (ledger (before ++ Plugged ∷ [])) (Signs ∷ []) [] = begins_anew.plugged before in
    record { clear = owes.clear; awaited = inr owes.awaited; pages = owes.pages }

pub stays_unasked : EachStaysUnasked
stays_unasked n = record {
  plugged = λ h before absent. plugged_owes before;
  log = λ h base at absent. absurd (recovering_absent _ (sym (at.apart refl).plan.device ∙ absent));
  reset = λ h base at absent. absurd (reset_there n h true _ _ (at.apart refl).plan absent);
  calm = λ old turn new given does calm tended h absent. h (turn_was n old turn new does (steady_of n old turn calm) tended.plan.order absent);
  ignored = λ old frame report new given does h. same_driver n old new given does.driver h;
  takes = λ old frame report new given plain does right mine h absent. sent_owes given plain right mine (same_driver n old new given does.driver h absent);
  pushes = λ base old frame new given commands touches below does served h absent.
      let was : device_at old.driver.plan n ≡ Absent = sym (ap (λ (d : Driver). device_at d.plan n) does.driver) ∙ absent in
      let none : given_to n frame ≡ [] = none_given n old touches below served.served served.tended was frame new (sound_shared old served.sound) does.gives in
      subst (λ (xs : List Happening). OwesSignature (ledger xs)) (sym (append-nil given) ∙ ap (λ (xs : List Happening). given ++ xs) (sym none)) (h was);
}
