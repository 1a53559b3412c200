-- For `takes_serve_on`. A FIS of a disk is taken, or ignored, and the driver goes on to serve the disk from where both
-- began anew.
use Rattle.std.proofs.Common.{refl, ◌≡◌, ℕ, ◌<◌, Bool, true, false, List, [], ◌∷◌, ◌++◌, sym, ◌∙◌, ap, subst, inl, inr, arith, None}
use Rattle.std.specs.Prelude.{◌⊎◌, if◌then◌else◌}
use Rattle.std.proofs.lemmas.Bool.{true≢false}
use Rattle.fis_view.specs.{Frames.marked, Seen.seen}
use Rattle.host_memory.specs.Memory.{Memory}
use Rattle.hba_fbs.specs.{Taking.{admitted, heard_now, port_of}, Views.{DeviceView, Port, view_of}, declared.report.TakeReport.TakeReport}
use Rattle.disk_model.specs.{Ends.IsRight, Histories.{Happening, Sent}, Ledger.ledger}
use Rattle.hba_laws.specs.{Agreement.IsHistoryOf, Client.{Touches, own}, Delivering.{by_device, event_heard, touched}, History.History, Sound.IsHost}
use Rattle.hba_laws.specs.Hosts as event
use Rattle.hba_laws.proofs.Door.{own_app, took_none, was_there}
use Rattle.disk_simulation.specs.{Anew.{IsHostedOn, IsKeptOn}, Together.told, Same.SlotCommand, Between.IsSigned}
use Rattle.disk_simulation.specs.Anew as anew
use Rattle.disk_simulation.proofs.Door.{heard_as_told, hosted_on_is_kept, marks_tell_nothing, signature_is_none, signed}
use Rattle.hba_driver.specs.{Drivers.{Driver, device_at, entry_at}, Events.shared_by, HostTurns.{Does, DoesAll, Host, Took}, Served.RunServes}
use Rattle.hba_driver.specs.{Sights.{is_ata, last_d2h}, Steady.{HasSignature, IsFine}}
use Rattle.hba_driver.specs.Tended.{IsAskedOn, IsAtStage, IsBegun, IsReleasing, IsTended, IsUnreset}
use Rattle.hba_driver.proofs.Door.{rows_stay, sound_shared, sound_turn, turns_serve}
use Rattle.disk_recovery.specs.{Together.{IgnoredKeepOn, IsServedOn, ServesOnAnew, SignaturesKeepOn, TakesKeepOn}, Steady.HasSigned}
use Rattle.disk_recovery.proofs.together.{ResetLemmas.{signed_unreset, taken_unreset}, SentLemmas.sent_there}
use Rattle.disk_recovery.proofs.honest.{SignLemmas.{signed_register, signed_sent}, TakeLemmas.{register_or, signed_marked}, TurnLemmas.after}

-- ---- what each frame leaves

module _ (n : ℕ) (base : List Happening) (old : Host) (frame : List ℕ) (report : TakeReport) (new : Host) (run : DoesAll old (Took frame report ∷ []) new) (given : List Happening) (commands : ℕ → SlotCommand) (touches : Touches)
    (h : IsServedOn n base old given commands touches) where
  -- with what the host has of the disk then
  kept_on : (more : List Happening) → IsHostedOn n base (shared_by new) more commands (own n (touched (shared_by old) (event.Took frame report) ++ touches)) → (HasSigned given → HasSigned more)
      → (IsFine (device_at old.driver.plan n) → HasSignature n new → HasSigned more) → (IsAtStage n IsReleasing old.driver.plan → IsUnreset n new → HasSigned more)
      → ((view_of n new.port).state.resetting ≡ true → IsAtStage n IsReleasing old.driver.plan × (more ≡ base)) → ServesOnAnew n base old (Took frame report) new run given more commands touches
  kept_on more hosted signed row ended resets =
      let d : Does old (Took frame report) new = after old (Took frame report) new run in
      let serves : RunServes old new (Took frame report ∷ []) run touches = turns_serve.runs old new (Took frame report ∷ []) run h.sound touches h.served in
      record {
        next = commands;
        serves = serves;
        on = record {
          sound = sound_turn old (Took frame report) new d h.sound;
          served = serves.last;
          hosted = hosted;
          tended = subst (λ (x : Driver). IsTended n x) (sym d.driver) h.tended;
          named = λ s t e here there queued.
              h.named s t e (was_there n s (touched (shared_by old) (event.Took frame report)) touches t (took_none (shared_by old) frame) here)
              (ap (λ (x : Driver). entry_at x.entries s) (sym d.driver) ∙ there) queued;
          signed = λ asked. signed (h.signed (subst (λ (x : Driver). IsAskedOn n x.plan) d.driver asked));
          row = λ fine signs. row (subst (λ (x : Driver). IsFine (device_at x.plan n)) d.driver fine) signs;
          ended = λ there off. ended (subst (λ (x : Driver). IsAtStage n IsReleasing x.plan) d.driver there) off;
          begun = λ there t here.
              sent_there n 30 (touched (shared_by old) (event.Took frame report)) touches (took_none (shared_by old) frame)
              (h.begun (subst (λ (x : Driver). IsAtStage n IsBegun x.plan) d.driver there) t (was_there n 30 (touched (shared_by old) (event.Took frame report)) touches t (took_none (shared_by old) frame) here));
          resets = λ set. let was = resets set in (subst (λ (x : Driver). IsAtStage n IsReleasing x.plan) (sym d.driver) was.0, was.1);
        };
        counted = λ s t here. inl (was_there n s (touched (shared_by old) (event.Took frame report)) touches t (took_none (shared_by old) frame) here, refl);
      }

-- ---- a FIS that is right

pub takes_keep_on : TakesKeepOn
takes_keep_on n base old plain report new run given commands touches below framed port taken right short h =
    let d : Does old (Took (marked plain n) report) new = after old (Took (marked plain n) report) new run in
    let sound : IsHost (shared_by old) = sound_shared old h.sound in
    let kept : IsKeptOn n base (shared_by old) given commands (own n touches) = hosted_on_is_kept n base (shared_by old) given commands (own n touches) below h.hosted in
    let heard : IsHostedOn n base (shared_by new) (given ++ Sent plain ∷ []) commands (told (seen (marked plain n)) ++ own n touches) =
    anew.hears (shared_by old) (shared_by new) plain report given commands (own n touches) sound framed d.framed port taken right short h.hosted in
    let marked_right : IsRight (ledger given) (seen (marked plain n)) = (marks_tell_nothing (ledger given) plain n framed (omega (arith, below))).right right in
    let so = heard_as_told (shared_by old) (shared_by new) (marked plain n) report commands (own n touches) (ledger given) sound (subst (λ (k : ℕ). k < 15) (sym port) below) taken
    (subst (λ (k : ℕ). IsHistoryOf k (shared_by old) (own n touches)) (sym port) kept.joined.history) kept.joined.same marked_right in
    let events : own n (touched (shared_by old) (event.Took (marked plain n) report)) ≡ told (seen (marked plain n)) =
    subst (λ (k : ℕ). own k (touched (shared_by old) (event.Took (marked plain n) report)) ≡ told (seen (marked plain n))) port so.events in
    let later : own n (touched (shared_by old) (event.Took (marked plain n) report) ++ touches) ≡ told (seen (marked plain n)) ++ own n touches =
    own_app n (touched (shared_by old) (event.Took (marked plain n) report)) touches ∙ ap (λ (p : History). p ++ own n touches) events in
    let steady : (view_of n old.port).state.resetting ≡ false = subst (λ (k : ℕ). (view_of k old.port).state.resetting ≡ false) port taken.steady in
    let stays : (view_of n new.port).state.resetting ≡ false =
    subst (λ (k : ℕ). (view_of k new.port).state.resetting ≡ false) port (taken_unreset (shared_by old) (shared_by new) (marked plain n) report taken) in
    kept_on n base old (marked plain n) report new run given commands touches h (given ++ Sent plain ∷ [])
    (subst (λ (p : History). IsHostedOn n base (shared_by new) (given ++ Sent plain ∷ []) commands p) (sym later) heard)
    (λ was. signed_sent given (own n touches) plain kept.joined.same.talk right.fine was)
    (λ fine signs. elim (register_or (seen (marked plain n))) [
      | inl register ↦
          signed_marked given plain (marked plain n) (marks_tell_nothing (ledger given) plain n framed (omega (arith, below))).up
          (signed_register given (own n touches) (marked plain n) register.0 kept.joined.same.talk register.1)
      | inr other ↦
          signed_sent given (own n touches) plain kept.joined.same.talk right.fine (h.row fine (rows_stay n old (Took (marked plain n) report) new (omega (arith, below)) d h.sound (inr other) signs))
    ])
    (λ there off. signed_sent given (own n touches) plain kept.joined.same.talk right.fine (h.ended there steady))
    (λ set. absurd (true≢false (sym set ∙ stays)))

-- ---- the signature after a software reset

pub signatures_keep_on : SignaturesKeepOn
signatures_keep_on n base old plain report new run given commands touches below framed port well right h =
    let d : Does old (Took (marked plain n) report) new = after old (Took (marked plain n) report) new run in
    let sound : IsHost (shared_by old) = sound_shared old h.sound in
    let kept : IsKeptOn n base (shared_by old) given commands (own n touches) = hosted_on_is_kept n base (shared_by old) given commands (own n touches) below h.hosted in
    let heard : IsHostedOn n base (shared_by new) (given ++ Sent plain ∷ []) commands (own n touches) =
    anew.signs (shared_by old) (shared_by new) plain report given commands (own n touches) sound framed d.framed port well right h.hosted in
    let none : own n (touched (shared_by old) (event.Took (marked plain n) report)) ≡ [] =
    subst (λ (k : ℕ). own k (touched (shared_by old) (event.Took (marked plain n) report)) ≡ []) port (signature_is_none (shared_by old) (shared_by new) (marked plain n) report well).none in
    let later : own n (touched (shared_by old) (event.Took (marked plain n) report) ++ touches) ≡ own n touches =
    own_app n (touched (shared_by old) (event.Took (marked plain n) report)) touches ∙ ap (λ (p : History). p ++ own n touches) none in
    let s : IsSigned (seen (marked plain n)) = signed (shared_by old) (shared_by new) (marked plain n) report well in
    let done : HasSigned (given ++ Sent plain ∷ []) =
    signed_marked given plain (marked plain n) (marks_tell_nothing (ledger given) plain n framed (omega (arith, below))).up (signed_register given (own n touches) (marked plain n) s.frame kept.joined.same.talk s.is) in
    let stays : (view_of n new.port).state.resetting ≡ false =
    subst (λ (k : ℕ). (view_of k new.port).state.resetting ≡ false) port (signed_unreset (shared_by old) (shared_by new) (marked plain n) report well) in
    kept_on n base old (marked plain n) report new run given commands touches h (given ++ Sent plain ∷ [])
    (subst (λ (p : History). IsHostedOn n base (shared_by new) (given ++ Sent plain ∷ []) commands p) (sym later) heard)
    (λ was. done) (λ fine signs. done) (λ there off. done) (λ set. absurd (true≢false (sym set ∙ stays)))

-- ---- a FIS that is ignored

pub ignored_keep_on : IgnoredKeepOn
ignored_keep_on n base old frame report new run given commands touches below is h =
    let d : Does old (Took frame report) new = after old (Took frame report) new run in
    let skip = d.ignored is in
    let none : own n (touched (shared_by old) (event.Took frame report)) ≡ [] =
    ap (λ (b : Bool). own n (by_device (port_of frame) (if b then None else event_heard (heard_now old.port old.memory (port_of frame) (admitted (port_of frame) (seen frame))) (Rattle.std.specs.Prelude.drop 4 frame)))) is in
    let later : own n (touched (shared_by old) (event.Took frame report) ++ touches) ≡ own n touches =
    own_app n (touched (shared_by old) (event.Took frame report)) touches ∙ ap (λ (p : History). p ++ own n touches) none in
    let view_is : view_of n new.port ≡ view_of n old.port = ap (λ (p : Port). view_of n p) skip.port in
    kept_on n base old frame report new run given commands touches h given
    (subst (λ (p : History). IsHostedOn n base (shared_by new) given commands p) (sym later)
    (anew.stays (shared_by old) (shared_by new) given commands (own n touches) (record { slots = ap (λ (v : DeviceView). v.slots) view_is; block = ap (λ (v : DeviceView). v.state.block) view_is }) (inr view_is) h.hosted))
    (λ was. was) (λ fine signs. h.row fine (subst (λ (m : Memory). is_ata (seen (last_d2h m.structure n)) ≡ true) skip.memory signs))
    (λ there off. h.ended there (sym (ap (λ (v : DeviceView). v.state.resetting) view_is) ∙ off)) (λ set. h.resets (sym (ap (λ (v : DeviceView). v.state.resetting) view_is) ∙ set))
