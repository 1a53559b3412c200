-- For `takes_keep_honest`. A FIS of a disk is taken, and the driver goes on to serve the disk honestly.
use Rattle.std.proofs.Common.{◌≡◌, ℕ, ◌<◌, List, [], ◌∷◌, ◌++◌, refl, sym, ◌∙◌, ap, subst, inl, inr, arith}
use Rattle.std.specs.Prelude.{◌⊎◌, Result, Ok, Err}
use Rattle.fis_view.specs.{declared.{view.Fis.Fis, view.FisFault.FisFault}, Frames.marked, Seen.seen}
use Rattle.fis_view.specs.declared.view.Fis.TheVariants as view
use Rattle.disk_model.specs.{Ends.IsRight, Histories.{Happening, Sent}, Ledger.{Ledger, empty, ledger, listens}}
use Rattle.hba_laws.specs.{Agreement.IsHistoryOf, Client.own, Delivering.touched, History.History, Sound.IsHost}
use Rattle.hba_laws.specs.Hosts as event
use Rattle.hba_laws.proofs.Door.{own_app, took_none, was_there}
use Rattle.disk_simulation.specs.{Hosted.{IsHosted, IsKept, hears}, Together.told}
use Rattle.disk_simulation.proofs.Door.{heard_as_told, hosted_is_kept, marks_tell_nothing}
use Rattle.hba_driver.specs.{Drivers.{Driver, entry_at}, Events.shared_by, HostTurns.{Does, Took}, Served.RunServes, Steady.IsAskedOf}
use Rattle.hba_driver.proofs.Door.{rows_stay, sound_shared, sound_turn, turn_steady, turns_serve}
use Rattle.disk_recovery.specs.{Kept.TakesKeep, Steady.HasSigned}
use Rattle.disk_recovery.proofs.honest.{SignLemmas.{ledger_more, signed_register, signed_sent}, TurnLemmas.after}

-- a Register FIS of a device, or none
pub register_or : (r : Result Fis FisFault) → ((f : List ℕ) × (r ≡ Ok (view.RegD2H f))) ⊎ ((f : List ℕ) → r ≡ Ok (view.RegD2H f) → ⊥)
register_or (Ok (view.RegD2H f)) = inl (f, refl)
register_or (Err e) = inr (λ g k. cc)
register_or other = inr (λ g e. cc)

-- the ledger hears the same of the frame and of the marked one
pub signed_marked : (given : List Happening) (plain frame : List ℕ) → listens (ledger given) (Sent frame) ≡ listens (ledger given) (Sent plain) → HasSigned (given ++ Sent frame ∷ []) → HasSigned (given ++ Sent plain ∷ [])
signed_marked given plain frame same was is =
    was (ap (λ (l : Ledger). l.awaited) (ledger_more empty given (Sent frame) ∙ same ∙ sym (ledger_more empty given (Sent plain))) ∙ is)

pub takes_keep : TakesKeep
takes_keep n old plain report new run given commands touches below framed port taken right short h =
    let frame : List ℕ = marked plain n in
    let d : Does old (Took (marked plain n) report) new = after old (Took (marked plain n) report) new run in
    let sound : IsHost (shared_by old) = sound_shared old h.sound in
    let serves : RunServes old new (Took (marked plain n) report ∷ []) run touches = turns_serve.runs old new (Took (marked plain n) report ∷ []) run h.sound touches h.served in
    let kept : IsKept n (shared_by old) given commands (own n touches) = hosted_is_kept n (shared_by old) given commands (own n touches) below h.hosted in
    let heard : IsHosted n (shared_by new) (given ++ Sent plain ∷ []) commands (told (seen (marked plain n)) ++ own n touches) =
    hears (shared_by old) (shared_by new) plain report given commands (own n touches) sound framed d.framed port taken right short h.hosted in
    let marked_right : IsRight (ledger given) (seen (marked plain n)) = (marks_tell_nothing (ledger given) plain n framed (omega (arith, below))).right right in
    let so = heard_as_told (shared_by old) (shared_by new) (marked plain n) report commands (own n touches) (ledger given) sound (subst (λ (k : ℕ). k < 15) (sym port) below) taken
    (subst (λ (k : ℕ). IsHistoryOf k (shared_by old) (own n touches)) (sym port) kept.joined.history) kept.joined.same marked_right in
    let events : own n (touched (shared_by old) (event.Took (marked plain n) report)) ≡ told (seen (marked plain n)) =
    subst (λ (k : ℕ). own k (touched (shared_by old) (event.Took (marked plain n) report)) ≡ told (seen (marked plain n))) port so.events in
    let later : own n (touched (shared_by old) (event.Took (marked plain n) report) ++ touches) ≡ told (seen (marked plain n)) ++ own n touches =
    own_app n (touched (shared_by old) (event.Took (marked plain n) report)) touches ∙ ap (λ (p : History). p ++ own n touches) events in
    record {
      next = commands;
      serves = serves;
      honestly = record {
        sound = sound_turn old (Took (marked plain n) report) new d h.sound;
        served = serves.last;
        hosted = subst (λ (p : History). IsHosted n (shared_by new) (given ++ Sent plain ∷ []) commands p) (sym later) heard;
        steady = (turn_steady n old (Took (marked plain n) report) new d tt h.steady).steady;
        named = λ s t e here there queued.
            h.named s t e (was_there n s (touched (shared_by old) (event.Took (marked plain n) report)) touches t (took_none (shared_by old) (marked plain n)) here)
            (ap (λ (x : Driver). entry_at x.entries s) (sym d.driver) ∙ there) queued;
        signed = λ asked. signed_sent given (own n touches) plain kept.joined.same.talk right.fine (h.signed (subst (λ (x : Driver). IsAskedOf n x.plan) d.driver asked));
        row = λ signs. elim (register_or (seen (marked plain n))) [
          | inl register ↦
              signed_marked given plain (marked plain n) (marks_tell_nothing (ledger given) plain n framed (omega (arith, below))).up
              (signed_register given (own n touches) (marked plain n) register.0 kept.joined.same.talk register.1)
          | inr other ↦
              signed_sent given (own n touches) plain kept.joined.same.talk right.fine (h.row (rows_stay n old (Took (marked plain n) report) new (omega (arith, below)) d h.sound (inr other) signs))
        ];
      };
    }
