-- For `reports_are_honest_in_each_phase`. What is done in each phase, and what the host makes of what comes next.
use Rattle.std.proofs.Common.{◌≡◌, ◌∙◌, ℕ, ◌<◌, Bool, true, false, List, [], ◌∷◌, ◌++◌, refl, sym, ap, subst, length, inl, inr, Option, Some, None}
use Rattle.std.proofs.{Common.{Ok, Result, arith}, lemmas.Bool.{true≢false}}
use Rattle.std.specs.Prelude.{◌⊎◌, is_some, if◌then◌else◌}
use Rattle.fis_view.specs.{Frames.{IsFrame, marked}, Marks.IsMarked, Table.{Bits, SActive, Status, field}, Seen.{kind_of, may_have, seen}}
use Rattle.fis_view.specs.declared.view.{Fis.Fis, FisFault.FisFault}
use Rattle.fis_view.specs.Table as table
use Rattle.fis_view.specs.declared.view.Fis.TheVariants as view
use Rattle.fis_view.proofs.Door.{is_marked}
use Rattle.port_errors.specs.declared.cause.DeviceCause.TheVariants as cause
use Rattle.slots.specs.Commands.{completed}
use Rattle.hba_fbs.specs.{declared.{hearing.Fault.Fault, report.TakeReport.TakeReport}, Hearing.{faulty, heard_fis, named}, Status.is_error}
use Rattle.hba_fbs.specs.{Status.with_bits, Tables.is_sound, Taking.{admitted, device_cause, heard, heard_now, heard_report, ignores, port_of}}
use Rattle.hba_fbs.specs.Views.{DeviceView, view_of}
use Rattle.hba_fbs.specs.declared.hearing.Fault.TheVariants as fault
use Rattle.disk_model.specs.{declared.plan.DiskPlan.DiskPlan, Ends.reports, Histories.{Happening, Sent}, Ledger.{IsSize, has_error, ledger}}
use Rattle.disk_model.specs.Runs.{IsDiskRun}
use Rattle.hba_laws.specs.{Agreement.IsHistoryOf, Client.own, Delivering.touched, History.History, Hosts.{Host, TakesFrame, Took}, Sound.IsHost}
use Rattle.disk_simulation.specs.{Anew.{IsHostedOn, IsKeptOn, IsNextRight, IsSignedWell}, Aside.{AsideIsKept, IsAside}, Followed.IsFollowed}
use Rattle.disk_simulation.specs.{Heard.{IsTakenWell, IsToldSo}, Marked.IsHeardAlike, Phases.{Apart, AreTogether, EachDoneIsHonest, TakesInEachPhase}}
use Rattle.disk_simulation.specs.{Phases.Together, Together.told, Same.SlotCommand}
use Rattle.disk_simulation.specs.Anew as anew
use Rattle.disk_simulation.proofs.{anew.AnewJoins.hosted_on_is_kept, phases.{AsideLemmas.aside_is_kept, FollowedLemmas.followed_is_honest}}
use Rattle.disk_simulation.proofs.{phases.FollowedLemmas.{next_or_fails, takes_on}, joined.HeardLemmas.{error_is, heard_as_told, heard_if}}
use Rattle.disk_simulation.proofs.{joined.MarkedLemmas.{bits_by, marks_tell_nothing}, anew.SignsLemmas.signature_is_none}

pub each_done : EachDoneIsHonest
each_done plan sectors disk given bytes size run n host new report commands past sound below plain framed from_n (Together base down up followed hosted) takes s t lt here queued set =
    let kept : IsKeptOn n base host given commands past = hosted_on_is_kept n base host given commands past below hosted in
    followed_is_honest plan sectors base disk given down up bytes size run followed kept.careful n host new report commands past sound below plain framed from_n
    takes kept.joined s t lt here queued set
each_done plan sectors disk given bytes size run n host new report commands past sound below plain framed from_n (Apart aside) takes s t lt here queued set =
    let laws : AsideIsKept = aside_is_kept in
    absurd (true≢false (sym set ∙ laws.never_done n host new (marked bytes n) report past from_n aside takes s t here queued))

-- ## An error is a fault

record IsErrorBits (r : Result Fis FisFault) : Type 0 where
  frame : List ℕ
  is : r ≡ Ok (view.SetBits frame)
  error : has_error frame ≡ true

error_bits : (r : Result Fis FisFault) → reports r ≡ true → IsErrorBits r
error_bits (Ok (view.SetBits f)) is = record { frame = f; is = refl; error = is }
error_bits other is = cc is

marked_bits : (port : ℕ) (old g : List ℕ) → IsFrame old → port < 16 → seen old ≡ Ok (view.SetBits g)
    → (seen (marked old port) ≡ Ok (view.SetBits (marked old port))) × (g ≡ old)
unfolding seen
marked_bits port old g frame below is =
    let m : IsMarked port old (marked old port) = is_marked old port frame below in
    let parts = bits_by (kind_of old) (may_have (kind_of old) (length old)) (marked old port) old g is in
    (m.view ∙ parts.0, parts.1)

error_heard : (dev : ℕ) (v : DeviceView) (sound : Bool) (f : List ℕ) → is_error (field Bits Status f) ≡ true
    → (heard dev v sound (admitted dev (Ok (view.SetBits f)))).fault ≡ Some (fault.Device cause.TaskFile)
unfolding heard_fis
error_heard dev v sound f is =
    let status : ℕ = field Bits Status f in
    let error : ℕ = field Bits table.Error f in
    let mask : ℕ = field Bits SActive f in
    ap (λ (b : Bool). (if b then faulty (with_bits v.state status error) cause.TaskFile
    else named (completed mask v.slots) (with_bits v.state status error) mask).fault) is

pub error_faults : (n : ℕ) (host new : Host) (bytes : List ℕ) (report : TakeReport) → n < 16 → IsFrame bytes → TakesFrame host (marked bytes n) report new
    → report.ignored ≡ false → reports (seen bytes) ≡ true → is_some report.fault ≡ true
unfolding heard_report
error_faults n host new bytes report below plain takes heard_it fails =
    let frame : List ℕ = marked bytes n in
    let dev : ℕ = port_of (marked bytes n) in
    let v : DeviceView = view_of (port_of (marked bytes n)) host.port in
    let sound : Bool = is_sound host.memory host.port.commands (view_of (port_of (marked bytes n)) host.port).slots in
    let e : IsErrorBits (seen bytes) = error_bits (seen bytes) fails in
    let m = marked_bits n bytes e.frame plain below e.is in
    let status : field Bits Status (marked bytes n) ≡ field Bits Status bytes = (is_marked bytes n plain below).fields Bits Status (λ x. cc x) in
    let set : is_error (field Bits Status (marked bytes n)) ≡ true =
    ap is_error status ∙ error_is (field Bits Status bytes) ∙ subst (λ (f : List ℕ). has_error f ≡ true) m.1 e.error in
    let not_ignored : ignores (port_of (marked bytes n)) host.port (marked bytes n) ≡ false =
    heard_if host new (marked bytes n) report (ignores (port_of (marked bytes n)) host.port (marked bytes n)) refl takes heard_it in
    let bad : (heard_now host.port host.memory (port_of (marked bytes n)) (admitted (port_of (marked bytes n)) (seen (marked bytes n)))).fault ≡ Some (fault.Device cause.TaskFile) =
    ap (λ (r : Result Fis FisFault). (heard dev v sound (admitted dev r)).fault) m.0 ∙ error_heard dev v sound (marked bytes n) set in
    ap (λ (r : TakeReport). is_some r.fault) (takes.heard not_ignored).reports ∙ ap (λ (o : Option Fault). is_some (device_cause o)) bad

-- ## What comes next

pub none_is : {X : Type 0} (o : Option X) → is_some o ≡ false → o ≡ None
none_is None is = refl
none_is (Some x) is = cc is

module _ (plan : DiskPlan) (sectors : ℕ) (base disk given : List Happening) (down up : List (List ℕ)) (bytes : List ℕ) (size : IsSize plan sectors)
    (run : IsDiskRun plan sectors disk) (f : IsFollowed base disk given down [] (bytes ∷ up)) (n : ℕ) (host new : Host) (report : TakeReport)
    (commands : ℕ → SlotCommand) (past : History) (sound : IsHost host) (below : n < 15) (plain : IsFrame bytes) (framed : IsFrame (marked bytes n))
    (from_n : port_of (marked bytes n) ≡ n) (hosted : IsHostedOn n base host given commands past) (takes : TakesFrame host (marked bytes n) report new)
    (heard_it : report.ignored ≡ false) where
  small : n < 16
  small = omega (arith, below)

  low : port_of (marked bytes n) < 15
  low = subst (λ (m : ℕ). m < 15) (sym from_n) below

  pub hosted_on : IsNextRight given bytes → report.fault ≡ None → report.stopped ≡ None → (resetting : Bool)
      → (view_of (port_of (marked bytes n)) host.port).state.resetting ≡ resetting
      → IsHostedOn n base new (given ++ Sent bytes ∷ []) commands (own n (touched host (Took (marked bytes n) report)) ++ past)
  hosted_on right fine goes true resetting =
      let well : IsSignedWell host (marked bytes n) report new = record { takes = takes; resetting = resetting; heard = heard_it } in
      let none : own n (touched host (Took (marked bytes n) report)) ≡ [] =
      subst (λ (m : ℕ). own m (touched host (Took (marked bytes n) report)) ≡ []) from_n (signature_is_none host new (marked bytes n) report well).none in
      subst (λ (h : History). IsHostedOn n base new (given ++ Sent bytes ∷ []) commands (h ++ past)) (sym none)
      (anew.signs host new bytes report given commands past sound plain framed from_n well right.right hosted)
  hosted_on right fine goes false steady =
      let well : IsTakenWell host (marked bytes n) report new =
      record { takes = takes; steady = steady; heard = heard_it; no_fault = fine; no_stop = goes } in
      let kept : IsKeptOn n base host given commands past = hosted_on_is_kept n base host given commands past below hosted in
      let a : IsHeardAlike (ledger given) bytes (marked bytes n) = marks_tell_nothing (ledger given) bytes n plain small in
      let told_so : IsToldSo host (marked bytes n) report past =
      heard_as_told host new (marked bytes n) report commands past (ledger given) sound low well
      (subst (λ (m : ℕ). IsHistoryOf m host past) (sym from_n) kept.joined.history) kept.joined.same (a.right right.right) in
      let events : own n (touched host (Took (marked bytes n) report)) ≡ told (seen (marked bytes n)) =
      subst (λ (m : ℕ). own m (touched host (Took (marked bytes n) report)) ≡ told (seen (marked bytes n))) from_n told_so.events in
      subst (λ (h : History). IsHostedOn n base new (given ++ Sent bytes ∷ []) commands (h ++ past)) (sym events)
      (anew.hears host new bytes report given commands past sound plain framed from_n well right.right right.short hosted)

  together : IsNextRight given bytes → report.fault ≡ None → report.stopped ≡ None
      → AreTogether n base disk (given ++ Sent bytes ∷ []) down up new commands (own n (touched host (Took (marked bytes n) report)) ++ past)
  together right fine goes =
      let on = takes_on base disk given down up bytes f in
      record {
        followed = elim on [
          | inl fails ↦ absurd (true≢false (sym fails ∙ right.right.fine))
          | inr next ↦ next
        ];
        hosted = hosted_on right fine goes (view_of (port_of (marked bytes n)) host.port).state.resetting refl;
      }

  aside : is_some report.fault ≡ true → IsAside n new (own n (touched host (Took (marked bytes n) report)) ++ past)
  aside is = let laws : AsideIsKept = aside_is_kept in laws.starts n host new (Took (marked bytes n) report) past small takes (inl (from_n, is))

  by_report : (faults stops : Bool) → is_some report.fault ≡ faults → is_some report.stopped ≡ stops
      → AreTogether n base disk (given ++ Sent bytes ∷ []) down up new commands (own n (touched host (Took (marked bytes n) report)) ++ past)
      ⊎ IsAside n new (own n (touched host (Took (marked bytes n) report)) ++ past)
  by_report true stops fault stop = inr (aside fault)
  by_report false true fault stop =
      let laws : AsideIsKept = aside_is_kept in
      inr (laws.starts n host new (Took (marked bytes n) report) past small takes (inr stop))
  by_report false false fault stop =
      let kept : IsKeptOn n base host given commands past = hosted_on_is_kept n base host given commands past below hosted in
      elim (next_or_fails plan sectors base disk given down up bytes size run f kept.careful) [
        | inl fails ↦ inr (aside (error_faults n host new bytes report small plain takes heard_it fails))
        | inr right ↦ inl (together right (none_is report.fault fault) (none_is report.stopped stop))
      ]

  takes_next : AreTogether n base disk (given ++ Sent bytes ∷ []) down up new commands (own n (touched host (Took (marked bytes n) report)) ++ past)
      ⊎ IsAside n new (own n (touched host (Took (marked bytes n) report)) ++ past)
  takes_next = by_report (is_some report.fault) (is_some report.stopped) refl refl

pub takes_in_each_phase : TakesInEachPhase
takes_in_each_phase plan sectors base disk given down up bytes size run f n host new report commands past sound below plain framed from_n hosted takes heard_it =
    takes_next plan sectors base disk given down up bytes size run f n host new report commands past sound below plain framed from_n hosted takes heard_it
