-- For `stays_unasked`. A fault of a disk's FIS sets the device aside, and the driver does not look for it.
use Rattle.std.proofs.Common.{◌≡◌, ℕ, ◌≤◌, ◌⊎◌, Bool, true, false, List, refl, sym, ◌∙◌, ap, subst, inl, inr, arith, Option, Some, None, Result}
use Rattle.std.specs.Prelude.{◌&&◌, is_none, if◌then◌else◌, is_some, nat_lt}
use Rattle.std.proofs.lemmas.{Bool.{cases_Bool, false≢true, true≢false}, Bool.Decides.nat_tests}
use Rattle.fis_view.specs.{Frames.marked, Seen.seen, Table.{D2h, Status, field}, declared.{view.Fis.Fis, view.FisFault.FisFault}}
use Rattle.fis_view.specs.Table as table
use Rattle.fis_view.specs.declared.view.Fis.TheVariants as view
use Rattle.host_memory.specs.Memory.{Memory}
use Rattle.slots.specs.{Commands.answer_for, Slots.{DeviceSlots, Issue, match_some, own_issue, waiting}, declared.answer.Answered.TheVariants.Nobody}
use Rattle.hba_fbs.specs.declared.hearing.Happening.TheVariants as happening
use Rattle.hba_fbs.specs.{Hearing.{answer_fault, heard_d2h, heard_fis, heard_register, quietly}, Status.after_reset}
use Rattle.hba_fbs.specs.Taking.{Hears, admitted, device_cause, heard, heard_now, heard_report, ignores, is_ignored, place_in, port_of, row_for}
use Rattle.hba_fbs.specs.{Tables.is_sound, Views.{DeviceView, Port, view_of}, declared.{report.TakeReport.TakeReport, state.DeviceState.DeviceState}}
use Rattle.disk_model.specs.{Ends.IsRight, Ledger.{Ledger, ledger}}
use Rattle.disk_simulation.specs.Files.{IsOfDisk}
use Rattle.disk_simulation.proofs.Door.{disk_marked, marks_tell_nothing}
use Rattle.hba_driver.specs.{declared.plan.Device.TheVariants.Absent, Drivers.{Driver, device_at}, Events.IsSoundHost, HostTurns.{Does, Host, Took}}
use Rattle.hba_driver.specs.Steady.{detects}
use Rattle.hba_driver.proofs.Door.{heard_as}
use Rattle.disk_recovery.specs.Unasked.{FaultsSetAside, OwesSignature}
use Rattle.disk_recovery.proofs.unasked.UnaskedLemmas.{none_at, signs_only}

-- ---- nothing is wrong with the signature of a device of which nothing is issued

answers_fine : (own : DeviceSlots) (o : Option ℕ) → ((s : ℕ) → own_issue own s ≡ None) → answer_fault (match_some o Nobody (λ slot. match_some (own_issue own slot) Nobody (answer_for slot))) ≡ None
answers_fine own None none = refl
answers_fine own (Some slot) none = ap (λ (i : Option Issue). answer_fault (match_some i Nobody (answer_for slot))) (none slot)

module _ (own : DeviceSlots) (state : DeviceState) (none : (s : ℕ) → own_issue own s ≡ None) where
  register_if : (b : Bool) (error : ℕ) → (if b then quietly (after_reset state 0x50 error) happening.Nothing else heard_d2h own state 0x50 error).fault ≡ None
  register_if true error = refl
  register_if false error = answers_fine own (waiting own) none

  register_fine : (status error : ℕ) → status ≡ 0x50 → (heard_register own state status error).fault ≡ None
  register_fine status error is = ap (λ (x : ℕ). (heard_register own state x error).fault) is ∙ register_if state.resetting error

  fis_fine : (sound : Bool) (f : List ℕ) → field D2h Status f ≡ 0x50 → (heard_fis own state sound (view.RegD2H f)).fault ≡ None
  unfolding heard_fis
  fis_fine sound f is = register_fine (field D2h Status f) (field D2h table.Error f) is

signed_fine : (dev : ℕ) (v : DeviceView) (sound : Bool) (k : Ledger) (r : Result Fis FisFault) → ((s : ℕ) → own_issue v.slots s ≡ None) → OwesSignature k → IsRight k r → IsOfDisk r → (heard dev v sound (admitted dev r)).fault ≡ None
signed_fine dev v sound k r none owes right mine =
    let s = signs_only k r owes right mine in
    subst (λ (x : Result Fis FisFault). (heard dev v sound (admitted dev x)).fault ≡ None) (sym s.is) (fis_fine v.slots v.state none sound s.frame s.status)

-- ---- a fault

-- what a report says of a frame that is not ignored
pub report_fault : (dev : ℕ) (row : Option ℕ) (port : Port) (memory : Memory) (fis : Option Fis) → (heard_report dev (place_in row fis) (heard_now port memory dev fis)).fault ≡ device_cause (heard_now port memory dev fis).fault
unfolding heard_report
report_fault dev row port memory fis = refl

not_ignored : (old : Host) (frame : List ℕ) (report : TakeReport) (new : Host) (b : Bool) → ignores (port_of frame) old.port frame ≡ b → Does old (Took frame report) new → is_some report.fault ≡ true → b ≡ false
not_ignored old frame report new false is does faulty = refl
not_ignored old frame report new true is does faulty = absurd (false≢true (sym (ap (λ (r : TakeReport). is_some r.fault) (does.ignored is).reports) ∙ faulty))

runs : (old : Host) (frame : List ℕ) (b : Bool) → old.port.registers.started ≡ b → ignores (port_of frame) old.port frame ≡ false → b ≡ true
runs old frame true is heard_is = refl
runs old frame false is heard_is =
    absurd (true≢false (sym (ap (λ (s : Bool). is_ignored (s && is_none old.port.errors.port) (view_of (port_of frame) old.port) (seen frame)) is)
    ∙ heard_as (port_of frame) old.port frame heard_is))

open_or : (k : ℕ) → (k ≤ 6) ⊎ (7 ≤ k)
open_or k = elim (cases_Bool (nat_lt k 7)) [
  | inl low ↦ inl (grind (arith, nat_tests))
  | inr high ↦ inr (grind (arith, nat_tests))
]

opened : (h : Host) → IsSoundHost h → h.port.registers.started ≡ true → 7 ≤ h.driver.plan.opened
opened h sound starts = elim (open_or h.driver.plan.opened) [
  | inl low ↦ absurd (false≢true (sym (sound.registers.stopped low) ∙ starts))
  | inr above ↦ above
]

pub faults_set_aside : FaultsSetAside
faults_set_aside n base old plain report new given commands touches below framed port does right mine served unasked faulty =
    let heard_is : ignores (port_of (marked plain n)) old.port (marked plain n) ≡ false =
    not_ignored old (marked plain n) report new (ignores (port_of (marked plain n)) old.port (marked plain n)) refl does faulty in
    let hears : Hears (port_of (marked plain n)) old.port old.memory (marked plain n) report new.port new.memory = does.heard heard_is in
    let told : report.fault ≡ device_cause (heard_now old.port old.memory (port_of (marked plain n)) (admitted (port_of (marked plain n)) (seen (marked plain n)))).fault =
    ap (λ (r : TakeReport). r.fault) hears.reports ∙ report_fault (port_of (marked plain n)) (row_for old.port (port_of (marked plain n))) old.port old.memory
    (admitted (port_of (marked plain n)) (seen (marked plain n))) in
    let shown : (view_of n new.port).fault ≡ report.fault = subst (λ (m : ℕ). (view_of m new.port).fault ≡ report.fault) port (ap (λ (v : DeviceView). v.fault) hears.own ∙ sym told) in
    let running : old.port.registers.started ≡ true = runs old (marked plain n) old.port.registers.started refl heard_is in (
      record {
        opened = subst (λ (d : Driver). 7 ≤ d.plan.opened) (sym does.driver) (opened old served.sound running);
        fault = ap is_some shown ∙ faulty;
        apart = λ well. absurd (true≢false well);
      },
      ap (λ (d : Driver). detects n d.plan.asked d.plan.order) does.driver ∙ unsought told,
    )
  where
    frame_right : IsRight (ledger given) (seen (marked plain n))
    frame_right = (marks_tell_nothing (ledger given) plain n framed (omega (arith, below))).right right

    frame_mine : IsOfDisk (seen (marked plain n))
    frame_mine = disk_marked plain n framed (omega (arith, below)) mine

    fine_absent : device_at old.driver.plan n ≡ Absent → (heard_now old.port old.memory (port_of (marked plain n)) (admitted (port_of (marked plain n)) (seen (marked plain n)))).fault ≡ None
    fine_absent absent =
        signed_fine (port_of (marked plain n)) (view_of (port_of (marked plain n)) old.port) (is_sound old.memory old.port.commands (view_of (port_of (marked plain n)) old.port).slots) (ledger given) (seen (marked plain n))
        (subst (λ (m : ℕ). (s : ℕ) → own_issue (view_of m old.port).slots s ≡ None) (sym port) (none_at n old touches below served.served served.tended absent)) (unasked absent) frame_right frame_mine

    unsought : report.fault ≡ device_cause (heard_now old.port old.memory (port_of (marked plain n)) (admitted (port_of (marked plain n)) (seen (marked plain n)))).fault → detects n old.driver.plan.asked old.driver.plan.order ≡ false
    unsought told = elim (cases_Bool (detects n old.driver.plan.asked old.driver.plan.order)) [
      | inl on ↦ absurd (false≢true (sym (ap is_some (told ∙ ap device_cause (fine_absent (served.tended.plan.order on)))) ∙ faulty))
      | inr off ↦ off
    ]
