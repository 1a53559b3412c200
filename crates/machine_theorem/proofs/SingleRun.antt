-- Over each stretch of calls behind the command of a slot, while it is issued still, the Data that go to its device are of this slot, in order.
use Rattle.std.proofs.Common.{◌≡◌, ℕ, ◌+◌, ◌<◌, true, false, List, [], ◌∷◌, refl, sym, ap, subst, ◌∙◌, arith, Option, Some, None}
use Rattle.std.specs.Prelude.{is_some}
use Rattle.slots.specs.Slots.{Issue, issue_at}
use Rattle.ahci_controller.specs.States.{ControllerState}
use Rattle.controller_laws.specs.{CoreEvents.{AreCoreEvents, of_event}, Events.{Does, Event, IsController, Runs}}
use Rattle.machine_theorem.specs.{Commands.{AreNotIssued, issues_in}, SingleData.{AllUnqueued, HasNoQueued, SingleDataGoInOrder, went_by, went_in}}
use Rattle.machine_theorem.proofs.{CoreStems.call_stems, SingleCalls.{Going, begins, goes_next, goes_on}, Stems.Stem, Waiting.{Laws, core_events}}
use Rattle.machine_theorem.proofs.Waiting.{first_kept}

pub the_some : (o : Option Issue) → is_some o ≡ true → (j : Issue) × (o ≡ Some j)
the_some None e = absurd (cc)
the_some (Some j) e = (j, refl)

module _ (laws : Laws) (n : ℕ) (low : n < 16) (s : ℕ) (slot_low : s < 32) where
  -- what is issued behind a call that issues nothing there was issued before it
  pub there_before : (e : Event) (old new : ControllerState) → IsController old → IsController new → Does old e new → issues_in s e ≡ false → is_some (issue_at new.core.slots s) ≡ true
      → is_some (issue_at old.core.slots s) ≡ true
  there_before e old new k l does clear some =
      let j = the_some (issue_at new.core.slots s) some in
      let are : AreCoreEvents old.core (of_event old e new does) new.core = core_events laws n low old new e k l does in
      let stem : Stem (issue_at old.core.slots s) j.0 = call_stems e s old new does slot_low are clear j.0 j.1 in
      ap is_some stem.was

  pub there_first : (later : List Event) (old now : ControllerState) (run : Runs old later now) → AreNotIssued s later → is_some (issue_at now.core.slots s) ≡ true
      → is_some (issue_at old.core.slots s) ≡ true
  there_first [] old now run none some = ap (λ (c : ControllerState). is_some (issue_at c.core.slots s)) (sym run.1) ∙ some
  there_first (e ∷ later) old now run none some =
      there_before e old run.1.0 run.0 (first_kept later run.1.0 now run.1.2) run.1.1 none.0 (there_first later run.1.0 now run.1.2 none.1 some)

  first_none : (later : List Event) (old now : ControllerState) (run : Runs old later now) → AllUnqueued n old later now run → HasNoQueued n old
  first_none [] old now run none = none
  first_none (e ∷ later) old now run none = none.0

  -- the command goes on
  pub go_on : (later : List Event) (old now : ControllerState) (run : Runs old later now) → AreNotIssued s later → AllUnqueued n old later now run → is_some (issue_at now.core.slots s) ≡ true
      → (t : ℕ) → Going n s t old → Going n s (t + went_in n later) now
  go_on [] old now run clear none some t g = subst (λ (k : ℕ). Going n s k now) (let all : t ≡ t + 0 = omega arith in all) (subst (Going n s t) (sym run.1) g)
  go_on (e ∷ later) old now run clear none some t g =
      let mid : ControllerState = run.1.0 in
      let kept_mid : IsController mid = first_kept later mid now run.1.2 in
      let j = the_some (issue_at mid.core.slots s) (there_first later mid now run.1.2 clear.1 some) in
      let one : Going n s (t + went_by n e) mid =
      goes_on laws n low s slot_low t e old mid run.0 kept_mid run.1.1 clear.0 none.0 (first_none later mid now run.1.2 none.1) j.0 j.1 g in
      subst (λ (k : ℕ). Going n s k now) (let all : t + went_by n e + went_in n later ≡ t + (went_by n e + went_in n later) = omega arith in all)
      (go_on later mid now run.1.2 clear.1 none.1 some (t + went_by n e) one)

  last_none : (later : List Event) (old now : ControllerState) (run : Runs old later now) → AllUnqueued n old later now run → HasNoQueued n now
  last_none [] old now run none = subst (HasNoQueued n) (sym run.1) none
  last_none (e ∷ later) old now run none = last_none later run.1.0 now run.1.2 none.1

  last_kept : (later : List Event) (old now : ControllerState) (run : Runs old later now) → IsController now
  last_kept [] old now run = subst IsController (sym run.1) run.0
  last_kept (e ∷ later) old now run = last_kept later run.1.0 now run.1.2

pub in_order : Laws → SingleDataGoInOrder
in_order laws dev low slot slot_low fis later old at new run commanded past told clear none some number frame message line does =
    let mid : ControllerState = run.1.0 in
    let kept_mid : IsController mid = first_kept later mid at run.1.2 in
    let first : Going dev slot 0 mid =
    begins laws dev low slot slot_low fis old mid run.0 kept_mid run.1.1 commanded none.0 (first_none laws dev low slot slot_low later mid at run.1.2 none.1) past told in
    let g : Going dev slot (went_in dev later) at =
    subst (λ (k : ℕ). Going dev slot k at) (let same : 0 + went_in dev later ≡ went_in dev later = omega arith in same)
    (go_on laws dev low slot slot_low later mid at run.1.2 clear none.1 some 0 first) in
    goes_next laws dev low slot slot_low (went_in dev later) at new number frame message line does (last_kept laws dev low slot slot_low later mid at run.1.2)
    (last_none laws dev low slot slot_low later mid at run.1.2 none.1) g
