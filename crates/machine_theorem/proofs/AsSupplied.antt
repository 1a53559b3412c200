-- A FIS that went from a slot in which nothing was issued since is that of the command that was supplied for it.
use Rattle.std.proofs.Common.{◌≡◌, ℕ, ◌<◌, Bool, List, ◌∷◌, ◌++◌, append_assoc, Some, sym, ap, ◌∙◌}
use Rattle.slots.specs.Slots.{Issue, issue_at}
use Rattle.ahci_controller.specs.declared.next.Next.TheVariants as next
use Rattle.controller_laws.specs.Events as call
use Rattle.controller_laws.specs.{Events.Event, Sources.no_sources}
use Rattle.ahci_machine.specs.States.{IsOpeningMachine, MachineState}
use Rattle.machine_laws.specs.{ControllerLaws.{ControllerRuns, OpensSo, RunsRuled, calls_in}, Deeds.Deed, Feeding.OrdersAreIssued}
use Rattle.machine_theorem.specs.{Commands.AreNotIssued, Given.IsWhole, Standing.IsAsSupplied}
use Rattle.machine_theorem.proofs.AtEnd as end
use Rattle.machine_theorem.proofs.Falls as falls
use Rattle.machine_theorem.proofs.{HasSource.{HasSource, all_have}, Ordered.first_ruled, SentOnce.{kept_of, none_told}, Stretch.Stretch}
use Rattle.machine_theorem.proofs.Still as still

pub record Laws : Type 0 where
  pub end : end.Laws
  pub orders : OrdersAreIssued
  pub kept : still.Laws

-- where the FIS went in a stretch, and nothing was issued since
pub record Went (calls : List Event) (dev slot : ℕ) (fis : List ℕ) : Type 0 where
  pub before : List Event
  pub later : List Event
  pub is : calls ≡ before ++ call.Turned (next.Order dev slot fis) ∷ later
  pub alone : AreNotIssued slot later

-- over what led to a stretch, and then the stretch
pub supplied_in : falls.Laws → still.Laws → (ports : ℕ) (legacy : Bool) (old : MachineState) → IsOpeningMachine ports legacy old → (before : List Deed) (at : MachineState) (first : RunsRuled old before at)
    → (deeds : List Deed) (now : MachineState) (run : RunsRuled at deeds now) → (slot : ℕ) → slot < 32 → (issue : Issue) → issue_at now.controller.core.slots slot ≡ Some issue
    → (whole : IsWhole old before at first deeds now run) → (dev : ℕ) (fis : List ℕ) → Went (calls_in at deeds now run) dev slot fis → IsAsSupplied old (before ++ deeds) now whole.all slot fis
supplied_in facts kept ports legacy old opening before at first deeds now run slot low issue there whole dev fis went =
    let rules = first_ruled before old at first in
    let opens : OpensSo old = facts.opens ports legacy old opening rules in
    let calls : List Event = calls_in old (before ++ deeds) now whole.all in
    let start : List Event = calls_in old before at first in
    let runs : ControllerRuns old (before ++ deeds) now whole.all = facts.runs old (before ++ deeds) now whole.all opens.due in
    let none : HasSource slot old.controller no_sources = λ i is. absurd (none_told old.controller slot (kept_of old rules) low opens.told i is) in
    let has = all_have facts slot low calls old.controller now.controller runs.calls no_sources none issue there in
    let is : calls ≡ (start ++ went.before) ++ call.Turned (next.Order dev slot fis) ∷ went.later =
    whole.calls ∙ ap (λ (l : List Event). start ++ l) went.is ∙ sym (append_assoc start went.before (call.Turned (next.Order dev slot fis) ∷ went.later)) in
    record {
      runs = runs;
      source = has.0;
      is = has.1;
      supplied = still.still kept dev slot fis low went.later went.alone (start ++ went.before) calls is old.controller now.controller runs.calls no_sources (opens.sources slot low) has.0 has.1;
    }

pub supplied_at : (laws : Laws) (s : Stretch) (issue : Issue) → issue_at s.now.controller.core.slots s.tag ≡ Some issue → (whole : IsWhole s.old s.before s.at s.first s.deeds s.now s.run)
    → (dev : ℕ) (fis : List ℕ) → Went (calls_in s.at s.deeds s.now s.run) dev s.tag fis → IsAsSupplied s.old (s.before ++ s.deeds) s.now whole.all s.tag fis
supplied_at laws s issue there whole dev fis went =
    supplied_in laws.end.slots.facts.falls laws.kept s.ports s.legacy s.old s.opening s.before s.at s.first s.deeds s.now s.run s.tag s.low issue there whole dev fis went
