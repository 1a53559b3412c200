-- What is issued in a slot was supplied for it since the machine opened.
use Rattle.std.proofs.Common.{◌≡◌, ℕ, ◌<◌, Bool, true, false, List, [], ◌∷◌, Some, refl, sym, ◌∙◌, subst}
use Rattle.slots.specs.Slots.{Issue, issue_at}
use Rattle.ahci_controller.specs.States.{ControllerState}
use Rattle.controller_laws.specs.{CoreEvents.{AreCoreEvents, of_event}, Events.{Does as Calls, Event, IsController, Runs}, Sources.Sources}
use Rattle.controller_laws.specs.Sources.{sources_after, sources_by}
use Rattle.machine_theorem.specs.Commands.{issues_in}
use Rattle.machine_theorem.proofs.{CoreStems.call_stems, Falls.core_events, Still.one_kept, Stood.{HasIssued, event_has}}
use Rattle.machine_theorem.proofs.Falls as falls

abbrev pub HasSource : ℕ → ControllerState → Sources → Type 0
HasSource s c was = (i : Issue) → issue_at c.core.slots s ≡ Some i → HasIssued was

one_has : (e : Event) (s : ℕ) (old new : ControllerState) (does : Calls old e new) → s < 32 → AreCoreEvents old.core (of_event old e new does) new.core → (was : Sources) → HasSource s old was
    → (b : Bool) → issues_in s e ≡ b → HasSource s new (sources_by s old e new does was)
one_has e s old new does low are was has true is i there = event_has e s old new does was is
one_has e s old new does low are was has false is i there =
    let stem = call_stems e s old new does low are is i there in
    let known = has stem.issue stem.was in
    (known.0, one_kept s old e new does was is ∙ known.1)

first_kept : (events : List Event) (old new : ControllerState) → Runs old events new → IsController old
first_kept [] old new run = run.0
first_kept (e ∷ events) old new run = run.0

pub all_have : falls.Laws → (s : ℕ) → s < 32 → (events : List Event) (old new : ControllerState) (run : Runs old events new) (was : Sources) → HasSource s old was
    → HasSource s new (sources_after s was old events new run)
all_have laws s low [] old new run was has = subst (λ (c : ControllerState). HasSource s c was) (sym run.1) has
all_have laws s low (e ∷ events) old new run was has =
    let mid : ControllerState = run.1.0 in
    let does : Calls old e mid = run.1.1 in
    let are = core_events laws old mid e run.0 (first_kept events mid new run.1.2) does in
    all_have laws s low events mid new run.1.2 (sources_by s old e mid does was) (one_has e s old mid does low are was has (issues_in s e) refl)
