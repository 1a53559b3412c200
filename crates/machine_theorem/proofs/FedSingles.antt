-- Behind the command of a slot, while it is issued still, the Data FISes that go to its device are of this slot, in order, and were read for it.
use Rattle.std.proofs.Common.{◌≡◌, ℕ, ◌+◌, ◌<◌, Bool, true, false, List, [], ◌∷◌, ◌++◌, drop, length, refl, sym, subst, arith}
use Rattle.std.proofs.lemmas.List.{length-append}
use Rattle.std.specs.Prelude.{◌==◌, is_some, if◌then◌else◌}
use Rattle.slots.specs.Slots.{issue_at}
use Rattle.ahci_controller.specs.declared.feeding.Fed.TheVariants as fed_answer
use Rattle.ahci_controller.specs.{States.ControllerState, declared.latch.Edge.Edge}
use Rattle.controller_laws.specs.Events as call
use Rattle.controller_laws.specs.Events.{Event, Runs}
use Rattle.ahci_machine.specs.States.{HasRules, MachineState}
use Rattle.ahci_machine.specs.declared.act.Act.TheVariants as act
use Rattle.machine_laws.specs.{ControllerLaws.{ControllerRuns, RunsAreCalls, RunsRuled, calls_in}, Controllers.{ControllerGoesOn, GathersDue, StaysDue}}
use Rattle.machine_laws.specs.{Controllers.deed_calls, Deeds.{Deed, Does, Moved}}
use Rattle.machine_laws.specs.Feeding.{IsReading, came_by}
use Rattle.machine_theorem.specs.{Commands.AreNotIssued, Ending.{AllUnqueued, HasNoQueued}, PioIn.AllKeepUnqueued, SingleData.{GoesNext, went_in}}
use Rattle.machine_theorem.specs.{SingleWrites.{AllFed, IsFedBy, IsFedNext, went_to}, Writes.payloads}
use Rattle.machine_theorem.specs.SingleData.{AllUnqueued as AllWithout}
use Rattle.machine_theorem.proofs.{FedFor.{Fits, Good, fits, run_good}, Ordered.first_ruled, SingleCalls.{Going, goes_next}}
use Rattle.machine_theorem.proofs.SingleRun.{go_on, there_first}
use Rattle.machine_theorem.proofs.FedFor as fed_for
use Rattle.machine_theorem.proofs.Waiting as waiting

pub record Laws : Type 0 where
  pub fed : fed_for.Laws
  pub singles : waiting.Laws
  pub runs : RunsAreCalls

-- ---- how many bytes go

pub went_both : (dev : ℕ) (xs ys : List Event) → went_in dev (xs ++ ys) ≡ went_in dev xs + went_in dev ys
went_both dev [] ys = omega arith
went_both dev (e ∷ xs) ys = let rest = went_both dev xs ys in omega (arith, rest)

went_if : (b : Bool) (frame : List ℕ) (frames : List (List ℕ)) (n : ℕ) → length (payloads frames) ≡ n
    → length (payloads (if b then frame ∷ frames else frames)) ≡ (if b then length (drop 4 frame) else 0) + n
went_if true frame frames n is = let long = length-append (drop 4 frame) (payloads frames) in omega (arith, long, is)
went_if false frame frames n is = omega (arith, is)

pub went_long : (dev : ℕ) (events : List Event) → length (payloads (went_to dev events)) ≡ went_in dev events
went_long dev [] = refl
went_long dev (call.Gathered d number frame (fed_answer.Goes message line) ∷ later) = went_if (d == dev) frame (went_to dev later) (went_in dev later) (went_long dev later)
went_long dev (call.Gathered d number frame other ∷ later) = let rest = went_long dev later in omega (arith, rest)
went_long dev (call.Took frame took ∷ later) = let rest = went_long dev later in omega (arith, rest)
went_long dev (call.Left frame why ∷ later) = let rest = went_long dev later in omega (arith, rest)
went_long dev (call.Wrote offset value written ∷ later) = let rest = went_long dev later in omega (arith, rest)
went_long dev (call.WroteWide offset width value written ∷ later) = let rest = went_long dev later in omega (arith, rest)
went_long dev (call.Supplied slot number bytes supply ∷ later) = let rest = went_long dev later in omega (arith, rest)
went_long dev (call.Missed slot number supply ∷ later) = let rest = went_long dev later in omega (arith, rest)
went_long dev (call.Turned said ∷ later) = let rest = went_long dev later in omega (arith, rest)
went_long dev (call.Said write ∷ later) = let rest = went_long dev later in omega (arith, rest)
went_long dev (call.NotThere d number fed ∷ later) = let rest = went_long dev later in omega (arith, rest)

-- ---- nothing is issued

pub none_first : (s : ℕ) (xs ys : List Event) → AreNotIssued s (xs ++ ys) → AreNotIssued s xs
none_first s [] ys none = tt
none_first s (x ∷ xs) ys none = (none.0, none_first s xs ys none.1)

pub none_last : (s : ℕ) (xs ys : List Event) → AreNotIssued s (xs ++ ys) → AreNotIssued s ys
none_last s [] ys none = none
none_last s (x ∷ xs) ys none = none_last s xs ys none.1

-- ---- no queued command

-- at the moments of some calls
moments : (dev : ℕ) (events : List Event) (old new : ControllerState) (run : Runs old events new) → AllUnqueued dev old events new run → HasNoQueued dev new
    → AllWithout dev old events new run
moments dev [] old new run none last = subst (HasNoQueued dev) run.1 last
moments dev (e ∷ later) old new run none last = (none.0, moments dev later run.1.0 new run.1.2 none.2 last)

at_first : (dev : ℕ) (events : List Event) (old new : ControllerState) (run : Runs old events new) → AllWithout dev old events new run → HasNoQueued dev old
at_first dev [] old new run none = none
at_first dev (e ∷ later) old new run none = none.0

-- where a run of a machine begins, if it is so where it ends
pub unqueued_first : ControllerGoesOn → StaysDue → (many : Bool) (n dev : ℕ) (deeds : List Deed) (at now : MachineState) (run : RunsRuled at deeds now) → GathersDue at
    → AllKeepUnqueued many n dev at deeds now run → HasNoQueued dev now.controller → HasNoQueued dev at.controller
unqueued_first goes stays many n dev [] at now run due keeps last = subst (λ (m : MachineState). HasNoQueued dev m.controller) run.1 last
unqueued_first goes stays many n dev (deed ∷ later) at now run due keeps last =
    let mid : MachineState = run.1.0 in
    let calls : Runs at.controller (deed_calls at deed mid run.1.1) mid.controller = goes at deed mid run.1.1 run.0 (first_ruled later mid now run.1.2) due in
    let rest : HasNoQueued dev mid.controller = unqueued_first goes stays many n dev later mid now run.1.2 (stays at deed mid run.1.1 due) keeps.1 last in
    at_first dev (deed_calls at deed mid run.1.1) at.controller mid.controller calls
    (moments dev (deed_calls at deed mid run.1.1) at.controller mid.controller calls (keeps.0.unqueued calls) rest)

-- ---- a run

module _ (laws : Laws) (many : Bool) (port n : ℕ) (low : n < 16) (s : ℕ) (slot_low : s < 32) where
  -- what goes by a deed
  fed_at : (t : ℕ) (supplied : List ℕ) (old : MachineState) (message : Bool) (line : Edge) (new : MachineState) (does : Does old (Moved (act.Gathers n (fed_answer.Goes message line))) new)
      → HasRules old → HasRules new → Good laws.fed old → IsReading old n supplied → HasNoQueued n old.controller → Going n s t old.controller
      → IsFedNext n s t supplied old n message line new does
  fed_at t supplied old message line new does rules rules_new good reading plain g =
      let run : Runs old.controller (deed_calls old (Moved (act.Gathers n (fed_answer.Goes message line))) new does) new.controller =
      laws.fed.goes old (Moved (act.Gathers n (fed_answer.Goes message line))) new does rules rules_new good.due in
      let next : GoesNext old.controller n s t does.does.gathering.bytes =
      goes_next laws.singles n low s slot_low t old.controller run.1.0 does.does.gathering.feed.number does.does.gathering.bytes message line run.1.1 run.0 plain g in
      let it : Fits supplied old n message line new does s t next.len = fits laws.fed old rules good n supplied reading message line new does s t next.len next.is in
      record { next = next; slot_is = it.slot_is; offset_is = it.offset_is; len_is = it.len_is; bytes = it.bytes }

  fed_by : (t : ℕ) (supplied : List ℕ) (old : MachineState) (deed : Deed) (new : MachineState) (does : Does old deed new) → HasRules old → HasRules new → Good laws.fed old → IsReading old n supplied
      → HasNoQueued n old.controller → Going n s t old.controller → IsFedBy n s t supplied old deed new does
  fed_by t supplied old (Moved (act.Gathers d (fed_answer.Goes message line))) new does rules rules_new good reading plain g = λ own.
      subst (λ (k : ℕ). (it : Does old (Moved (act.Gathers k (fed_answer.Goes message line))) new) → IsFedNext n s t supplied old k message line new it) (sym own)
      (λ it. fed_at t supplied old message line new it rules rules_new good reading plain g) does
  fed_by t supplied old (Moved (act.Gathers d other)) new does rules rules_new good reading plain g = tt
  fed_by t supplied old (Moved a) new does rules rules_new good reading plain g = tt
  fed_by t supplied old deed new does rules rules_new good reading plain g = tt

  pub record Along (t : ℕ) (supplied : List ℕ) (old : MachineState) (deeds : List Deed) (now : MachineState) (run : RunsRuled old deeds now) : Type 0 where
    pub fed : AllFed n s t supplied old deeds now run
    pub last : Going n s (t + went_in n (calls_in old deeds now run)) now.controller

  pub fed_along : (deeds : List Deed) (old now : MachineState) (run : RunsRuled old deeds now) → Good laws.fed old → (supplied : List ℕ) → IsReading old n supplied
      → AreNotIssued s (calls_in old deeds now run) → AllKeepUnqueued many port n old deeds now run → HasNoQueued n now.controller → is_some (issue_at now.controller.core.slots s) ≡ true
      → (t : ℕ) → Going n s t old.controller
      → Along t supplied old deeds now run
  fed_along [] old now run good supplied reading clear keeps none some t g = record {
    fed = tt;
    last = subst (λ (k : ℕ). Going n s k now.controller) (let same : t ≡ t + 0 = omega arith in same) (subst (λ (m : MachineState). Going n s t m.controller) (sym run.1) g);
  }
  fed_along (deed ∷ later) old now run good supplied reading clear keeps none some t g =
      let mid : MachineState = run.1.0 in
      let rules : HasRules mid = first_ruled later mid now run.1.2 in
      let calls : List Event = deed_calls old deed mid run.1.1 in
      let more : List Event = calls_in mid later now run.1.2 in
      let one : RunsRuled old (deed ∷ []) mid = (run.0, (mid, run.1.1, (rules, refl))) in
      let good_mid : Good laws.fed mid = run_good laws.fed (deed ∷ []) old mid one good in
      let reading_mid : IsReading mid n (came_by n old deed mid run.1.1 supplied) = laws.fed.read n low old (deed ∷ []) mid one good.due supplied reading in
      let rest : ControllerRuns mid later now run.1.2 = laws.runs mid later now run.1.2 good_mid.due in
      let there : is_some (issue_at mid.controller.core.slots s) ≡ true = there_first laws.singles n low s slot_low more mid.controller now.controller rest.calls (none_last s calls more clear) some in
      let step : Runs old.controller calls mid.controller = laws.fed.goes old deed mid run.1.1 run.0 rules good.due in
      let none_mid : HasNoQueued n mid.controller = unqueued_first laws.fed.goes laws.fed.stays many port n later mid now run.1.2 good_mid.due keeps.1 none in
      let all_none = moments n calls old.controller mid.controller step (keeps.0.unqueued step) none_mid in
      let going : Going n s (t + went_in n calls) mid.controller =
      go_on laws.singles n low s slot_low calls old.controller mid.controller step (none_first s calls more clear)
      all_none there t g in
      let it : Along (t + went_in n calls) (came_by n old deed mid run.1.1 supplied) mid later now run.1.2 =
      fed_along later mid now run.1.2 good_mid (came_by n old deed mid run.1.1 supplied) reading_mid (none_last s calls more clear) keeps.1 none some (t + went_in n calls) going in
      let both = went_both n calls more in
      record {
        fed = (fed_by t supplied old deed mid run.1.1 run.0 rules good reading (at_first n calls old.controller mid.controller step all_none) g, it.fed);
        last = subst (λ (k : ℕ). Going n s k now.controller) (let same : t + went_in n calls + went_in n more ≡ t + went_in n (calls ++ more) = omega (arith, both) in same) it.last;
      }
