-- Where each FIS that a machine takes of a device is heard well, it is so over a run of its controller.
use Rattle.std.proofs.Common.{ℕ, List, [], ◌∷◌, ◌++◌, sym, ap, subst}
use Rattle.ahci_controller.specs.States.{ControllerState}
use Rattle.controller_laws.specs.Events as call
use Rattle.controller_laws.specs.Events.{Event, Runs}
use Rattle.ahci_machine.specs.States.{MachineState}
use Rattle.ahci_machine.specs.declared.act.Act.TheVariants as act
use Rattle.machine_laws.specs.{ControllerLaws.{ControllerRuns, RunsRuled, calls_in}, Controllers.{ControllerGoesOn, GathersDue, StaysDue, deed_calls}}
use Rattle.machine_laws.specs.Deeds.{Deed, Does, Moved}
use Rattle.machine_theorem.specs.{Brought.{AllTakenWell, TakesWell}, Following.AllHeardWell, ReadsWritten.NoneTaken}
use Rattle.machine_theorem.proofs.{Ordered.first_ruled, WasTaken.deed_none}

-- ---- calls

-- calls that take none
none_well : (n : ℕ) (events : List Event) (old new : ControllerState) (run : Runs old events new) → NoneTaken events → AllHeardWell n old events new run
none_well n [] old new run none = tt
none_well n (call.Took frame took ∷ later) old new run none = absurd none
none_well n (call.Wrote offset value written ∷ later) old new run none = (tt, none_well n later run.1.0 new run.1.2 none)
none_well n (call.WroteWide offset width value written ∷ later) old new run none = (tt, none_well n later run.1.0 new run.1.2 none)
none_well n (call.Supplied slot number bytes supply ∷ later) old new run none = (tt, none_well n later run.1.0 new run.1.2 none)
none_well n (call.Missed slot number supply ∷ later) old new run none = (tt, none_well n later run.1.0 new run.1.2 none)
none_well n (call.Left frame why ∷ later) old new run none = (tt, none_well n later run.1.0 new run.1.2 none)
none_well n (call.Turned next ∷ later) old new run none = (tt, none_well n later run.1.0 new run.1.2 none)
none_well n (call.Said write ∷ later) old new run none = (tt, none_well n later run.1.0 new run.1.2 none)
none_well n (call.Gathered dev number frame fed ∷ later) old new run none = (tt, none_well n later run.1.0 new run.1.2 none)
none_well n (call.NotThere dev number fed ∷ later) old new run none = (tt, none_well n later run.1.0 new run.1.2 none)

record WellCalls (n : ℕ) (old : ControllerState) (events : List Event) (new : ControllerState) : Type 0 where
  run : Runs old events new
  well : AllHeardWell n old events new run

well_both : (n : ℕ) (xs ys : List Event) (a b c : ControllerState) → WellCalls n a xs b → WellCalls n b ys c → WellCalls n a (xs ++ ys) c
well_both n [] ys a b c first later = subst (λ (x : ControllerState). WellCalls n x ys c) first.run.1 later
well_both n (e ∷ xs) ys a b c first later =
    let rest = well_both n xs ys first.run.1.0 b c (record { run = first.run.1.2; well = first.well.1 }) later in
    record { run = (first.run.0, (first.run.1.0, first.run.1.1, rest.run)); well = (first.well.0, rest.well) }

-- ---- a run

pub record WellRun (dev : ℕ) (at : MachineState) (deeds : List Deed) (now : MachineState) (run : RunsRuled at deeds now) : Type 0 where
  pub runs : ControllerRuns at deeds now run
  pub well : AllHeardWell dev at.controller (calls_in at deeds now run) now.controller runs.calls

pub deed_well : (dev : ℕ) (at : MachineState) (deed : Deed) (new : MachineState) (does : Does at deed new) → TakesWell dev at deed new does
    → (run : Runs at.controller (deed_calls at deed new does) new.controller) → AllHeardWell dev at.controller (deed_calls at deed new does) new.controller run
deed_well dev at (Moved (act.Takes took)) new does well run = (well, tt)
deed_well dev at deed new does well run = none_well dev (deed_calls at deed new does) at.controller new.controller run (deed_none at deed new does tt)

pub well_run : ControllerGoesOn → StaysDue → (dev : ℕ) (deeds : List Deed) (at now : MachineState) (run : RunsRuled at deeds now) → GathersDue at
    → AllTakenWell dev at deeds now run
    → WellRun dev at deeds now run
well_run goes stays dev [] at now run due well = record {
  runs = record {
    calls = (record { port = run.0.port; slots = run.0.slots; rules = run.0.rules }, ap (λ (m : MachineState). m.controller) run.1);
    due = subst GathersDue (sym run.1) due;
  };
  well = tt;
}
well_run goes stays dev (deed ∷ later) at now run due well =
    let mid : MachineState = run.1.0 in
    let rest = well_run goes stays dev later mid now run.1.2 (stays at deed mid run.1.1 due) well.1 in
    let calls : Runs at.controller (deed_calls at deed mid run.1.1) mid.controller = goes at deed mid run.1.1 run.0 (first_ruled later mid now run.1.2) due in
    let all = well_both dev (deed_calls at deed mid run.1.1) (calls_in mid later now run.1.2) at.controller mid.controller now.controller
    (record { run = calls; well = deed_well dev at deed mid run.1.1 well.0 calls }) (record { run = rest.runs.calls; well = rest.well }) in
    record { runs = record { calls = all.run; due = rest.runs.due }; well = all.well }
