-- The first deeds of a run, and the machines of it.
use Rattle.std.specs.Prelude.{ℕ, zero, suc, ◌⊎◌, List, [], ◌∷◌}
use Rattle.std.proofs.Common.{refl}
use Rattle.ahci_machine.specs.States.{HasRules, MachineState}
use Rattle.machine_laws.specs.{ControllerLaws.RunsRuled, Deeds.Deed}

abbrev pub first_deeds : ℕ → List Deed → List Deed
first_deeds zero deeds = []
first_deeds (suc k) [] = []
first_deeds (suc k) (deed ∷ later) = deed ∷ first_deeds k later

-- the machine behind them
abbrev pub machine_at : ℕ → (old : MachineState) → (deeds : List Deed) → (now : MachineState) → RunsRuled old deeds now → MachineState
machine_at zero old deeds now run = old
machine_at (suc k) old [] now run = now
machine_at (suc k) old (deed ∷ later) now run = machine_at k run.1.0 later now run.1.2

abbrev pub begins_ruled : (old : MachineState) → (deeds : List Deed) → (now : MachineState) → RunsRuled old deeds now → HasRules old
begins_ruled old [] now run = run.0
begins_ruled old (deed ∷ later) now run = run.0

-- and how they led there
abbrev pub first_run : (k : ℕ) → (old : MachineState) → (deeds : List Deed) → (now : MachineState) → (run : RunsRuled old deeds now)
    → RunsRuled old (first_deeds k deeds) (machine_at k old deeds now run)
first_run zero old deeds now run = (begins_ruled old deeds now run, refl)
first_run (suc k) old [] now run = run
first_run (suc k) old (deed ∷ later) now run = (run.0, (run.1.0, run.1.1, first_run k run.1.0 later now run.1.2))

-- it holds of a machine of a run, be it the first or the last
abbrev pub AtSome : (MachineState → Type 0) → (old : MachineState) → (deeds : List Deed) → (now : MachineState) → RunsRuled old deeds now → Type 0
AtSome P old [] now run = P old
AtSome P old (deed ∷ later) now run = P old ⊎ AtSome P run.1.0 later now run.1.2
