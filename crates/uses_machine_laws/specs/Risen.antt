-- What a caller knows of the FISes of the devices, after each of its calls.
use Rattle.std.specs.Prelude.{List, ◌∷◌}
use Rattle.ahci_machine.specs.States.{MachineState}
use Rattle.machine_laws.specs.{ControllerLaws.RunsRuled, Deeds.{Deed, Unlent}, Rising.{Frames, HaveRisen, frames_in}}
use Rattle.uses_machine_laws.specs.Kept.{AreMoves}

-- what was done is a run, and the FISes that were sent and came before are followed by those of the run
pub record KeepsRising (old : MachineState) (deeds : List Deed) (new : MachineState) : Type 0 where
  pub run : RunsRuled old deeds new
  pub risen : (was : Frames) → HaveRisen old was → HaveRisen new (frames_in was old deeds new run)

-- the machine's own moves
pub record MovesRising (old new : MachineState) : Type 0 where
  pub deeds : List Deed
  pub moves : AreMoves deeds
  pub keeps : KeepsRising old (Unlent ∷ deeds) new
