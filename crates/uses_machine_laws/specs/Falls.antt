-- What a caller knows of the FISes that its calls bring to the devices.
use Rattle.std.specs.Prelude.{◌≡◌, ◌<◌, ℕ, List, [], ◌∷◌, ◌++◌}
use Rattle.ahci_machine.specs.States.{MachineState}
use Rattle.machine_laws.specs.{ControllerLaws.{RunsRuled, calls_in}, Controllers.GathersDue, Deeds.Deed, Falling.{AllLast, HasLink, LinksPassInOrder}}
use Rattle.machine_laws.specs.{Falling.{PortsPassInOrder, arrived, ended, fell, leaving, sent_in, way_to}, Feeding.{DataIsRead, IsReading, came_in}}

-- the laws, as `machine_laws` has them
pub record Laws : Type 0 where
  pub links : LinksPassInOrder
  pub ports : PortsPassInOrder
  pub read : DataIsRead

-- What was done is such a run: what the controller sent is on its way or arrived, in order; so is what fell to each port, as long as the
-- connection there lasts; and each Data FIS has so far what came for it.
pub record FallsOn (old : MachineState) (deeds : List Deed) (new : MachineState) : Type 0 where
  pub run : RunsRuled old deeds new
  pub link : GathersDue old → HasLink deeds → arrived old deeds new run ++ leaving new ≡ leaving old ++ sent_in (calls_in old deeds new run)
  pub port : (n : ℕ) → AllLast n old deeds new run → ended n old deeds new run ++ way_to new n ≡ way_to old n ++ fell n old deeds new run
  pub data_to : (dev : ℕ) → dev < 16 → GathersDue old → (came : List ℕ) → IsReading old dev came → IsReading new dev (came_in dev came old deeds new run)
