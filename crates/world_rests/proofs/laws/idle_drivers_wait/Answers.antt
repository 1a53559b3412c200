use Rattle.hba_driver.specs.HostTurns.{sight_in}
use Rattle.world_rests.proofs.Idle as proof
use Rattle.world_rests.proofs.laws.idle_drivers_wait.Goals as goal

pub returns : goal.returns
returns c = λ h. proof.driver_waits (sight_in h) h.driver
