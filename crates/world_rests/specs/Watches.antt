-- What a driver watches that has nothing to do, in a world at rest (Serial ATA 3.x, 16.2 and 16.3, port multiplier: commands to the
-- control port, software reset of it, asynchronous notification; 16.4.2, SStatus, SError and SControl of a port).
use Rattle.std.specs.Prelude.{◌≡◌, true, false, List, length}
use Rattle.hba_driver.specs.{declared.{order.Order.TheVariants.Watch, plan.Plan.Plan}, HostTurns.sight_in, Seeing.Sight}
use Rattle.pm_world.specs.{Attached.Attached, Places.{Places, is_config, new_world}, Rules.Run, declared.step.{Answer.Answer, Config.Config}}
use Rattle.pm_world.specs.declared.step.Step.{Step}
use Rattle.world_rests.specs.Rests.{IsAtRest}

-- slot 31 waits for a notification: nothing is issued in it, and none came
pub record WaitsForNotice (v : Sight) (plan : Plan) : Type 0 where
  pub unasked : plan.asked ≡ false
  pub watches : plan.order ≡ Watch
  pub unnotified : v.notified ≡ false

-- In a world at rest the driver has brought up the multiplier: slot 31 waits for a notification alone.
abbrev pub RestedDriversWatch : Type 0
RestedDriversWatch =
    (config : Config) (units : List Attached) → is_config config (length units) ≡ true
    → (before : List Step) (told : List Answer) (now : Places) → Run (new_world config units) before told now
    → IsAtRest now → WaitsForNotice (sight_in now.host) now.host.driver.plan
