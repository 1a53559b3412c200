-- For `ports_rest_at_a_flush`. What the host of a world gives to a disk fits what was told before.
use Rattle.std.proofs.Common.{◌≡◌, Some, Ok}
use Rattle.fis_view.specs.Frames.{Stamped}
use Rattle.hba_driver.specs.HostTurns.{Pushes}
use Rattle.pm_world.specs.{Places.{Places, pushed}, Rules.{CameRule, DiskSendRule, DiskTakeRule, GoneRule, InjectRule, PmDownRule, PmFromDeviceRule}}
use Rattle.pm_world.specs.{Rules.{PmPresenceRule, Rule}, declared.step.Step.Step}
use Rattle.pm_world.specs.declared.step.Step.TheVariants as step
use Rattle.pm_world.specs.declared.step.Answer.TheVariants as answer
use Rattle.pm_world.proofs.steps.Steps.{at_both, at_device}

-- ## The host gives in a step of its own

pub record HasGiven (old new : Places) : Type 0 where
  pub frame : Stamped
  pub pushes : Pushes old.host (Some frame) new.host
  pub link : new.downward ≡ pushed old.downward frame

pub host_gives : (old new : Places) (s : Step) → Rule old s (Ok answer.Pushed) new → HasGiven old new
host_gives old new step.HostPush rule = let r = rule.0.1 in record { frame = r.0; pushes = r.1; link = r.2 }
host_gives old new (step.Came m) rule = absurd (at_device old m answer.Pushed new (CameRule m) rule).rule.1
host_gives old new (step.Gone m) rule = absurd (at_device old m answer.Pushed new (GoneRule m) rule).rule.1
host_gives old new (step.DiskSend m) rule = absurd (at_device old m answer.Pushed new (DiskSendRule m) rule).rule.1
host_gives old new (step.Inject m given) rule = absurd (at_device old m answer.Pushed new (InjectRule m given) rule).rule.1
host_gives old new (step.DiskTake m) rule = absurd (at_device old m answer.Pushed new (DiskTakeRule m) rule).rule
host_gives old new (step.PmPresence m) rule = absurd (at_both old m answer.Pushed new (PmPresenceRule m) rule).rule
host_gives old new (step.PmFromDevice m) rule = absurd (at_both old m answer.Pushed new (PmFromDeviceRule m) rule).rule
host_gives old new (step.PmDown m) rule = absurd (at_both old m answer.Pushed new (PmDownRule m) rule).rule
host_gives old new other rule = absurd rule.0
