-- For `disks_are_honest`. What a host takes of a disk brought what it says.
use Rattle.std.proofs.{Common.{◌==◌, ◌&&◌, ℕ, ◌+◌, ◌*◌, ◌%◌, List, subst, Ok}, lemmas.List.{length-set}}
use Rattle.std.specs.Prelude.{◌/◌, IsTrue, nat_le, slice_index}
use Rattle.fis_view.specs.Frames.{IsFrame, marked}
use Rattle.hba_fbs.specs.declared.report.TakeReport.{TakeReport}
use Rattle.hba_driver.specs.HostTurns.{Tooks}
use Rattle.pm_world.specs.{Places.Places, Rules.{CameRule, DiskSendRule, DiskTakeRule, GoneRule, InjectRule, PmDownRule, PmFromDeviceRule}}
use Rattle.pm_world.specs.{Rules.{PmPresenceRule, Rule}, declared.step.Step.Step}
use Rattle.pm_world.specs.declared.step.Step.TheVariants as step
use Rattle.pm_world.specs.declared.step.Answer.TheVariants as answer
use Rattle.pm_world.proofs.steps.Steps.{at_both, at_device}

-- the host takes in a step of its own
pub host_takes : (old new : Places) (s : Step) (port conn number : ℕ) (bytes : List ℕ) (report : TakeReport)
    → Rule old s (Ok (answer.Took port conn number bytes report)) new → Tooks old.host bytes report new.host
host_takes old new step.HostTake port conn number bytes report rule = rule.0.2
host_takes old new (step.Came m) port conn number bytes report rule =
    absurd (at_device old m (answer.Took port conn number bytes report) new (CameRule m) rule).rule.1
host_takes old new (step.Gone m) port conn number bytes report rule =
    absurd (at_device old m (answer.Took port conn number bytes report) new (GoneRule m) rule).rule.1
host_takes old new (step.DiskSend m) port conn number bytes report rule =
    absurd (at_device old m (answer.Took port conn number bytes report) new (DiskSendRule m) rule).rule.1
host_takes old new (step.Inject m given) port conn number bytes report rule =
    absurd (at_device old m (answer.Took port conn number bytes report) new (InjectRule m given) rule).rule.1
host_takes old new (step.DiskTake m) port conn number bytes report rule =
    absurd (at_device old m (answer.Took port conn number bytes report) new (DiskTakeRule m) rule).rule
host_takes old new (step.PmPresence m) port conn number bytes report rule =
    absurd (at_both old m (answer.Took port conn number bytes report) new (PmPresenceRule m) rule).rule
host_takes old new (step.PmFromDevice m) port conn number bytes report rule =
    absurd (at_both old m (answer.Took port conn number bytes report) new (PmFromDeviceRule m) rule).rule
host_takes old new (step.PmDown m) port conn number bytes report rule =
    absurd (at_both old m (answer.Took port conn number bytes report) new (PmDownRule m) rule).rule
host_takes old new other port conn number bytes report rule = absurd rule.0

-- a marked frame is as long as the frame
pub plain_frame : (plain : List ℕ) (n : ℕ) → IsFrame (marked plain n) → IsFrame plain
plain_frame plain n framed =
    subst (λ (k : ℕ). IsTrue (nat_le 4 k && nat_le k 8196 && k % 4 == 0)) (length-set plain 1 (slice_index plain 1 / 16 * 16 + n)) framed
