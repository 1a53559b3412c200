-- For `disks_are_honest`. No fault of a device stands after a step in which none is heard.
use Rattle.std.proofs.Common.{◌≡◌, ℕ, ◌<◌, List, [], ◌∷◌, drop, length, map, Some, None, Ok, arith}
use Rattle.std.specs.List.{flat_map}
use Rattle.fis_view.specs.Frames.{Stamped}
use Rattle.hba_fbs.specs.Taking.{port_of}
use Rattle.hba_driver.specs.{Events.{IsSoundHost, taken_by}, HostTurns.Pushed}
use Rattle.disk_recovery.specs.Between.{AreUnfaulted, IsUnfaulted}
use Rattle.pm_world.specs.{Places.Places, Rules.Rule, Turns.turn_of, declared.{step.Step.Step, step.Answer.Answer}}
use Rattle.pm_world.specs.declared.step.Step.TheVariants as step
use Rattle.pm_world.specs.declared.step.Answer.TheVariants as answer
use Rattle.pm_world.proofs.turns.HostFold.{rule_does}
use Rattle.disk_recovery.proofs.Door.{turns_unfaulted}

-- if the host takes a FIS of the device, no fault was heard
abbrev pub IsHeardUnfaulted : ℕ → Answer → Type 0
IsHeardUnfaulted n (answer.Took port conn number bytes report) = port_of bytes ≡ n → report.fault ≡ None
IsHeardUnfaulted n a = Prim.Unit {0}

pushes_none : (n : ℕ) (frames : List Stamped) → AreUnfaulted n (flat_map taken_by (map (λ frame. Pushed (Some frame)) frames))
pushes_none n [] = tt
pushes_none n (f ∷ frames) = pushes_none n frames

step_none : (n : ℕ) (old : Places) (s : Step) (a : Answer) (new : Places) → IsHeardUnfaulted n a → AreUnfaulted n (flat_map taken_by (turn_of old s a new))
step_none n old s (answer.Took port conn number bytes report) new none = (none, tt)
step_none n old step.HostPush answer.Idle new none = tt
step_none n old step.HostPush answer.Pushed new none = pushes_none n (drop (length old.downward.frames) new.downward.frames)
step_none n old (step.Submit dev request) (answer.Submitted ticket) new none = tt
step_none n old (step.Put at bytes) answer.Put new none = tt
step_none n old s a new none = tt

pub step_unfaulted : (n : ℕ) → n < 15 → (old : Places) (s : Step) (a : Answer) (new : Places) → Rule old s (Ok a) new → IsSoundHost old.host
    → IsHeardUnfaulted n a → IsUnfaulted n old.host.port → IsUnfaulted n new.host.port
step_unfaulted n below old s a new rule sound none is =
    turns_unfaulted n (omega (arith, below)) old.host (turn_of old s a new) new.host (rule_does old s a new rule) sound (step_none n old s a new none) is
