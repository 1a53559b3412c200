-- For `disks_are_honest`. When a host flushes a device, the port of the device is open to the driver, and not to the
-- device.
use Rattle.std.proofs.Common.{◌≡◌, ℕ, ◌<◌, ◌≤◌, Bool, true, List, length, subst, Ok}
use Rattle.hba_driver.specs.{HostTurns.{Does, Host, Ticked, sight_in}, Steady.IsFlushTick, Ticks.done_ended, Between.Runs}
use Rattle.hba_driver.proofs.Door.{not_below, runs_turn}
use Rattle.disk_recovery.proofs.Door.{opened_stays}
use Rattle.pm_world.specs.{Attached.Attached, Places.{Places, is_config, new_world}, Rules.{Rule, Run}, declared.step.Answer.Answer}
use Rattle.pm_world.specs.declared.{step.Config.Config, step.Step.Step}
use Rattle.pm_world.specs.declared.step.Answer.TheVariants as answer
use Rattle.pm_world.specs.declared.step.Step.TheVariants as step
use Rattle.pm_world.proofs.{meant.ChangeLemmas.tick_step, honest.{FlushLemmas.rests_at_flush, EndsSteps.IsUnflushed}}
use Rattle.pm_world.proofs.honest.LiveLemmas.{IsLive, never_flushed}

-- the port is open when the driver flushes a device
pub opened_at_flush : (n : ℕ) (old : Host) (acted : Bool) (new : Host) → Does old (Ticked acted) new → IsFlushTick n old → 7 ≤ new.driver.plan.opened
opened_at_flush n old acted new does flush =
    let runs = subst (Runs old.driver.plan) flush (runs_turn (sight_in old) old.driver.plan (done_ended (sight_in old).issued old.driver.entries)) in
    opened_stays old (Ticked acted) new does (not_below old.driver.plan.opened 7 runs.0)

-- a unit to which the port is open is not flushed
pub unflushed : (config : Config) (units : List Attached) → is_config config (length units) ≡ true → (n c : ℕ) → n < 15 → (before : List Step)
    (told : List Answer) (old : Places) → Run (new_world config units) before told old → IsLive n c old → (s : Step) (a : Answer) (new : Places)
    → Rule old s (Ok a) new → IsUnflushed n old a
unflushed config units fits n c below before told old made live s answer.Ticked new rule =
    let its : Rule old step.Tick (Ok answer.Ticked) new = subst (λ (t : Step). Rule old t (Ok answer.Ticked) new) (tick_step old s new rule) rule in
    λ flush. never_flushed n c old live (rests_at_flush config units fits n below before told old made new its flush)
unflushed config units fits n c below before told old made live s a new rule = tt
