-- For the field `isolates` of `laws`. Over every run each device is isolated.
use Rattle.std.proofs.Common.{List, length}
use Rattle.host_memory.specs.Memory.{zeroed}
use Rattle.hba_laws.specs.Isolation.{AreOfDevices}
use Rattle.hba_laws.proofs.Door.{fold_of_own, histories_by_own}
use Rattle.hba_driver.specs.{declared.mode.Mode.Mode, Events.{AreEvents, IsSoundHostIn, events_over, shared_by}, HostTurns.{DoesAll, Host, HostTurn}}
use Rattle.hba_driver.proofs.Door.{each_run_tells, hosts_stay_sound, turns_are_events, zeroed_right}
use Rattle.pm_world.specs.{Isolation.{AreFoldsOfOwn, AreHistoriesOfOwn, AreIsolated, Isolates}, Places.{Places, new_world_in, opening_host_in}}
use Rattle.pm_world.specs.{Rules.Run, Runs.over, Turns.turn_of, declared.{step.Step.Step, step.Answer.Answer}}
use Rattle.pm_world.proofs.turns.{Delivery.sized, HostFold.run_does}

module _ (old : Host) (turns : List HostTurn) (new : Host) (does : DoesAll old turns new) where
  folds : (e : AreEvents old new turns does) → AreOfDevices (shared_by old) (shared_by new) (events_over old new turns does) e.runs → AreFoldsOfOwn old turns new does e
  folds e devices n below =
      fold_of_own n below (shared_by old) (shared_by new) (events_over old new turns does) (record { run = e.runs; hosts = e.sound.hosts; devices = devices })

  histories : (e : AreEvents old new turns does) → AreOfDevices (shared_by old) (shared_by new) (events_over old new turns does) e.runs → AreHistoriesOfOwn old turns new does e
  histories e devices n below past =
      histories_by_own n below (shared_by old) (shared_by new) (events_over old new turns does) (record { run = e.runs; hosts = e.sound.hosts; devices = devices }) past

  are_isolated : (mode : Mode) → IsSoundHostIn mode old → AreIsolated old turns new does
  are_isolated mode sound = record { events = turns_are_events mode old new turns does sound; frames = each_run_tells old new turns does; fold = folds; bytes = histories }

pub isolates : (old : Places) (steps : List Step) (answers : List Answer) (new : Places) (run : Run old steps answers new) → Isolates old steps answers new run
isolates old steps answers new run = record {
  isolated = λ mode config units fits before told made does.
      are_isolated old.host (over turn_of old steps answers new run) new.host does mode
      (hosts_stay_sound.last (opening_host_in mode config.memory) (over turn_of (new_world_in mode config units) before told old made) old.host (run_does (new_world_in mode config units) before told old made)
      (hosts_stay_sound.opens mode 0 (zeroed config.memory) (zeroed_right config.memory (sized config (length units) fits))));
}
