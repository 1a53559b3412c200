-- A tick: the driver afterwards, the effects on port and memory, and the answer.
use Rattle.std.specs.Prelude.{ℕ, ◌≡◌, ◌+◌, ◌==◌, ◌&&◌, ◌||◌, Bool, true, false, nat_lt, not, if◌then◌else◌, List, [], map, slice_set, Option, Some}
use Rattle.std.specs.{Prelude.{None, is_some}, Option.option_map}
use Rattle.host_memory.specs.Memory.{Memory}
use Rattle.slots.specs.Slots.{has_bit, lowest_below, match_some}
use Rattle.hba_fbs.specs.Views.{Port}
use Rattle.hba_driver.specs.declared.{effect.Effect.Effect, mode.Mode.Mode, order.Order.{Order, TheVariants.{Clear, ResetOn}}, path.Path.Path}
use Rattle.hba_driver.specs.declared.{path.{Stage.{Stage, TheVariants.AssertReset}, TaskFile.TaskFile}, plan.Device.TheVariants.{Absent, Recovering}}
use Rattle.hba_driver.specs.declared.{plan.Plan.Plan, request.Outcome.{Outcome, TheVariants.{Done, DeviceError, Aborted, Removed, PortError}}}
use Rattle.hba_driver.specs.{declared.{sight.ErrorLog.ErrorLog, slot.{Group.Group, Head.Head, Phase.TheVariants.{Issued, Aside}}}, Seeing.Sight}
use Rattle.hba_driver.specs.{declared.{slot.Phase.TheVariants.Ended, turn.{Act.Act, Logged.Logged, Turn.Turn}}, Drivers.{Driver, Entry, device_at}}
use Rattle.hba_driver.specs.{Drivers.{entry_at, has_ended, holds, is_aside, is_issued, rephase_all, rephased, with_device}, Effects.effects_of}
use Rattle.hba_driver.specs.{Orders.{control_port, is_flush}, Paths.{recovery, reset_if_there}, Turns.turn_of}
use Rattle.hba_driver.specs.declared.slot.Group.TheVariants as group
use Rattle.hba_driver.specs.declared.turn.Act.TheVariants as act

-- ---- groups of requests

-- issued, and the slot's bit is neither in PxCI nor in PxSACT
abbrev pub is_done : (issued : ℕ) → ℕ → Head → Bool
is_done issued slot head = is_issued head && not (has_bit issued slot)

-- not ended
abbrev pub is_open : ℕ → Head → Bool
is_open slot head = not (has_ended head)

-- not ended, and of a device
abbrev pub is_open_of : (dev : ℕ) → ℕ → Head → Bool
is_open_of dev slot head = (head.dev == dev) && not (has_ended head)

-- set aside, and of a device
abbrev pub is_aside_of : (dev : ℕ) → ℕ → Head → Bool
is_aside_of dev slot head = (head.dev == dev) && is_aside head

-- a log names the request by its tag or, if no queued command failed, as a Flush
abbrev pub is_named : ErrorLog → ℕ → Head → Bool
is_named log slot head = if log.unqueued then is_flush head.work else slot == log.tag

-- the one that it names among those of its device that were set aside
abbrev pub is_named_of : ErrorLog → (dev : ℕ) → ℕ → Head → Bool
is_named_of log dev slot head = is_aside_of dev slot head && is_named log slot head

abbrev pub is_in : Group → ℕ → Head → Bool
is_in (group.DoneOf issued) = is_done issued
is_in group.Open = is_open
is_in (group.OpenOf dev) = is_open_of dev
is_in (group.AsideOf dev) = is_aside_of dev
is_in (group.NamedBy log dev) = is_named_of log dev

-- ---- requests that are done, and those of a device whose log came

abbrev pub done_ended : (issued : ℕ) → List (Option Entry) → List (Option Entry)
done_ended issued entries = rephase_all (is_done issued) (Ended Done) entries

unfoldable pub any_done : (issued : ℕ) → List (Option Entry) → Bool
any_done issued entries =
    is_some (lowest_below (λ slot. holds (is_done issued slot) (entry_at entries slot)) 30)

-- how a request ends that the log names: with the log's Status and Error, or with those of the device after
-- its fault
abbrev pub log_outcome : ErrorLog → TaskFile → Outcome
log_outcome log file =
    if log.unqueued then DeviceError file.status file.error else DeviceError log.status log.error

-- the others that were set aside are aborted
abbrev pub log_ended : ErrorLog → Logged → List (Option Entry) → List (Option Entry)
log_ended log l entries =
    rephase_all (is_aside_of l.dev) (Ended Aborted)
    (rephase_all (is_named_of log l.dev) (Ended (log_outcome log l.file)) entries)

abbrev pub logged_ended : ErrorLog → Option Logged → List (Option Entry) → List (Option Entry)
logged_ended log None entries = entries
logged_ended log (Some l) entries = log_ended log l entries

-- ---- what an act leaves of the plan

-- slot 30 no longer works on this device
abbrev pub unless : (dev : ℕ) → Option Path → Option Path
unless dev None = None
unless dev (Some path) = if path.dev == dev then None else Some path

abbrev pub plan_without : (dev : ℕ) → Plan → Plan
plan_without dev plan = record (with_device dev Absent plan) { path = unless dev plan.path }

abbrev pub ordered : Order → Plan → Plan
ordered (Clear port) plan = record (plan_without port plan) { asked = true }
ordered order plan = record plan { asked = true }

-- slot 31 begins with the software reset of the multiplier, whatever it did before
abbrev pub from_reset : Plan → Plan
from_reset plan = record plan { order = ResetOn; asked = false }

-- the port is stopped: two writes start it again, and then each device that is there is reset
abbrev pub stopped_plan : Plan → Plan
stopped_plan plan = record (from_reset plan) {
  restarted = 0;
  path = None;
  devices = map reset_if_there plan.devices;
}

-- the device that had a fault recovers, and slot 30 no longer works on it
abbrev pub recovering : (dev : ℕ) → TaskFile → Plan → Plan
recovering dev file plan =
    record (with_device dev (Recovering (recovery (device_at plan dev) file)) plan)
    { path = unless dev plan.path }

abbrev pub cleared_plan : (dev : ℕ) → TaskFile → Plan → Plan
cleared_plan dev file plan = if nat_lt dev control_port then recovering dev file plan else from_reset plan

-- file is the task file that PxTFD shows after the act
unfoldable pub plan_after : Act → TaskFile → Plan → Plan
plan_after (act.Opens k) file plan = record plan { opened = k + 1 }
plan_after act.Stops file plan = stopped_plan plan
plan_after (act.Restarts k) file plan = record plan { restarted = k + 1 }
plan_after (act.Clears dev) file plan = cleared_plan dev file plan
plan_after (act.Orders order) file plan = ordered order plan
plan_after (act.Steps dev stage) file plan =
    record plan { path = Some (record { dev = dev; stage = stage; asked = true }) }
plan_after (act.Issues slot dev queued) file plan = plan

-- ---- what an act leaves of the requests

-- the requests of a port that a scan found are removed
abbrev pub removed : Order → List (Option Entry) → List (Option Entry)
removed (Clear port) entries = rephase_all (is_open_of port) (Ended Removed) entries
removed order entries = entries

-- when a device is reset, its requests that were set aside are aborted
abbrev pub stage_ended : ℕ → Stage → List (Option Entry) → List (Option Entry)
stage_ended dev AssertReset entries = rephase_all (is_aside_of dev) (Ended Aborted) entries
stage_ended dev stage entries = entries

unfoldable pub entries_after : Act → List (Option Entry) → List (Option Entry)
entries_after (act.Opens k) entries = entries
entries_after act.Stops entries = rephase_all is_open (Ended PortError) entries
entries_after (act.Restarts k) entries = entries
entries_after (act.Clears dev) entries = rephase_all (is_open_of dev) Aside entries
entries_after (act.Orders order) entries = removed order entries
entries_after (act.Steps dev stage) entries = stage_ended dev stage entries
entries_after (act.Issues slot dev queued) entries =
    slice_set entries slot (option_map (rephased Issued) (entry_at entries slot))

abbrev pub acted : Option Act → TaskFile → Driver → Driver
acted None file d = d
acted (Some a) file d = record d { plan = plan_after a file d.plan; entries = entries_after a d.entries }

-- ---- the tick

-- what is due after the requests that are done have ended
abbrev pub turn : Sight → Driver → Turn
turn v d = turn_of v d.plan (done_ended v.issued d.entries)

-- the driver after it has looked at all that came
abbrev pub seen : Sight → Driver → Driver
seen v d = record d {
  plan = (turn v d).plan;
  entries = logged_ended v.log (turn v d).logged (done_ended v.issued d.entries);
}

abbrev pub due : Sight → Driver → Option Act
due v d = (turn v d).act

-- when a fault was cleared, the driver looks at Status and Error of the task file that PxTFD shows after the
-- effects
unfoldable pub after_tick : Sight → TaskFile → Driver → Driver
after_tick v file d = acted (turn v d).act file (seen v d)

abbrev pub effects_due : Mode → Option Act → List Effect
effects_due mode a = match_some a [] (effects_of mode)

abbrev pub effects : Sight → Driver → List Effect
effects v d = effects_due d.plan.mode (due v d)

-- something was due, or something was seen
unfoldable pub acts : Sight → Driver → Bool
acts v d = is_some (turn v d).act || (any_done v.issued d.entries || (turn v d).news)

-- driver, port and memory are as they were
pub record Rests (old : Driver) (port : Port) (memory : Memory) (new : Driver) (after : Port)
    (later : Memory) : Type 0 where
  pub driver : new ≡ old
  pub port_stays : after ≡ port
  pub memory_stays : later ≡ memory
