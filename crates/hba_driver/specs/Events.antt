-- The turns of a host as events of its port and memory. Each turn is a list of events, and a list of turns is
-- the lists of its turns, one after another (AHCI 1.3.1, 3.3, registers, 4.2, memory structures, and chapters
-- 5 and 9).
use Rattle.std.specs.{Prelude.{ℕ, ◌≡◌, ◌<◌, ◌≤◌, true, false, List, [], ◌∷◌, ◌++◌, replicate, Option, Some, None}, List.flat_map}
use Rattle.fis_view.specs.Frames.{Stamped}
use Rattle.host_memory.specs.Memory.{IsHostMemory, Memory}
use Rattle.slots.specs.Slots.{match_some}
use Rattle.hba_fbs.specs.{declared.{register.Register.Register, registers.Registers.Registers, report.TakeReport.TakeReport}, Offsets.register_at}
use Rattle.hba_fbs.specs.{Views.{Port, opening_port}, Writing.write_refusal}
use Rattle.hba_laws.specs.{Delivering.IsSound, Hosts.{HostEvent, Runs}}
use Rattle.hba_laws.specs.Hosts as event
use Rattle.hba_driver.specs.declared.{effect.Effect.Effect, mode.Mode.{Mode, TheVariants.Switching}, plan.{Device.TheVariants.Absent, Plan.Plan}}
use Rattle.hba_driver.specs.{Drivers.{AreRequests, device_at, new_driver_in}, Effects.{ActsAll, IsRuled}, HostTurns.{AreHosts, Does, DoesAll, Host}}
use Rattle.hba_driver.specs.{HostTurns.{HostTurn, sight_in, Took, Pushed, Ticked, Submitted, Polled, Put}, Modes.is_switching, Ticks.effects}
use Rattle.hba_driver.specs.declared.effect.Effect.TheVariants as effect

-- ---- the events of a turn

-- port and memory of a host
abbrev pub shared_by : Host → event.Host
shared_by h = record { port = h.port; memory = h.memory }

-- a value is written to a register that exists
abbrev pub wrote_to : Option Register → ℕ → List HostEvent
wrote_to None value = []
wrote_to (Some register) value = event.Wrote register value ∷ []

-- a write that the port takes; one that it refuses changes nothing, and is no event
abbrev pub tried : Port → Memory → (offset value : ℕ) → List HostEvent
tried port memory offset value =
    match_some (write_refusal port memory offset value)
    (wrote_to (register_at offset) value) (λ e. [])

-- an effect, by port and memory before it and the memory after it
abbrev pub events_of_effect : Effect → Port → (before after : Memory) → List HostEvent
events_of_effect (effect.Writes offset value) port before after = tried port before offset value
events_of_effect (effect.Flushes dev) port before after = event.Flushed dev ∷ []
events_of_effect (effect.Empties dev) port before after = event.Rewrote dev (replicate 256 0) ∷ []
events_of_effect (effect.Commands slot fields buffer) port before after =
    event.Stored after.structure ∷ []

-- effects, one after another
unfoldable pub events_of_effects : (es : List Effect) (old : Port) (before : Memory)
    (new : Port) (after : Memory) → ActsAll es old before new after → List HostEvent
unfolding ActsAll
events_of_effects [] old before new after acts = []
events_of_effects (e ∷ es) old before new after acts =
    events_of_effect e old before acts.1 ++ events_of_effects es acts.0 acts.1 new after acts.4

abbrev pub events_of : (old : Host) (turn : HostTurn) (new : Host) → Does old turn new
    → List HostEvent
events_of old (Took frame report) new does = event.Took frame report ∷ []
events_of old (Pushed frame) new does = event.Gave frame ∷ []
events_of old (Ticked acted) new does =
    events_of_effects (effects (sight_in old) old.driver) old.port old.memory
    new.port new.memory does.does
events_of old (Submitted dev request ticket) new does = event.Stored new.memory.structure ∷ []
events_of old (Polled completion) new does = []
events_of old (Put at bytes) new does = event.Put at bytes ∷ []

-- the events of turns, one after another
abbrev pub events_over : (old new : Host) (turns : List HostTurn) → DoesAll old turns new
    → List HostEvent
events_over old new [] run = []
events_over old new (turn ∷ turns) run =
    events_of old turn run.0 run.1 ++ events_over run.0 new turns run.2

-- ---- port, driver and memory together

-- The registers of a port whose driver has made this many of the seven writes that open it and, since a fault
-- stopped it, this many of the two that start it again. Only the driver writes them.
pub record AreDriven (mode : Mode) (opened restarted : ℕ) (r : Registers) : Type 0 where
  -- the command list is at 0
  pub commands : r.clb ≡ 0
  pub list_high : 2 ≤ opened → r.clbu ≡ 0
  -- the received area is at 1000h from the third write on
  pub area : 3 ≤ opened → r.fb ≡ 0x1000
  pub area_high : 4 ≤ opened → r.fbu ≡ 0
  -- the port switches between devices from the fifth on, in the mode for that
  pub switches : 5 ≤ opened → r.switching ≡ is_switching mode
  -- FRE is 0 up to the sixth, and then 1
  pub closed : opened ≤ 5 → r.receives ≡ false
  pub receives : 6 ≤ opened → r.receives ≡ true
  -- ST is 0 up to the last, and then 1, unless the port is to be started again
  pub stopped : opened ≤ 6 → r.started ≡ false
  pub starts : 7 ≤ opened → 2 ≤ restarted → r.started ≡ true

-- no device is there before the port is open
abbrev pub KnowsNone : Plan → Type 0
KnowsNone plan = plan.opened < 7 → (dev : ℕ) → device_at plan dev ≡ Absent

-- What holds for a host whose driver is in this mode, from its opening on, after each of its turns.
pub record IsSoundHostIn (mode : Mode) (h : Host) : Type 0 where
  pub drives : h.driver.plan.mode ≡ mode
  pub ruled : IsRuled h.port
  pub memory : IsHostMemory h.memory
  pub requests : AreRequests h.driver.given h.driver.entries
  pub registers : AreDriven mode h.driver.plan.opened h.driver.plan.restarted h.port.registers
  pub devices : KnowsNone h.driver.plan

-- a new port and a new driver in this mode, beside this memory
abbrev pub opening_host_in : Mode → (given : ℕ) (start : Memory) → Host
opening_host_in mode given start = record {
  port = opening_port;
  driver = new_driver_in mode given;
  memory = start;
}

-- the same with FIS-based switching
abbrev pub IsSoundHost : Host → Type 0
IsSoundHost h = IsSoundHostIn Switching h

abbrev pub opening_host : (given : ℕ) (start : Memory) → Host
opening_host given start = opening_host_in Switching given start

-- ---- laws: sound hosts

-- in each mode
pub record HostsAreSound : Type 0 where
  pub opens : (mode : Mode) (given : ℕ) (start : Memory) → IsHostMemory start
      → IsSoundHostIn mode (opening_host_in mode given start)
  pub stays : {mode : Mode} (old : Host) (turn : HostTurn) (new : Host) → Does old turn new
      → IsSoundHostIn mode old → IsSoundHostIn mode new
  -- it stays sound over turns, and at each of them a port that runs has the driver's received area
  pub last : {mode : Mode} (old : Host) (turns : List HostTurn) (new : Host) → DoesAll old turns new
      → IsSoundHostIn mode old → IsSoundHostIn mode new
  pub each : {mode : Mode} (old : Host) (turns : List HostTurn) (new : Host) (run : DoesAll old turns new)
      → IsSoundHostIn mode old → AreHosts old new turns run

-- ---- laws: turns are events

-- The events of turns run from port and memory before them to port and memory after them. For each host among
-- them, what holds for every port and every memory holds, and what is taken is a frame.
pub record AreEvents (old new : Host) (turns : List HostTurn) (run : DoesAll old turns new)
    : Type 0 where
  pub runs : Runs (shared_by old) (events_over old new turns run) (shared_by new)
  pub sound : IsSound (shared_by old) (shared_by new) (events_over old new turns run) runs

abbrev pub TurnsAreEvents : Type 0
TurnsAreEvents =
    (mode : Mode) (old new : Host) (turns : List HostTurn) (run : DoesAll old turns new)
    → IsSoundHostIn mode old → AreEvents old new turns run

-- ---- laws: what the events are

-- the frames that a turn takes, or an event, each with its report
abbrev pub taken_by : HostTurn → List (List ℕ × TakeReport)
taken_by (Took frame report) = (frame, report) ∷ []
taken_by turn = []

abbrev pub took : HostEvent → List (List ℕ × TakeReport)
took (event.Took frame report) = (frame, report) ∷ []
took e = []

-- what the port gives when it is asked for a frame, in a turn or in an event
abbrev pub pushed_by : HostTurn → List (Option Stamped)
pushed_by (Pushed frame) = frame ∷ []
pushed_by turn = []

abbrev pub gave : HostEvent → List (Option Stamped)
gave (event.Gave frame) = frame ∷ []
gave e = []

-- the bytes that a client writes, and where
abbrev pub put_by : HostTurn → List (ℕ × List ℕ)
put_by (Put at bytes) = (at, bytes) ∷ []
put_by turn = []

abbrev pub put : HostEvent → List (ℕ × List ℕ)
put (event.Put at bytes) = (at, bytes) ∷ []
put e = []

-- The frames that are taken, those that are given and the bytes that clients write are the same in the events
-- as in the turns, in the same order: no tick and no request adds one.
pub record TurnsTell (old new : Host) (turns : List HostTurn) (run : DoesAll old turns new)
    : Type 0 where
  pub taken : flat_map took (events_over old new turns run) ≡ flat_map taken_by turns
  pub given : flat_map gave (events_over old new turns run) ≡ flat_map pushed_by turns
  pub clients : flat_map put (events_over old new turns run) ≡ flat_map put_by turns

abbrev pub EachRunTells : Type 0
EachRunTells =
    (old new : Host) (turns : List HostTurn) (run : DoesAll old turns new)
    → TurnsTell old new turns run
