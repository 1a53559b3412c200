-- Which devices the driver knows: those whose IDENTIFY data it accepted since it last flushed the device
-- (ACS-3, IDENTIFY DEVICE; Serial ATA 3.x, 16.3, port multiplier: presence of a device on a port). Requests
-- are issued only to such a device.
use Rattle.std.specs.{Prelude.{ℕ, ◌≡◌, ◌<◌, ◌==◌, ◌&&◌, ◌||◌, Bool, true, false, if◌then◌else◌, List, [], ◌∷◌, Option, Some, None}, List.list_any}
use Rattle.fis_view.specs.Frames.{Stamped}
use Rattle.host_memory.specs.Memory.{IsHostMemory, Memory}
use Rattle.slots.specs.Slots.{match_some}
use Rattle.slots.specs.declared.work.Kind.{Kind, TheVariants.{QueuedRead, QueuedWrite, DmaIn, DmaOut, PioIn, PioOut, NoData, Control}}
use Rattle.hba_commands.specs.{Requests.{kind_of, request_at}, declared.command.Command.Command}
use Rattle.hba_fbs.specs.{declared.report.Wrote.Wrote, Taking.port_of, Views.{Port, last_command}}
use Rattle.hba_driver.specs.{declared.plan.Device.TheVariants.Ready, Drivers.{Entry, device_at, entry_at, is_issued}, Events.opening_host}
use Rattle.hba_driver.specs.{HostTurns.{Does, DoesAll, Host, HostTurn, Took, Pushed, Ticked, sight_in}, Laws.flushes, Ticks.effects}

-- the command of a slot is IDENTIFY DEVICE, ECh
abbrev pub is_identify : Option Command → Bool
is_identify None = false
is_identify (Some command) =
    match_some (request_at command.cfis) false (λ request. request.c && request.command == 0xEC)

-- bytes were written for such a command
abbrev pub is_identity : Port → Option Wrote → Bool
is_identity port None = false
is_identity port (Some wrote) = is_identify (last_command port.commands wrote.slot)

-- IDENTIFY data of device n is accepted: the port takes a FIS of it and writes its bytes for an IDENTIFY
-- DEVICE
abbrev pub identifies : ℕ → Host → HostTurn → Bool
identifies n old (Took frame report) = port_of frame == n && is_identity old.port report.wrote
identifies n old turn = false

-- the driver flushes device n
abbrev pub is_flushed : ℕ → Host → HostTurn → Bool
is_flushed n old (Ticked acted) = list_any (flushes n) (effects (sight_in old) old.driver)
is_flushed n old turn = false

-- IDENTIFY data of device n was accepted since it was last flushed
abbrev pub known_after : ℕ → Bool → Host → HostTurn → Bool
known_after n known old turn =
    if is_flushed n old turn then false else known || identifies n old turn

abbrev pub known_over : ℕ → Bool → (old new : Host) → (turns : List HostTurn)
    → DoesAll old turns new → Bool
known_over n known old new [] run = known
known_over n known old new (turn ∷ turns) run =
    known_over n (known_after n known old turn) run.0 new turns run.2

-- queued reads and writes, and commands without data; the commands of slot 30 read a page, or reset
abbrev pub is_asked : Kind → Bool
is_asked QueuedRead = true
is_asked QueuedWrite = true
is_asked DmaIn = false
is_asked DmaOut = false
is_asked PioIn = false
is_asked PioOut = false
is_asked NoData = true
is_asked Control = false

-- the FIS is the command of a request
abbrev pub is_request : List ℕ → Bool
is_request bytes = match_some (request_at bytes) false (λ request. is_asked (kind_of request))

-- Over every list of turns of the host from its opening: a device that is ready is known, and so is one of
-- which a request is issued, and one to which the command of a request goes out.
pub record DevicesAreKnown : Type 0 where
  pub ready : (given : ℕ) (start : Memory) → IsHostMemory start → (turns : List HostTurn) (h : Host)
      (run : DoesAll (opening_host given start) turns h) (n : ℕ) → n < 15
      → device_at h.driver.plan n ≡ Ready
      → known_over n false (opening_host given start) h turns run ≡ true
  pub issued : (given : ℕ) (start : Memory) → IsHostMemory start → (turns : List HostTurn) (h : Host)
      (run : DoesAll (opening_host given start) turns h) (s : ℕ) (e : Entry)
      → entry_at h.driver.entries s ≡ Some e → is_issued e.head ≡ true
      → known_over e.head.dev false (opening_host given start) h turns run ≡ true
  pub pushed : (given : ℕ) (start : Memory) → IsHostMemory start → (turns : List HostTurn) (h : Host)
      (run : DoesAll (opening_host given start) turns h) (frame : Stamped) (after : Host)
      → Does h (Pushed (Some frame)) after → frame.stamp.port < 15 → is_request frame.bytes ≡ true
      → known_over frame.stamp.port false (opening_host given start) h turns run ≡ true
