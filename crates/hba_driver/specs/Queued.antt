-- From its submit to its issue, and on until its end, a request stays with the device for which it was taken.
-- No tick in between flushes the device, and what goes out as its command is known by its slot (AHCI 1.3.1,
-- 5.3, how a port sends commands, and chapter 9, FIS-based Switching; Serial ATA 3.x, 16.3, port multiplier:
-- presence of a device on a port).
--
-- Cited: requests that wait or are issued (specs/Tended.antt); the flush of a device, and the commands of
-- requests (specs/Known.antt).
use Rattle.std.specs.Prelude.{ℕ, ◌≡◌, ◌<◌, true, false, List, Some}
use Rattle.fis_view.specs.Frames.{Stamped}
use Rattle.host_memory.specs.Memory.{IsHostMemory, Memory}
use Rattle.hba_commands.specs.declared.command.Command.{Command}
use Rattle.hba_fbs.specs.Sending.{Order, outgoing}
use Rattle.hba_driver.specs.{declared.{plan.Device.TheVariants.Ready, request.Request.Request, slot.Phase.TheVariants.Waits}, Drivers.Entry}
use Rattle.hba_driver.specs.{Drivers.{device_at, entry_at, is_issued, rephased}, Events.opening_host, HostTurns.{Does, DoesAll, Host, HostTurn}}
use Rattle.hba_driver.specs.{HostTurns.{Pushed, Submitted}, Known.{is_flushed, is_request}, Submits.new_entry, Tended.IsLiveAt}

-- Where a request of device n comes from that waits or is issued after a turn.
pub data IsQueuedBy (n s : ℕ) (old : Host) (turn : HostTurn) (e : Entry) : Type 0 where
  -- it waited or was issued before the turn, which does not flush the device
  Stood : (was : Entry) → IsLiveAt n s old.driver.entries was → rephased Waits was ≡ rephased Waits e
      → is_flushed n old turn ≡ false → IsQueuedBy n s old turn e
  -- the turn took it, for a device that is ready
  Taken : (request : Request) (ticket : ℕ) → turn ≡ Submitted n request ticket
      → device_at old.driver.plan n ≡ Ready → new_entry ticket n request ≡ e
      → is_flushed n old turn ≡ false → IsQueuedBy n s old turn e

-- the frame that goes out next is the command of a request that is issued in its slot
pub record IsCommandOf (slot : ℕ) (e : Entry) (h : Host) (frame : Stamped) : Type 0 where
  pub command : Command
  pub next : outgoing h.port h.memory ≡ Order e.head.dev slot command
  pub bytes : frame.bytes ≡ command.cfis
  pub port : frame.stamp.port ≡ e.head.dev
  pub stands : entry_at h.driver.entries slot ≡ Some e
  pub issued : is_issued e.head ≡ true

-- the frame is the command of one of the requests
pub record IsSomeCommand (h : Host) (frame : Stamped) : Type 0 where
  pub slot : ℕ
  pub entry : Entry
  pub of : IsCommandOf slot entry h frame

pub record RequestsStay : Type 0 where
  -- a request that waits or is issued did so before, and its device was not flushed since
  pub stays : (n s : ℕ) (old : Host) (turn : HostTurn) (new : Host) → Does old turn new → (e : Entry)
      → IsLiveAt n s new.driver.entries e → IsQueuedBy n s old turn e
  -- the command of a request that goes out is that of one issued in its slot, for its device
  pub goes : (given : ℕ) (start : Memory) → IsHostMemory start → (turns : List HostTurn) (h : Host)
      (run : DoesAll (opening_host given start) turns h) (frame : Stamped) (after : Host)
      → Does h (Pushed (Some frame)) after → frame.stamp.port < 15 → is_request frame.bytes ≡ true
      → IsSomeCommand h frame
