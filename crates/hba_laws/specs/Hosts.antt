-- What happens at a host port and in the memory beside it, as a list of events: AHCI 1.3.1, chapter 5 (what
-- the port does) and chapter 9 (FIS-based Switching).
use Rattle.std.specs.Prelude.{ℕ, ◌≡◌, ◌+◌, ◌*◌, ◌-◌, ◌<◌, ◌≤◌, true, false, List, [], ◌∷◌, length, Option, None}
use Rattle.fis_view.specs.Frames.{Stamped}
use Rattle.host_memory.specs.{Memory.{Memory, client_start, overwritten}, Place.LiesInClient}
use Rattle.hba_fbs.specs.{declared.{register.Register.Register, report.TakeReport.TakeReport}, Posting.area_at, Sending.{Gives, outgoing}}
use Rattle.hba_fbs.specs.{Taking.{Hears, Ignores, ignores, port_of}, Views.{Flushes, Port}, Writing.{Accepts, refusal_of}}

-- a port, and the memory that it shares with its software
pub record Host : Type 0 where
  pub port : Port
  pub memory : Memory

-- one event
pub data HostEvent : Type 0 where
  -- a frame is received, with this report
  Took : (frame : List ℕ) → (report : TakeReport) → HostEvent
  -- a value is written to a register and not refused
  Wrote : (register : Register) → (value : ℕ) → HostEvent
  -- a device is flushed
  Flushed : (dev : ℕ) → HostEvent
  -- the port is asked for a frame, and gives this one, or none
  Gave : (frame : Option Stamped) → HostEvent
  -- the software writes the structure area, except the received area
  Stored : (structure : List ℕ) → HostEvent
  -- the software writes a device's row of the received area
  Rewrote : (dev : ℕ) → (row : List ℕ) → HostEvent
  -- the software writes bytes of the client area
  Put : (at : ℕ) → (bytes : List ℕ) → HostEvent

-- ---- what each event leaves: the contracts of the calls

-- a frame is received: it is ignored or heard
pub record TakesFrame (old : Host) (frame : List ℕ) (report : TakeReport) (new : Host) : Type 0 where
  pub ignored : ignores (port_of frame) old.port frame ≡ true
      → Ignores (port_of frame) old.port old.memory report new.port new.memory
  pub heard : ignores (port_of frame) old.port frame ≡ false
      → Hears (port_of frame) old.port old.memory frame report new.port new.memory

-- the structure area gets new bytes of the same length; the received area stays
pub record StoresStructure (fb : ℕ) (old : Memory) (structure : List ℕ) (new : Memory) : Type 0 where
  pub as_long : length structure ≡ length old.structure
  pub area : area_at structure fb ≡ area_at old.structure fb
  pub after : new ≡ record old { structure = structure }

-- a row of the received area is written
pub record WritesRow (fb : ℕ) (old : Memory) (dev : ℕ) (row : List ℕ) (new : Memory) : Type 0 where
  pub dev_below : dev < 16
  pub as_long : length row ≡ 256
  pub inside : fb + 256 * dev + 256 ≤ length old.structure
  pub after : new ≡ record old { structure = overwritten old.structure (fb + 256 * dev) row }

-- bytes of the client area are written
pub record PutsBytes (old : Memory) (at : ℕ) (bytes : List ℕ) (new : Memory) : Type 0 where
  pub inside : LiesInClient (length old.client) at (length bytes)
  pub after : new ≡ record old { client = overwritten old.client (at - client_start) bytes }

abbrev pub Does : Host → HostEvent → Host → Type 0
Does old (Took frame report) new = TakesFrame old frame report new
Does old (Wrote register value) new = (refusal_of register old.port old.memory value ≡ None)
    × Accepts old.port old.memory register value new.port × (new.memory ≡ old.memory)
Does old (Flushed dev) new = Flushes old.port dev new.port × (new.memory ≡ old.memory)
Does old (Gave frame) new =
    Gives (outgoing old.port old.memory) old.port old.memory frame new.port × (new.memory ≡ old.memory)
Does old (Stored structure) new =
    StoresStructure old.port.registers.fb old.memory structure new.memory × (new.port ≡ old.port)
Does old (Rewrote dev row) new =
    WritesRow old.port.registers.fb old.memory dev row new.memory × (new.port ≡ old.port)
Does old (Put at bytes) new = PutsBytes old.memory at bytes new.memory × (new.port ≡ old.port)

-- these events, one after another
abbrev pub Runs : Host → List HostEvent → Host → Type 0
Runs old [] new = new ≡ old
Runs old (event ∷ events) new = (next : Host) × Does old event next × Runs next events new
