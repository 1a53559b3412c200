-- What a host delivers, over any turns since its opening: which frame completes what, where the bytes of a
-- read are, what every byte of client memory is, and that what is issued is apart (AHCI 1.3.1, 4.2.3.3,
-- Physical Region Descriptor Table, and 5.3, data transfer; Serial ATA 3.x, 10.5, FIS types).
--
-- Cited from `hba_laws`: what a device's history issues, fills and completes (specs/History.antt), the
-- history of each device and the byte at an address of client memory (specs/Client.antt), and what a report
-- tells (specs/Delivering.antt).
use Rattle.std.specs.Prelude.{ℕ, ◌≡◌, ◌≢◌, ◌+◌, ◌-◌, ◌<◌, ◌≤◌, ◌||◌, true, false, List, [], ◌++◌, length, slice_index, Some}
use Rattle.host_memory.specs.{Memory.{IsHostMemory, Memory, client_start}, Place.{AreInside, LiesInClient, place}, Reading.share_with}
use Rattle.slots.specs.Slots.{has_bit, match_some}
use Rattle.hba_fbs.specs.{declared.report.TakeReport.TakeReport, Taking.port_of}
use Rattle.hba_laws.specs.{Client.{AreApart, IsKept, IsReading, Touches, own}, Delivering.{IsClient, ReportsDone, touched, touches_after}}
use Rattle.hba_laws.specs.History.{History, Transfer, completions, filled, issued}
use Rattle.hba_laws.specs.Hosts as event
use Rattle.hba_driver.specs.{declared.mode.Mode.Mode, Drivers.{Entry, entry_at, is_read}, Events.{TurnsTell, events_over, opening_host_in, shared_by}}
use Rattle.hba_driver.specs.{HostTurns.{Does, DoesAll, Host, HostTurn, Took}, Served.{IssuesAreRequests, RunServes}}

-- the host came here from its opening in this mode by these turns
pub record HasCome (mode : Mode) (given : ℕ) (start : Memory) (turns : List HostTurn) (h : Host) : Type 0 where
  pub does : DoesAll (opening_host_in mode given start) turns h
  pub serves : RunServes (opening_host_in mode given start) h turns does []

-- what was touched since, the latest first
abbrev pub touches_of : (mode : Mode) (given : ℕ) (start : Memory) (turns : List HostTurn) (h : Host)
    → HasCome mode given start turns h → Touches
touches_of mode given start turns h c =
    touches_after [] (shared_by (opening_host_in mode given start)) (shared_by h)
    (events_over (opening_host_in mode given start) h turns c.does) c.serves.runs

-- ---- a frame is taken

-- byte i of what device n has issued in slot s is filled, and is at its place in client memory
pub record IsAtItsPlace (n s i : ℕ) (t : Transfer) (touches : Touches) (memory : Memory) : Type 0 where
  pub inside : LiesInClient (length memory.client) (place t.table i) 1
  pub byte : ℕ
  pub is_filled : filled s (own n touches) i ≡ Some byte
  pub stands : slice_index memory.client (place t.table i - client_start) ≡ byte

-- A frame is taken. The report has exactly the bits of the slots that the frame completes, by the history of
-- its own device. Every byte of a read that is reported as done is filled by that device's Data and is at its
-- place.
pub record TookDelivers (h : Host) (past : Touches) (frame : List ℕ) (report : TakeReport) (after : Host)
    : Type 0 where
  pub reported : ReportsDone (shared_by h) frame report (own (port_of frame) past)
  pub placed : (s i : ℕ) (t : Transfer) → s < 32 → has_bit report.done s ≡ true
      → IsReading (port_of frame) s t past → i < t.work.len
      → IsAtItsPlace (port_of frame) s i t
      (touched (shared_by h) (event.Took frame report) ++ past) after.memory

-- in this history, what was last issued in slot s completes at most once, and not while it is issued
abbrev pub CompletesAtMostOnce : ℕ → History → Type 0
CompletesAtMostOnce s past = completions s past + match_some (issued s past) 0 (λ t. 1) ≤ 1

-- ---- what is issued

-- this is issued in slot s of device n
abbrev pub IsIssued : (n s : ℕ) → Transfer → Touches → Type 0
IsIssued n s t touches = issued s (own n touches) ≡ Some t

-- Requests, and what is issued at the port, share no byte if one of the two reads. What clients put leaves
-- the issued reads alone.
pub record IssuesAreApart (h : Host) (touches : Touches) : Type 0 where
  -- two requests that are not polled yet, of which one reads, share no byte
  pub requests : (s r : ℕ) (e f : Entry) → entry_at h.driver.entries s ≡ Some e
      → entry_at h.driver.entries r ≡ Some f → s ≢ r → (is_read e.head.work || is_read f.head.work) ≡ true
      → share_with e.prds f.prds ≡ false
  -- what is issued is a request of the driver's with its own PRDs, a command of slot 30, which reads into the
  -- driver's buffer or moves no data, or an order, which moves no data
  pub issues : IssuesAreRequests h.driver touches
  -- a slot is issued to one device at a time
  pub owner : (n m s : ℕ) (t u : Transfer) → IsIssued n s t touches → IsIssued m s u touches → n ≡ m
  -- all its PRDs lie in the client area
  pub inside : (n s : ℕ) (t : Transfer) → IsIssued n s t touches
      → AreInside (length h.memory.client) t.table
  -- so issued reads share no byte
  pub apart : AreApart touches
  -- the same held wherever Data came, and what clients put left them alone
  pub kept : IsKept touches

-- ---- all of it

-- the byte of a memory at an address of its client area
abbrev pub byte_at : Memory → ℕ → ℕ
byte_at memory k = slice_index memory.client (k - client_start)

-- Over every list of turns from an opening.
pub record HostDelivers (mode : Mode) (given : ℕ) (start : Memory) (turns : List HostTurn) (h : Host)
    (c : HasCome mode given start turns h) : Type 0 where
  pub took : (frame : List ℕ) (report : TakeReport) (after : Host) → Does h (Took frame report) after
      → TookDelivers h (touches_of mode given start turns h c) frame report after
  -- each issue completes at most once: this holds at every moment of a device's history
  pub once : (n s : ℕ) (later past : History) → own n (touches_of mode given start turns h c) ≡ later ++ past
      → CompletesAtMostOnce s past
  -- each client byte is that of the opening, except for what clients put and what Data filled at its place
  pub client : IsClient (byte_at start) (touches_of mode given start turns h c) (shared_by h)
  -- the frames that come and go and the bytes that clients put are those of the turns
  pub tells : TurnsTell (opening_host_in mode given start) h turns c.does

-- in each mode
pub record TurnsDeliver : Type 0 where
  pub comes : (mode : Mode) (given : ℕ) (start : Memory) → IsHostMemory start → (turns : List HostTurn) (h : Host)
      → DoesAll (opening_host_in mode given start) turns h → HasCome mode given start turns h
  pub delivers : (mode : Mode) (given : ℕ) (start : Memory) → IsHostMemory start → (turns : List HostTurn) (h : Host)
      (c : HasCome mode given start turns h) → HostDelivers mode given start turns h c
  pub apart : (mode : Mode) (given : ℕ) (start : Memory) → IsHostMemory start → (turns : List HostTurn) (h : Host)
      (c : HasCome mode given start turns h) → IssuesAreApart h (touches_of mode given start turns h c)
