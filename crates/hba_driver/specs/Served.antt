-- What is issued at the port is the driver's: a request of its own, its command to a device in slot 30, or an
-- order to the multiplier. So no two issued reads share a byte, no client writes into one, and the PRDs of a
-- command stay while it is issued (AHCI 1.3.1, 4.2.3.3, Physical Region Descriptor Table, and 5.5, how
-- commands are issued).
use Rattle.std.specs.Prelude.{ℕ, ◌≡◌, ◌+◌, ◌<◌, ◌≤◌, ◌⊎◌, true, false, List, [], ◌∷◌, length, Some}
use Rattle.fis_view.specs.{Built.{IsBuilt, h2d_given}, Table.{H2d, PmPort, field}, declared.build.H2dFields.H2dFields}
use Rattle.host_memory.specs.{Memory.{IsHostMemory, Memory}, Place.total_of, Reading.{have_overlap, prds_at, share_with}}
use Rattle.hba_commands.specs.{declared.command.Command.Command, Commands.cfis_at, Headers.header_at}
use Rattle.hba_commands.specs.{Requests.{request_at, request_of, work_of as moved_by}, Writing.header_for}
use Rattle.slots.specs.Work as moved
use Rattle.hba_fbs.specs.Views.{Port, last_command}
use Rattle.hba_laws.specs.{Agreement.AreHistoriesOf, Client.{IsKept, Touches, own}, Delivering.{AreSpared, IsSound, touches_after}}
use Rattle.hba_laws.specs.{History.{Transfer, issued}, Hosts.Runs}
use Rattle.hba_laws.specs.Hosts as event
use Rattle.hba_driver.specs.declared.{mode.Mode.{Mode, TheVariants.{Switching, CommandBased}}, path.Path.Path, slot.Head.Head}
use Rattle.hba_driver.specs.{Drivers.{Driver, Entry, IsPath, entry_at, is_issued, is_read, new_driver_in}, Effects.{buffer_prd, prds_with, table_of}}
use Rattle.hba_driver.specs.{Events.{IsSoundHostIn, events_over, opening_host_in, shared_by}, HostTurns.{DoesAll, Host, HostTurn}}
use Rattle.hba_driver.specs.{Orders.{control_port, is_queued, request_fields}, Paths.{reads_page, stage_fields}}

-- ---- what a request wrote

-- its command is in the structure area: header, command FIS and PRDs
pub record HasCommand (s : ℕ) (e : Entry) (memory : Memory) : Type 0 where
  pub header : header_at memory.structure 0 s
      ≡ header_for (request_of (request_fields s e.head)) (table_of s) (length e.prds)
  pub request : request_at (cfis_at memory.structure (table_of s))
      ≡ Some (request_of (request_fields s e.head))
  -- each field of the command FIS is the request's, and no other bit is set
  pub cfis : IsBuilt H2d (h2d_given (request_fields s e.head))
      (cfis_at memory.structure (table_of s))
  pub entries : prds_at memory.structure (table_of s + 128) (length e.prds) ≡ e.prds

-- the same for each request that is not polled yet
abbrev pub HaveCommands : Driver → Memory → Type 0
HaveCommands d memory =
    (s : ℕ) (e : Entry) → entry_at d.entries s ≡ Some e → HasCommand s e memory

-- a read or a write has 1 to 256 sectors, the first below 2^48
pub record HasSize (head : Head) : Type 0 where
  pub some : 0 < head.sectors
  pub most : head.sectors ≤ 256
  pub place : head.lba < 0x1000000000000

-- a request is to a fan-out port; its PRDs are few enough and apart from the driver's buffer
pub record IsBounded (e : Entry) : Type 0 where
  pub dev : e.head.dev < 15
  pub size : is_queued e.head.work ≡ true → HasSize e.head
  pub few : length e.prds ≤ 248
  pub beyond : share_with (buffer_prd ∷ []) e.prds ≡ false

pub record AreBounded (d : Driver) : Type 0 where
  pub devices : length d.plan.devices ≡ 15
  pub path : IsPath d.plan.path
  pub slots : length d.entries ≡ 30
  pub entries : (s : ℕ) (e : Entry) → entry_at d.entries s ≡ Some e → IsBounded e

-- ---- what is issued

-- a request that the driver issued in slot s, with its PRDs
pub record IsRequest (d : Driver) (n s : ℕ) (t : Transfer) : Type 0 where
  pub slot : s < 30
  pub entry : Entry
  pub stands : entry_at d.entries s ≡ Some entry
  pub of_dev : entry.head.dev ≡ n
  pub goes : is_issued entry.head ≡ true
  pub table : t.table ≡ entry.prds
  pub reads : moved.is_read t.work.kind ≡ true → is_read entry.head.work ≡ true

-- the command of the path that has slot 30, which reads into the driver's buffer or moves no data
pub record IsStep (d : Driver) (n s : ℕ) (t : Transfer) : Type 0 where
  pub slot : s ≡ 30
  pub path : Path
  pub goes : d.plan.path ≡ Some path
  pub asked : path.asked ≡ true
  pub of_dev : path.dev ≡ n
  pub table : t.table ≡ prds_with (reads_page path.stage)

-- an order to the control port of the multiplier, which moves no data
pub record IsOrdered (d : Driver) (n s : ℕ) (t : Transfer) : Type 0 where
  pub slot : s ≡ 31
  pub of_dev : n ≡ control_port
  pub goes : d.plan.asked ≡ true
  pub table : t.table ≡ []

-- in each case the PRDs have the command's bytes, and are apart
pub record IsIssueOf (d : Driver) (n s : ℕ) (t : Transfer) : Type 0 where
  pub dev : n < 16
  pub from : IsRequest d n s t ⊎ (IsStep d n s t ⊎ IsOrdered d n s t)
  pub total : total_of t.table ≡ t.work.len
  pub apart : have_overlap t.table ≡ false

abbrev pub IssuesAreRequests : Driver → Touches → Type 0
IssuesAreRequests d past =
    (n s : ℕ) (t : Transfer) → issued s (own n past) ≡ Some t → IsIssueOf d n s t

-- ---- what goes out

-- the command FIS is built from these fields, and the command moves what they ask for
pub record IsBuiltOf (fields : H2dFields) (t : Transfer) (command : Command) : Type 0 where
  pub cfis : IsBuilt H2d (h2d_given fields) command.cfis
  pub work : t.work ≡ moved_by (request_of fields)

-- What goes out of a slot has its device as PM Port. It is the command of the request in the slot, or of the
-- path that has slot 30.
pub record IsFisOf (d : Driver) (n s : ℕ) (t : Transfer) (command : Command) : Type 0 where
  pub to_dev : field H2d PmPort command.cfis ≡ n
  pub of_request : (e : Entry) → s < 30 → entry_at d.entries s ≡ Some e
      → IsBuiltOf (request_fields s e.head) t command
  pub of_step : (path : Path) (fields : H2dFields) → s ≡ 30 → d.plan.path ≡ Some path
      → path.asked ≡ true → stage_fields path.dev path.stage ≡ Some fields
      → IsBuiltOf fields t command

-- the same for each command that is issued
abbrev pub FisesAreTheirs : Driver → Port → Touches → Type 0
FisesAreTheirs d port past =
    (n s : ℕ) (t : Transfer) (command : Command) → issued s (own n past) ≡ Some t
    → last_command port.commands s ≡ Some command → IsFisOf d n s t command

-- with command-based switching all that is issued is issued to one device
abbrev pub AreOfOne : Mode → Touches → Type 0
AreOfOne Switching past = Unit {0}
AreOfOne CommandBased past = (n m s r : ℕ) (t u : Transfer) → issued s (own n past) ≡ Some t
    → issued r (own m past) ≡ Some u → n ≡ m

-- the command that was last issued in a slot has the slot's own table
pub record HasItsTable (s : ℕ) (command : Command) : Type 0 where
  pub table : command.table ≡ table_of s
  pub few : command.count ≤ 248

-- ---- what holds for port, driver and memory after these touches

pub record IsServed (d : Driver) (h : event.Host) (past : Touches) : Type 0 where
  pub told : AreHistoriesOf h past
  pub bounded : AreBounded d
  pub commands : HaveCommands d h.memory
  pub issues : IssuesAreRequests d past
  pub fises : FisesAreTheirs d h.port past
  pub one : AreOfOne d.plan.mode past
  pub tables : (s : ℕ) (command : Command) → last_command h.port.commands s ≡ Some command
      → HasItsTable s command

-- ---- the law

-- The events of turns run from port and memory before them to port and memory after them. Over them the PRDs
-- of a command stay while it is issued. Where Data comes the issued reads are apart, and what a client writes
-- leaves their places alone.
pub record RunServes (old new : Host) (turns : List HostTurn) (run : DoesAll old turns new)
    (past : Touches) : Type 0 where
  pub runs : Runs (shared_by old) (events_over old new turns run) (shared_by new)
  pub sound : IsSound (shared_by old) (shared_by new) (events_over old new turns run) runs
  pub spared : AreSpared (shared_by old) (shared_by new) (events_over old new turns run) runs
  pub kept : IsKept past
      → IsKept (touches_after past (shared_by old) (shared_by new) (events_over old new turns run) runs)
  pub last : IsServed new.driver (shared_by new)
      (touches_after past (shared_by old) (shared_by new) (events_over old new turns run) runs)

-- in each mode
pub record TurnsServe : Type 0 where
  -- nothing is issued at a new port
  pub opens : (mode : Mode) (given : ℕ) (start : Memory) → IsHostMemory start
      → IsServed (new_driver_in mode given) (shared_by (opening_host_in mode given start)) []
  pub runs : {mode : Mode} (old new : Host) (turns : List HostTurn) (run : DoesAll old turns new)
      → IsSoundHostIn mode old → (past : Touches) → IsServed old.driver (shared_by old) past
      → RunServes old new turns run past
