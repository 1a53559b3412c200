-- What the host does, turn by turn: host port, driver and memory together. A frame that is taken or asked for
-- leaves the driver as it is. What the driver does between two ticks leaves the port as it is. Whatever holds
-- for every port by itself holds after a turn too.
use Rattle.std.specs.{Prelude.{ℕ, ◌≡◌, ◌-◌, Bool, true, false, List, [], ◌∷◌, ◌++◌, length, Option, Some, None}, List.list_all}
use Rattle.fis_view.specs.Frames.{IsFrame, Stamped}
use Rattle.host_memory.specs.{Memory.{IsHostMemory, Memory, client_start, overwritten}, Place.LiesInClient}
use Rattle.hba_fbs.specs.{declared.report.TakeReport.TakeReport, Sending.{Gives, outgoing}, Taking.{Hears, Ignores, ignores, port_of}, Views.Port}
use Rattle.hba_driver.specs.{declared.{request.Completion.Completion, request.Request.Request}, Seeing.Sight, declared.turn.Act.Act}
use Rattle.hba_driver.specs.{Drivers.{Driver, Entry, entry_at}, Effects.{ActsAll, IsRuled, is_effect}, Requests.in_use, Sights.{file_shown, sight_of}}
use Rattle.hba_driver.specs.{Submits.{Takes, after_poll, completion_of, submit_refusal}, Ticks.{acts, after_tick, due, effects, seen}}
use Rattle.hba_driver.specs.declared.turn.Act.TheVariants as act

pub record Host : Type 0 where
  pub port : Port
  pub driver : Driver
  pub memory : Memory

pub data HostTurn : Type 0 where
  -- the port takes a frame
  Took : (frame : List ℕ) → (report : TakeReport) → HostTurn
  -- the port is asked for a frame and gives this one, or none; if it finds a spoilt table, that stops it
  Pushed : (frame : Option Stamped) → HostTurn
  -- the driver ticks, and says whether it acted
  Ticked : (acted : Bool) → HostTurn
  -- a request for a device is taken under this ticket
  Submitted : (dev : ℕ) → (request : Request) → (ticket : ℕ) → HostTurn
  -- an ended request is polled
  Polled : (completion : Completion) → HostTurn
  -- a client writes bytes that are not in use
  Put : (at : ℕ) → (bytes : List ℕ) → HostTurn

pub record Tooks (old : Host) (frame : List ℕ) (report : TakeReport) (new : Host) : Type 0 where
  pub framed : IsFrame frame
  pub driver : new.driver ≡ old.driver
  pub ignored : ignores (port_of frame) old.port frame ≡ true
      → Ignores (port_of frame) old.port old.memory report new.port new.memory
  pub heard : ignores (port_of frame) old.port frame ≡ false
      → Hears (port_of frame) old.port old.memory frame report new.port new.memory
  pub ruled : IsRuled new.port

pub record Pushes (old : Host) (frame : Option Stamped) (new : Host) : Type 0 where
  pub gives : Gives (outgoing old.port old.memory) old.port old.memory frame new.port
  pub driver : new.driver ≡ old.driver
  pub memory : new.memory ≡ old.memory
  pub ruled : IsRuled new.port

abbrev pub sight_in : Host → Sight
sight_in h = sight_of h.driver.plan.mode h.port h.memory

pub record Ticks (old : Host) (acted : Bool) (new : Host) : Type 0 where
  pub driver : new.driver ≡ after_tick (sight_in old) (file_shown new.port) old.driver
  pub does : ActsAll (effects (sight_in old) old.driver) old.port old.memory new.port new.memory
  pub answer : acted ≡ acts (sight_in old) old.driver
  pub possible : list_all is_effect (effects (sight_in old) old.driver) ≡ true
  pub ruled : IsRuled new.port

pub record Submits (old : Host) (dev : ℕ) (request : Request) (ticket : ℕ) (new : Host) : Type 0 where
  pub accepted : submit_refusal old.driver old.memory dev request ≡ None
  pub taken : Takes old.driver old.memory dev request ticket new.driver new.memory
  pub port : new.port ≡ old.port

pub record Polls (old : Host) (completion : Completion) (new : Host) : Type 0 where
  pub polled : completion_of old.driver ≡ Some completion
  pub driver : new.driver ≡ after_poll old.driver
  pub port : new.port ≡ old.port
  pub memory : new.memory ≡ old.memory

pub record Puts (old : Host) (at : ℕ) (bytes : List ℕ) (new : Host) : Type 0 where
  pub inside : LiesInClient (length old.memory.client) at (length bytes)
  pub unused : in_use old.driver at (length bytes) ≡ false
  pub memory : new.memory
      ≡ record old.memory { client = overwritten old.memory.client (at - client_start) bytes }
  pub driver : new.driver ≡ old.driver
  pub port : new.port ≡ old.port

-- what a turn does
abbrev pub Does : Host → HostTurn → Host → Type 0
Does old (Took frame report) new = Tooks old frame report new
Does old (Pushed frame) new = Pushes old frame new
Does old (Ticked acted) new = Ticks old acted new
Does old (Submitted dev request ticket) new = Submits old dev request ticket new
Does old (Polled completion) new = Polls old completion new
Does old (Put at bytes) new = Puts old at bytes new

-- one turn after another
abbrev pub DoesAll : Host → List HostTurn → Host → Type 0
DoesAll old [] new = new ≡ old
DoesAll old (turn ∷ turns) new = (mid : Host) × Does old turn mid × DoesAll mid turns new

-- ---- tickets

-- the tickets that are given in these turns
abbrev pub given_in : List HostTurn → List ℕ
given_in [] = []
given_in (Took frame report ∷ turns) = given_in turns
given_in (Pushed frame ∷ turns) = given_in turns
given_in (Ticked acted ∷ turns) = given_in turns
given_in (Submitted dev request ticket ∷ turns) = ticket ∷ given_in turns
given_in (Polled completion ∷ turns) = given_in turns
given_in (Put at bytes ∷ turns) = given_in turns

-- the tickets that are polled
abbrev pub polled_by : HostTurn → List ℕ
polled_by (Polled completion) = completion.ticket.0 ∷ []
polled_by _ = []

abbrev pub polled_in : List HostTurn → List ℕ
polled_in [] = []
polled_in (turn ∷ turns) = polled_by turn ++ polled_in turns

-- the tickets that a tick issues
abbrev pub ticket_of : Option Entry → List ℕ
ticket_of None = []
ticket_of (Some entry) = entry.head.ticket ∷ []

abbrev pub issued_by_act : Option Act → List (Option Entry) → List ℕ
issued_by_act None entries = []
issued_by_act (Some (act.Opens k)) entries = []
issued_by_act (Some act.Stops) entries = []
issued_by_act (Some (act.Restarts k)) entries = []
issued_by_act (Some (act.Clears dev)) entries = []
issued_by_act (Some (act.Orders order)) entries = []
issued_by_act (Some (act.Steps dev stage)) entries = []
issued_by_act (Some (act.Issues slot dev queued)) entries = ticket_of (entry_at entries slot)

abbrev pub issued_in_tick : Sight → Driver → List ℕ
issued_in_tick v d = issued_by_act (due v d) (seen v d).entries

abbrev pub issued_by : Host → HostTurn → List ℕ
issued_by old (Ticked acted) = issued_in_tick (sight_in old) old.driver
issued_by old _ = []

-- the tickets that are issued over the turns
abbrev pub issued_over : (old new : Host) → (turns : List HostTurn) → DoesAll old turns new → List ℕ
issued_over old new [] run = []
issued_over old new (turn ∷ turns) run = issued_by old turn ++ issued_over run.0 new turns run.2

-- ---- the hosts of a run

-- What holds for the hosts of a run: the rules of port, driver and memory by themselves; and the received
-- area of a port that runs is the driver's.
pub record IsHost (h : Host) : Type 0 where
  pub memory : IsHostMemory h.memory
  pub area : h.port.registers.started ≡ true → h.port.registers.fb ≡ 0x1000

abbrev pub AreHosts : (old new : Host) → (turns : List HostTurn) → DoesAll old turns new → Type 0
AreHosts old new [] run = IsHost old
AreHosts old new (turn ∷ turns) run = IsHost old × AreHosts run.0 new turns run.2
