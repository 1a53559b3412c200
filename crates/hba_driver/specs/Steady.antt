-- What holds in the driver for a device with which nothing has failed since its flush: how far the driver is
-- with it, which of its requests may be open together, and what a tick does that does not flush it and ends
-- no fault of it (AHCI 1.3.1, 5.5, how commands are issued, and chapter 9, FIS-based Switching; ACS-3,
-- IDENTIFY DEVICE, FLUSH CACHE EXT and queued commands; Serial ATA 3.x, 10.5.6, signatures).
use Rattle.std.specs.Prelude.{ℕ, ◌≡◌, ◌≢◌, ◌^◌, ◌<◌, ◌⊎◌, ◌==◌, ◌&&◌, Bool, true, false, List, [], ◌∷◌, Option, Some, None, Ok, is_some}
use Rattle.fis_view.specs.Seen.{seen}
use Rattle.fis_view.specs.declared.view.Fis.TheVariants as view
use Rattle.host_memory.specs.Memory.{zeroed}
use Rattle.hba_fbs.specs.{declared.register.Register.{Register, TheVariants.{Ci, Cmd, Fbs}}, Issuing.{aimed, asked}, Registers.falls, Taking.port_of}
use Rattle.hba_fbs.specs.Writing.{cleared_by}
use Rattle.hba_laws.specs.Hosts as event
use Rattle.hba_laws.specs.Hosts.{HostEvent, Runs}
use Rattle.hba_driver.specs.declared.{mode.Mode.TheVariants.Switching, order.Order.{Order, TheVariants.{Clear, Detect}}, path.Path.Path}
use Rattle.hba_driver.specs.declared.{path.Stage.TheVariants.Identify, plan.Device.{Device, TheVariants.{Absent, Ready, Recovering, Starting}}}
use Rattle.hba_driver.specs.{declared.{plan.Plan.Plan, turn.Act.Act}, Drivers.{Driver, Entry, device_at, entry_at, has_ended, new_driver}}
use Rattle.hba_driver.specs.{Events.{IsSoundHost, events_over, opening_host, shared_by}, HostTurns.{Does, DoesAll, Host, HostTurn, Ticked, Took}}
use Rattle.hba_driver.specs.{HostTurns.sight_in, Orders.is_flush, Served.AreBounded, Sights.{is_ata, last_d2h}, Ticks.due}
use Rattle.hba_driver.specs.declared.turn.Act.TheVariants as act

-- ---- the plan

-- the device does not recover
abbrev pub IsFine : Device → Type 0
IsFine (Recovering way) = ⊥
IsFine device = Unit {0}

-- the driver is about to look for a device at this port, after its flush
abbrev pub detects : ℕ → (asked : Bool) → Order → Bool
detects n asked (Detect port) = port == n
detects n asked (Clear port) = asked && (port == n)
detects n asked order = false

-- The device does not recover. Slot 30 works on it only to identify it while it starts. It is looked for only
-- while it is taken to be absent.
pub record IsSteadyPlan (n : ℕ) (plan : Plan) : Type 0 where
  pub fine : IsFine (device_at plan n)
  pub path : (p : Path) → plan.path ≡ Some p → p.dev ≡ n
      → (p.stage ≡ Identify) × ((p.asked ≡ true) × (device_at plan n ≡ Starting))
  pub order : detects n plan.asked plan.order ≡ true → device_at plan n ≡ Absent

-- the device is ready, or slot 30 works on it
abbrev pub IsAskedOf : ℕ → Plan → Type 0
IsAskedOf n plan =
    (device_at plan n ≡ Ready) ⊎ ((p : Path) × ((plan.path ≡ Some p) × (p.dev ≡ n)))

-- ---- requests

-- a request of the device that has not ended
pub record IsOpenAt (n s : ℕ) (entries : List (Option Entry)) (e : Entry) : Type 0 where
  pub stands : entry_at entries s ≡ Some e
  pub of_dev : e.head.dev ≡ n
  pub unended : has_ended e.head ≡ false

-- requests of the device are open only while it is ready, and a Flush is open alone
pub record AreSteady (n : ℕ) (plan : Plan) (entries : List (Option Entry)) : Type 0 where
  pub ready : (s : ℕ) (e : Entry) → IsOpenAt n s entries e → device_at plan n ≡ Ready
  pub alone : (s r : ℕ) (e f : Entry) → IsOpenAt n s entries e → IsOpenAt n r entries f
      → is_flush e.head.work ≡ true → s ≡ r

pub record IsSteady (n : ℕ) (d : Driver) : Type 0 where
  pub plan : IsSteadyPlan n d.plan
  pub requests : AreSteady n d.plan d.entries

-- ---- ticks

-- the act does not flush the device, clears no fault of it, and does not stop the port
abbrev pub IsCalmAct : ℕ → Option Act → Type 0
IsCalmAct n None = Unit {0}
IsCalmAct n (Some act.Stops) = ⊥
IsCalmAct n (Some (act.Clears dev)) = n ≢ dev
IsCalmAct n (Some (act.Orders order)) = order ≢ Clear n
IsCalmAct n (Some a) = Unit {0}

abbrev pub IsCalmTick : ℕ → Host → Type 0
IsCalmTick n old = IsCalmAct n (due (sight_in old) old.driver)

-- the tick flushes the device
abbrev pub IsFlushTick : ℕ → Host → Type 0
IsFlushTick n old = due (sight_in old) old.driver ≡ Some (act.Orders (Clear n))

-- the tick clears a fault of the device
abbrev pub IsClearTick : ℕ → Host → Type 0
IsClearTick n old = due (sight_in old) old.driver ≡ Some (act.Clears n)

-- a turn is not a tick, or is calm for the device
abbrev pub IsSteadyTurn : ℕ → Host → HostTurn → Type 0
IsSteadyTurn n old (Ticked acted) = IsCalmTick n old
IsSteadyTurn n old turn = Unit {0}

-- the driver uses FIS-based switching
abbrev pub IsSwitching : Host → Type 0
IsSwitching h = h.driver.plan.mode ≡ Switching

-- the device's row of the received area shows the signature of a disk
abbrev pub HasSignature : ℕ → Host → Type 0
HasSignature n h = is_ata (seen (last_d2h h.memory.structure n)) ≡ true

-- No Register FIS of the device is taken, and it is not flushed.
abbrev pub IsRowTurn : ℕ → Host → HostTurn → Type 0
IsRowTurn n old (Took frame report) =
    (port_of frame ≢ n) ⊎ ((f : List ℕ) → seen frame ≡ Ok (view.RegD2H f) → ⊥)
IsRowTurn n old (Ticked acted) = IsCalmTick n old
IsRowTurn n old turn = Unit {0}

-- ---- the events of a tick

-- a write of PxCI issues for another device, ST does not fall, and the error of n is not cleared
abbrev pub WritesBeside : ℕ → event.Host → Register → ℕ → Type 0
WritesBeside n host Cmd value = falls host.port.registers value ≡ false
WritesBeside n host Ci value = n ≢ aimed host.port.registers host.memory.structure value
WritesBeside n host Fbs value = cleared_by host.port.errors value ≢ Some n
WritesBeside n host register value = Unit {0}

-- the event does not concern the device, and no frame comes or goes
abbrev pub IsBeside : ℕ → event.Host → HostEvent → Type 0
IsBeside n host (event.Took frame report) = ⊥
IsBeside n host (event.Wrote register value) = WritesBeside n host register value
IsBeside n host (event.Flushed dev) = n ≢ dev
IsBeside n host (event.Gave frame) = ⊥
IsBeside n host (event.Stored structure) = Unit {0}
IsBeside n host (event.Rewrote dev row) = Unit {0}
IsBeside n host (event.Put at bytes) = Unit {0}

-- the event issues the command in this slot for the device
pub record Issues (n slot : ℕ) (host : event.Host) (e : HostEvent) : Type 0 where
  pub is : e ≡ event.Wrote Ci (2 ^ slot)
  pub below : slot < 32
  pub for_dev : aimed host.port.registers host.memory.structure (2 ^ slot) ≡ n
  pub command : is_some (asked host.port.registers host.memory (2 ^ slot) slot) ≡ true

-- the same for each of these events
abbrev pub AreBeside : (n slot : ℕ) → (old new : event.Host) → (events : List HostEvent)
    → Runs old events new → Type 0
AreBeside n slot old new [] run = Unit {0}
AreBeside n slot old new (e ∷ events) run =
    (IsBeside n old e ⊎ Issues n slot old e) × AreBeside n slot run.0 new events run.2

-- ---- the law

-- the slot in which an act issues
abbrev pub slot_of : Option Act → ℕ
slot_of (Some (act.Issues slot dev queued)) = slot
slot_of (Some (act.Steps dev stage)) = 30
slot_of a = 31

abbrev pub slot_in : Host → ℕ
slot_in old = slot_of (due (sight_in old) old.driver)

pub record TurnsAreSteady (n : ℕ) : Type 0 where
  -- when the driver opens
  pub opens : (given : ℕ)
      → IsSteady n (new_driver given) × (IsAskedOf n (new_driver given).plan → ⊥)
  -- after the device's flush
  pub flushed : (old : Host) (acted : Bool) (new : Host) → Does old (Ticked acted) new
      → IsFlushTick n old → IsSteady n new.driver × (IsAskedOf n new.driver.plan → ⊥)
  pub stays : (old : Host) (turn : HostTurn) (new : Host) → Does old turn new
      → IsSteadyTurn n old turn → IsSteady n old.driver → IsSteady n new.driver
  -- with FIS-based switching it is asked for nothing before its signature came
  pub asks : (old : Host) (turn : HostTurn) (new : Host) → Does old turn new → IsSwitching old
      → IsSteadyTurn n old turn → IsSteady n old.driver → IsAskedOf n new.driver.plan
      → IsAskedOf n old.driver.plan ⊎ HasSignature n old
  -- its row of the received area is empty when the host opens beside zeros and after its flush, and stays empty
  pub opens_row : (given len : ℕ) → n < 16 → HasSignature n (opening_host given (zeroed len)) → ⊥
  pub flushed_row : (old : Host) (acted : Bool) (new : Host) → n < 16
      → Does old (Ticked acted) new → IsSoundHost old → IsFlushTick n old → HasSignature n new → ⊥
  pub rows : (old : Host) (turn : HostTurn) (new : Host) → n < 16 → Does old turn new
      → IsSoundHost old → IsRowTurn n old turn → HasSignature n new → HasSignature n old
  -- the events of a calm tick
  pub events : (old : Host) (acted : Bool) (new : Host)
      (run : DoesAll old (Ticked acted ∷ []) new)
      → IsSoundHost old → AreBounded old.driver → IsCalmTick n old
      → (happens : Runs (shared_by old) (events_over old new (Ticked acted ∷ []) run)
      (shared_by new))
      → AreBeside n (slot_in old) (shared_by old) (shared_by new)
      (events_over old new (Ticked acted ∷ []) run) happens

abbrev pub EachIsSteady : Type 0
EachIsSteady = (n : ℕ) → TurnsAreSteady n
