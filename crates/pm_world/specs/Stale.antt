-- No stale command: a device takes the command of a request only on the connection on which the last
-- IDENTIFY data that the host accepted for its port were sent (Serial ATA 3.x, 16.3, port multiplier:
-- presence of a device on a port; ACS-3, IDENTIFY DEVICE). So no request reaches another device than
-- the one that was identified.
use Rattle.std.specs.Prelude.{ℕ, ◌≡◌, ◌<◌, ◌==◌, ◌&&◌, if◌then◌else◌, Bool, false, true, List, [], ◌∷◌, length, take, Option, Some, None, slice_get}
use Rattle.std.specs.List.{list_any}
use Rattle.fis_view.specs.Frames.{Stamped}
use Rattle.hba_driver.specs.{HostTurns.sight_in, Known.{is_identity, is_request}, Laws.flushes, Ticks.effects}
use Rattle.pm_control.specs.Requests.{request_in}
use Rattle.multiplier.specs.{Arbiter.control_port, State.pm_port}
use Rattle.pm_registers.specs.{Bits.shares, Port.{bit_x, is_open}}
use Rattle.pm_registers.specs.RegisterMap as map
use Rattle.pm_world.specs.{Attached.Attached, Cleared.clears_x, Downward.{on_down_link, pushed_by}, Places.{Place, Places, is_config, new_world}}
use Rattle.pm_world.specs.{Rules.Run, Runs.Telling, declared.{step.Config.Config, step.Step.Step, step.Answer.Answer}}
use Rattle.pm_world.specs.declared.step.Answer.TheVariants as answer

-- ---- IDENTIFY data

-- the connection on which IDENTIFY data of port n were sent that the host accepted in this step: a
-- FIS from which it wrote bytes for an IDENTIFY DEVICE
abbrev pub identified_by : ℕ → Telling ℕ
identified_by n old s (answer.Took port conn number bytes report) new =
    if port == n && is_identity old.host.port report.wrote then conn ∷ [] else []
identified_by n old s a new = []

-- ---- commands of requests

-- the connection of a device
abbrev pub connection : Option Place → ℕ
connection None = 0
connection (Some place) = place.conn

-- the connection on which the device at port n took the command of a request in this step
abbrev pub commanded_by : ℕ → Telling ℕ
commanded_by n old s (answer.DiskTook port false) new =
    if port == n
    && list_any (λ (f : Stamped). is_request f.bytes)
    (take 1 (on_down_link (slice_get old.devices n)))
    then connection (slice_get old.devices n) ∷ [] else []
commanded_by n old s a new = []

-- ---- the statement

-- the last of these connections, or the one before them
abbrev pub latest : Option ℕ → List ℕ → Option ℕ
latest last [] = last
latest last (c ∷ later) = latest (Some c) later

-- each of them is this one
abbrev pub AreOn : Option ℕ → List ℕ → Type 0
AreOn last [] = Prim.Unit {0}
AreOn last (c ∷ later) = (last ≡ Some c) × AreOn last later

-- In each of these steps the device at port n takes commands of requests only on the connection on
-- which the last IDENTIFY data before that step were sent. The IDENTIFY data before these steps were
-- sent on the given connection.
abbrev pub NoneStale : (n : ℕ) → (last : Option ℕ) → (old : Places) → (steps : List Step)
    → (answers : List Answer) → (new : Places) → Run old steps answers new → Type 0
NoneStale n last old [] answers new run = Prim.Unit {0}
NoneStale n last old (s ∷ steps) [] new run = Prim.Unit {0}
NoneStale n last old (s ∷ steps) (a ∷ answers) new run =
    AreOn last (commanded_by n old s a run.0)
    × NoneStale n (latest last (identified_by n old s a run.0)) run.0 steps answers new run.2

-- ---- what is asked of the host

-- the driver flushes device n in this step, and orders that its port be cleared
abbrev pub orders_clear : ℕ → Places → Answer → Bool
orders_clear n old answer.Ticked =
    list_any (flushes n) (effects (sight_in old.host) old.host.driver)
orders_clear n old a = false

-- the FIS of such an order
abbrev pub is_clear : ℕ → Stamped → Bool
is_clear n f = pm_port f == control_port && clears_x n (request_in f.bytes)

-- a FIS from port n
abbrev pub is_from : ℕ → Stamped → Bool
is_from n f = f.stamp.port == n

-- the FIS of the last such order is not on its way yet
abbrev pub unsent_after : ℕ → Bool → Places → Step → Answer → Places → Bool
unsent_after n unsent old s a new =
    if orders_clear n old a then true
    else if list_any (is_clear n) (pushed_by old s a new) then false else unsent

-- port n passes nothing until it is cleared: it is closed, or no device is there, or bit X of its
-- PSCR[1] is set
abbrev pub Waits : ℕ → Places → Type 0
Waits n now =
    is_open (map.port_at now.multiplier.registers n) ≡ true
    → (map.port_at now.multiplier.registers n).present ≡ true
    → shares (map.port_at now.multiplier.registers n).error bit_x ≡ true

-- What is asked of the host in one step. When it orders that port n be cleared, the order before was
-- sent and taken, no FIS of n is on its way up, and the port passes none until it is cleared. One FIS
-- goes out for each order.
pub record IsInOrder (n : ℕ) (unsent : Bool) (old : Places) (s : Step) (a : Answer) (new : Places)
    : Type 0 where
  pub sent : orders_clear n old a ≡ true → unsent ≡ false
  pub taken : orders_clear n old a ≡ true → list_any (is_clear n) old.downward.frames ≡ false
  pub away : orders_clear n old a ≡ true → list_any (is_from n) old.upward.frames ≡ false
  pub waits : orders_clear n old a ≡ true → Waits n old
  pub once : list_any (is_clear n) (pushed_by old s a new) ≡ true → unsent ≡ true

-- that holds in each step
abbrev pub InOrder : (n : ℕ) → (unsent : Bool) → (old : Places) → (steps : List Step)
    → (answers : List Answer) → (new : Places) → Run old steps answers new → Type 0
InOrder n unsent old [] answers new run = Prim.Unit {0}
InOrder n unsent old (s ∷ steps) [] new run = Prim.Unit {0}
InOrder n unsent old (s ∷ steps) (a ∷ answers) new run =
    IsInOrder n unsent old s a run.0
    × InOrder n (unsent_after n unsent old s a run.0) run.0 steps answers new run.2

-- if the host keeps to that, over a run from a new world, no command is stale
abbrev pub OrderedIsNotStale : Type 0
OrderedIsNotStale =
    (config : Config) (units : List Attached) → is_config config (length units) ≡ true
    → (steps : List Step) (answers : List Answer) (new : Places)
    (run : Run (new_world config units) steps answers new) (n : ℕ) → n < 15
    → InOrder n false (new_world config units) steps answers new run
    → NoneStale n None (new_world config units) steps answers new run

-- no command is stale, over any run from a new world
abbrev pub NoneIsStale : Type 0
NoneIsStale =
    (config : Config) (units : List Attached) → is_config config (length units) ≡ true
    → (steps : List Step) (answers : List Answer) (new : Places)
    (run : Run (new_world config units) steps answers new) (n : ℕ) → n < 15
    → NoneStale n None (new_world config units) steps answers new run
