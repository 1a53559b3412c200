-- What holds for the driver over any list of turns of the host, from any sound state, whatever the devices
-- send.
use Rattle.std.specs.{Prelude.{ℕ, ◌≡◌, ◌+◌, ◌<◌, ◌==◌, ◌&&◌, ◌||◌, ◌⊎◌, Bool, true, false, List, [], ◌∷◌, length, Option, Some, None}, List.list_any}
use Rattle.std.specs.List.{range_with_len}
use Rattle.host_memory.specs.{Memory.Memory, Reading.AgreeFrom}
use Rattle.hba_commands.specs.Headers.{header_place}
use Rattle.slots.specs.{Slots.issue_at, Table.IsTable}
use Rattle.hba_fbs.specs.Views.{Port}
use Rattle.hba_driver.specs.declared.{mode.Mode.Mode, request.Outcome.{Outcome, TheVariants.{Done, DeviceError, Aborted, Removed, PortError}}}
use Rattle.hba_driver.specs.{Effects.table_of, Sights.sight_of, declared.{path.TaskFile.TaskFile, plan.Device.TheVariants.{Absent, Recovering}}}
use Rattle.hba_driver.specs.{Seeing.Sight, declared.slot.{Head.Head, Phase.{Phase, TheVariants.{Waits, Issued, Aside, Ended}}}}
use Rattle.hba_driver.specs.{declared.effect.Effect.Effect, Drivers.{AreRequests, Driver, Entry, device_at, entry_at, has_ended, is_aside, is_issued}}
use Rattle.hba_driver.specs.{Drivers.{is_issued_in, rephased, waits_in}, HostTurns.{AreHosts, DoesAll, Host, HostTurn, Took, Pushed, Ticked}}
use Rattle.hba_driver.specs.{HostTurns.{Submitted, Polled, Put, given_in, issued_over, polled_in}, Paths.recovery, Ticks.{after_tick, due, effects}}
use Rattle.hba_driver.specs.{Ticks.{seen, turn}, Turns.may_issue}
use Rattle.hba_driver.specs.declared.effect.Effect.TheVariants as effect
use Rattle.hba_driver.specs.declared.turn.Act.TheVariants as act

-- ---- the life of a request

-- A request goes from waiting to issued. From both it may be set aside or end. From being set aside it goes
-- to its end, and then no further.
abbrev pub Goes : Phase → Phase → Type 0
Goes Waits later = Unit {0}
Goes Issued later = waits_in later ≡ false
Goes Aside later = (waits_in later || is_issued_in later) ≡ false
Goes (Ended outcome) later = later ≡ Ended outcome

-- of a request, only the phase may change
pub record GoesOn (e later : Entry) : Type 0 where
  pub same : later ≡ rephased later.head.phase e
  pub goes : Goes e.head.phase later.head.phase

-- the request is still there
pub record Kept (e : Entry) (later : Option Entry) : Type 0 where
  pub entry : Entry
  pub is : later ≡ Some entry
  pub on : GoesOn e entry

-- no request comes, and none goes
abbrev pub Keeps : Option Entry → Option Entry → Type 0
Keeps None later = later ≡ None
Keeps (Some e) later = Kept e later

-- a tick takes no request and gives none away, gives no ticket, and ends nothing twice
pub record TicksKeep : Type 0 where
  pub entries : (v : Sight) (file : TaskFile) (d : Driver) (s : ℕ) → Keeps (entry_at d.entries s)
      (entry_at (after_tick v file d).entries s)
  pub given : (v : Sight) (file : TaskFile) (d : Driver) → (after_tick v file d).given ≡ d.given

-- an effect flushes this device
abbrev pub flushes : ℕ → Effect → Bool
flushes dev (effect.Writes offset value) = false
flushes dev (effect.Flushes other) = other == dev
flushes dev (effect.Empties other) = false
flushes dev (effect.Commands slot fields buffer) = false

-- a request for which the port has no command, and for which none will be issued
abbrev pub is_withdrawn : Head → Bool
is_withdrawn head = is_aside head || has_ended head

-- what a tick does to devices
pub record TicksServe : Type 0 where
  -- a request is issued only if it waits and its device is ready
  pub ready : (v : Sight) (d : Driver) (slot dev : ℕ) (queued : Bool)
      → due v d ≡ Some (act.Issues slot dev queued)
      → may_issue (turn v d).plan (entry_at (seen v d).entries slot) ≡ true
  -- in the tick of its flush a device is taken to be absent, and none of its requests stays open
  pub leaves : (v : Sight) (file : TaskFile) (d : Driver) (dev : ℕ) → list_any (flushes dev)
      (effects v d) ≡ true → device_at (after_tick v file d).plan dev ≡ Absent
  pub ends : (v : Sight) (file : TaskFile) (d : Driver) (dev s : ℕ) (e : Entry) → list_any (flushes dev)
      (effects v d) ≡ true
      → entry_at (after_tick v file d).entries s ≡ Some e → e.head.dev ≡ dev → has_ended e.head ≡ true
  -- in the tick that clears its fault a device is taken to recover, and none of its requests waits or is
  -- issued
  pub recovers : (v : Sight) (file : TaskFile) (d : Driver) (dev : ℕ) → due v d ≡ Some (act.Clears dev)
      → dev < 15 → length d.plan.devices ≡ 15
      → device_at (after_tick v file d).plan dev ≡ Recovering (recovery (device_at (turn v d).plan dev) file)
  pub withdraws : (v : Sight) (file : TaskFile) (d : Driver) (dev s : ℕ) (e : Entry)
      → due v d ≡ Some (act.Clears dev)
      → entry_at (after_tick v file d).entries s ≡ Some e → e.head.dev ≡ dev → is_withdrawn e.head ≡ true
  -- in the tick that stops the port every request ends
  pub stops : (v : Sight) (file : TaskFile) (d : Driver) (s : ℕ) (e : Entry) → due v d ≡ Some act.Stops
      → entry_at (after_tick v file d).entries s ≡ Some e → has_ended e.head ≡ true

-- ---- over lists of turns

-- no number is twice in the list
abbrev pub AreOnce : List ℕ → Type 0
AreOnce [] = Unit {0}
AreOnce (x ∷ xs) = (list_any (λ y. y == x) xs ≡ false) × AreOnce xs

-- the outcomes are the same; for an error of the device, Status and Error are the same too
abbrev pub is_outcome : Outcome → Outcome → Bool
is_outcome Done Done = true
is_outcome (DeviceError status error) (DeviceError other_status other_error) =
    (status == other_status) && (error == other_error)
is_outcome Aborted Aborted = true
is_outcome Removed Removed = true
is_outcome PortError PortError = true
is_outcome one other = false

-- a request in this phase may be polled with this outcome: only an ended one may, and with its own outcome
abbrev pub ends_as : Phase → Outcome → Bool
ends_as Waits outcome = true
ends_as Issued outcome = true
ends_as Aside outcome = true
ends_as (Ended one) outcome = is_outcome one outcome

-- the turn polls this request from this slot, with the outcome of its end if it has one
abbrev pub gives : ℕ → Entry → HostTurn → Bool
gives s e (Took frame report) = false
gives s e (Pushed frame) = false
gives s e (Ticked acted) = false
gives s e (Submitted dev request ticket) = false
gives s e (Polled completion) =
    (completion.ticket.0 == e.head.ticket) && (completion.slot == s)
    && ends_as e.head.phase completion.outcome
gives s e (Put at bytes) = false

-- A request stays in its slot, and goes on, until it is polled there. So from the tick that ends it on, it
-- waits for the poll that answers how it ended.
abbrev pub Lives : ℕ → Entry → List HostTurn → Host → Type 0
Lives s e turns new = Kept e (entry_at new.driver.entries s) ⊎ (list_any (gives s e) turns ≡ true)

pub record TurnsKeep (old : Host) (turns : List HostTurn) (new : Host)
    (run : DoesAll old turns new) : Type 0 where
  -- requests stay sound: each has a ticket of its own, and two of which one reads share no byte
  pub sound : AreRequests new.driver.given new.driver.entries
  -- tickets are given one after another
  pub given : given_in turns ≡ range_with_len (old.driver.given + 1) (length (given_in turns))
  pub last : new.driver.given ≡ old.driver.given + length (given_in turns)
  -- each is polled at most once, and issued at most once
  pub polled : AreOnce (polled_in turns)
  pub issued : AreOnce (issued_over old new turns run)
  pub lives : (s : ℕ) (e : Entry) → entry_at old.driver.entries s ≡ Some e → Lives s e turns new

abbrev pub EachRunKeeps : Type 0
EachRunKeeps = (old : Host) (turns : List HostTurn) (new : Host) (run : DoesAll old turns new)
    → AreRequests old.driver.given old.driver.entries → TurnsKeep old turns new run

-- ---- the structure area

-- header and table of a slot are as they were
pub record Stands (s : ℕ) (old new : Memory) : Type 0 where
  pub header : AgreeFrom (header_place 0 s) 32 old.structure new.structure
  pub table : AgreeFrom (table_of s) 0x1000 old.structure new.structure

-- What a request has written into the structure area stays there until the request is polled. Nothing else is
-- written there except received FISes, the rows of devices that are flushed, and the commands of other slots.
abbrev pub CommandsStand : Type 0
CommandsStand =
    (old : Host) (turns : List HostTurn) (new : Host) (run : DoesAll old turns new)
    → AreHosts old new turns run → AreRequests old.driver.given old.driver.entries
    → (s : ℕ) (e : Entry) → entry_at old.driver.entries s ≡ Some e → list_any (gives s e) turns ≡ false
    → Stands s old.memory new.memory

-- ---- requests that are done

-- A tick ends a request as Done only if it was issued and nothing is issued in its slot of the port any more.
abbrev pub DoneIsFree : Type 0
DoneIsFree =
    (mode : Mode) (port : Port) (memory : Memory) (file : TaskFile) (d : Driver) (s : ℕ) (e f : Entry)
    → IsTable port.slots
    → AreRequests d.given d.entries → entry_at d.entries s ≡ Some e → has_ended e.head ≡ false
    → entry_at (after_tick (sight_of mode port memory) file d).entries s ≡ Some f → f.head.phase ≡ Ended Done
    → (is_issued e.head ≡ true) × (issue_at port.slots s ≡ None)
