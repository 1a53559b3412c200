-- The driver as its callers see it. It drives one AHCI host port (AHCI 1.3.1) with a port multiplier behind
-- it (Serial ATA 3.x, port multipliers). Requests use the slots 0 to 29. The driver's own commands go to a
-- device through slot 30, and to the control port of the multiplier, port Fh, through slot 31.
use Rattle.std.specs.Prelude.{ℕ, ◌≡◌, ◌≢◌, ◌<◌, ◌≤◌, ◌||◌, Bool, true, false, if◌then◌else◌, List, map, replicate, length, slice_index_or, slice_set}
use Rattle.std.specs.{Prelude.{Option, Some, None}, Option.option_map, List.range_with_len}
use Rattle.host_memory.specs.{Reading.share_with, declared.table.Prd.Prd}
use Rattle.hba_driver.specs.declared.{mode.Mode.{Mode, TheVariants.Switching}, order.Order.{Order, TheVariants.{ResetOn, Open, Clear, Detect}}}
use Rattle.hba_driver.specs.declared.{path.Path.Path, plan.Device.{Device, TheVariants.Absent}, plan.Plan.Plan, request.Work.Work, slot.Head.Head}
use Rattle.hba_driver.specs.declared.slot.Phase.{Phase, TheVariants.{Waits, Issued, Aside, Ended}}
use Rattle.hba_driver.specs.declared.request.Work.TheVariants as work

-- a request that was taken and is not polled yet: its head, and where its bytes are
pub record Entry : Type 0 where
  pub head : Head
  pub prds : List Prd

pub record Driver : Type 0 where
  -- what is known of the port, of the multiplier and of each device
  pub plan : Plan
  -- the last ticket that was given, 0 for none
  pub given : ℕ
  -- by slot, 0 to 29
  pub entries : List (Option Entry)

-- the entry with this head, if there is one
abbrev pub entry_of : Option Head → List Prd → Option Entry
entry_of None prds = None
entry_of (Some head) prds = Some (record { head = head; prds = prds })

-- ---- a new driver

abbrev pub opening_plan_in : Mode → Plan
opening_plan_in mode = record {
  mode = mode;
  opened = 0;
  restarted = 2;
  order = ResetOn;
  asked = false;
  ports = 0;
  found = 0;
  path = None;
  devices = replicate 15 Absent;
}

-- a driver that has done nothing, after this last ticket
abbrev pub new_driver_in : Mode → (given : ℕ) → Driver
new_driver_in mode given =
    record { plan = opening_plan_in mode; given = given; entries = replicate 30 None }

-- the same with FIS-based switching
abbrev pub opening_plan : Plan
opening_plan = opening_plan_in Switching

abbrev pub new_driver : (given : ℕ) → Driver
new_driver given = new_driver_in Switching given

-- ---- devices

abbrev pub device_at : Plan → ℕ → Device
device_at plan dev = slice_index_or plan.devices dev Absent

abbrev pub with_device : ℕ → Device → Plan → Plan
with_device dev device plan = record plan { devices = slice_set plan.devices dev device }

-- ---- requests

abbrev pub entry_at : List (Option Entry) → ℕ → Option Entry
entry_at entries slot = slice_index_or entries slot None

-- there is an entry, and the test holds for its head
abbrev pub holds : (Head → Bool) → Option Entry → Bool
holds test None = false
holds test (Some entry) = test entry.head

abbrev pub waits_in : Phase → Bool
waits_in Waits = true
waits_in Issued = false
waits_in Aside = false
waits_in (Ended outcome) = false

abbrev pub waits : Head → Bool
waits head = waits_in head.phase

abbrev pub is_issued_in : Phase → Bool
is_issued_in Waits = false
is_issued_in Issued = true
is_issued_in Aside = false
is_issued_in (Ended outcome) = false

abbrev pub is_issued : Head → Bool
is_issued head = is_issued_in head.phase

abbrev pub is_aside_in : Phase → Bool
is_aside_in Waits = false
is_aside_in Issued = false
is_aside_in Aside = true
is_aside_in (Ended outcome) = false

-- it was set aside until its device has recovered
abbrev pub is_aside : Head → Bool
is_aside head = is_aside_in head.phase

abbrev pub has_ended_in : Phase → Bool
has_ended_in Waits = false
has_ended_in Issued = false
has_ended_in Aside = false
has_ended_in (Ended outcome) = true

abbrev pub has_ended : Head → Bool
has_ended head = has_ended_in head.phase

-- an entry with the phase of its request set
abbrev pub rephased : Phase → Entry → Entry
rephased phase entry = record entry { head = record entry.head { phase = phase } }

-- the phase is set if the test holds for the head
abbrev pub rephase : (Head → Bool) → Phase → Option Entry → Option Entry
rephase test phase entry = if holds test entry then option_map (rephased phase) entry else entry

-- the phase is set in each slot for which the test holds, by slot and head
unfoldable pub rephase_all : (ℕ → Head → Bool) → Phase → List (Option Entry) → List (Option Entry)
rephase_all test phase entries =
    map (λ slot. rephase (test slot) phase (entry_at entries slot)) (range_with_len 0 (length entries))

-- ---- soundness

-- a read writes to memory
abbrev pub is_read : Work → Bool
is_read work.Read = true
is_read work.Write = false
is_read work.Flush = false

-- an order is to a fan-out port of the multiplier, 0 to 14
abbrev pub IsOrder : Order → Type 0
IsOrder (Open port) = port < 15
IsOrder (Clear port) = port < 15
IsOrder (Detect port) = port < 15
IsOrder order = Unit {0}

-- a path of slot 30 is to such a port too
abbrev pub IsPath : Option Path → Type 0
IsPath None = Unit {0}
IsPath (Some path) = path.dev < 15

-- what holds for every plan
pub record IsSoundPlan (plan : Plan) : Type 0 where
  pub opened : plan.opened ≤ 7
  pub restarted : plan.restarted ≤ 2
  pub order : IsOrder plan.order
  pub ports : plan.ports < 16
  pub path : IsPath plan.path

-- the requests of every driver whose last ticket is this
pub record AreRequests (last : ℕ) (entries : List (Option Entry)) : Type 0 where
  pub slots : length entries ≡ 30
  -- each has a ticket that was given, and no other request has the same
  pub given : (s : ℕ) (e : Entry) → entry_at entries s ≡ Some e → e.head.ticket ≤ last
  pub own : (s t : ℕ) (e f : Entry) → entry_at entries s ≡ Some e → entry_at entries t ≡ Some f
      → e.head.ticket ≡ f.head.ticket → s ≡ t
  -- two requests of which one reads share no byte
  pub apart : (s t : ℕ) (e f : Entry) → entry_at entries s ≡ Some e → entry_at entries t ≡ Some f → s ≢ t
      → (is_read e.head.work || is_read f.head.work) ≡ true → share_with e.prds f.prds ≡ false

pub record IsSound (d : Driver) : Type 0 where
  pub plan : IsSoundPlan d.plan
  pub requests : AreRequests d.given d.entries
