-- What is next to do: AHCI 1.3.1, 5.3 (a port goes over its slots in a circle) and 9.3 (and over devices), 4.2.1 and 4.2.2 (what
-- is written to the guest for a FIS, before its slot's bit falls), 5.3.2 (a port starts as BSY and DRQ are 0).
use Rattle.std.specs.Prelude.{◌≡◌, ℕ, ◌+◌, ◌-◌, ◌^◌, ◌==◌, ◌&&◌, ◌||◌, min, nat_lt, Bool, true, false, not, if◌then◌else◌, bit_or, List, Option, Some}
use Rattle.std.specs.{Prelude.{None, MatchOption, slice_get, slice_set, slice_index_or}, Option.option_map}
use Rattle.slots.specs.{Data.payload, Slots.{context_of, has_bit, match_some}, Work.is_queued}
use Rattle.ahci_registers.specs.Link.{action_of}
use Rattle.guest_fetch.specs.{Moves.moves_at, Places.room_at, Commands.Fetched, declared.moves.Move.Move}
use Rattle.hba_fbs.specs.{Bits.without, Choosing.{Chooses, MayChoose, due_devices, due_slots}, Turning.{feeds, orders}}
use Rattle.hba_fbs.specs.declared.error.WriteError.{WriteError}
use Rattle.hba_fbs.specs.declared.turn.Turn as turn_type
use Rattle.hba_fbs.specs.declared.turn.Turn.TheVariants as turn
use Rattle.ahci_controller.specs.{Circle.{device_after, slot_after}, Fetching.{asked, next_number, want_at}, Moving.count_of, Outbox.no_writes}
use Rattle.ahci_controller.specs.{Own.{is_failed, is_ready}, Reading.is_idle, States.{ControllerState, kept}, Taking.is_up, Writing.Restarts}
use Rattle.ahci_controller.specs.declared.{fetching.Ask.Ask, next.{Next.Next, Step.Step}, wants.{Carried.Carried, Wants.Wants, Writes.Writes}}
use Rattle.ahci_controller.specs.declared.next.Next.TheVariants as next

-- ---- writes to the guest

-- the first of the runs in which bytes of a command lie, by the table that was supplied
abbrev pub first_run : Carried → Fetched → Option Move
first_run w command = slice_get (moves_at command.table.entries w.offset (room_at command.table w.offset w.len)) 0

abbrev pub run_of : ControllerState → Carried → Option Move
run_of c w = if nat_lt w.slot 32 then match_some (kept c w.slot) None (first_run w) else None

-- what is left of them after a run
abbrev pub left : Carried → Move → Option Carried
left w m = let done = min m.len w.len in
    if done == w.len then None else Some (record {
      slot = w.slot;
      offset = min (w.offset + done) 4294967295;
      from = min (w.from + done) 4294967295;
      len = w.len - done;
    })

abbrev pub step_with : Carried → Move → Step
step_with w m = record { write = record m { from = w.from }; left = left w m }

abbrev pub step_of : ControllerState → Carried → Option Step
step_of c w = option_map (step_with w) (run_of c w)

abbrev pub payload_step : ControllerState → Option Step
payload_step c = match_some c.writes.payload None (step_of c)

-- PRDBC of a command, as it is by now: the lowest slot comes first
abbrev pub counted_slot : Writes → Option ℕ
counted_slot w = slot_after w.counted 31

abbrev pub count_next : ControllerState → ℕ → Option Next
count_next c slot = option_map (λ command. next.Counted (count_of command)) (kept c slot)

-- the FIS, and then PRDBC
abbrev pub rest : ControllerState → Option Next
rest c = match_some c.writes.posted (match_some (counted_slot c.writes) None (count_next c)) (λ m. Some (next.Posted m))

abbrev pub after_count : Writes → ℕ → Writes
after_count w slot = record { payload = None; posted = None; counted = without w.counted (2 ^ slot) }

abbrev pub after_rest : Writes → Writes
after_rest w = match_some w.posted (match_some (counted_slot w) no_writes (after_count w))
    (λ m. record w { payload = None; posted = None })

-- bytes of the payload first, as far as they have places
abbrev pub next_write : ControllerState → Option Next
next_write c = match_some (payload_step c) (rest c) (λ s. Some (next.Payload s.write))

abbrev pub writes_next : ControllerState → Writes
writes_next c = match_some (payload_step c) (after_rest c.writes) (λ s. record c.writes { payload = s.left })

-- ---- wants

-- ST was held, and the task file is idle by now: the port is to start
abbrev pub may_start : ControllerState → Bool
may_start c = is_ready c.own (is_idle c) c.core.registers

-- the link is down, a command that cannot be served stopped the port, or it does not run
abbrev pub is_halted : ControllerState → Bool
is_halted c = not (is_up (action_of c.link.control)) || is_failed c.own || not (c.core.registers.started || may_start c)

-- the next of the slots that are being read, and for which nothing is wanted
abbrev pub next_read : ControllerState → Option ℕ
next_read c = slot_after (without c.wants.pending c.wants.out) c.circle.read

abbrev pub reading : ControllerState → ℕ → ControllerState
reading c slot = record c { circle = record c.circle { read = slot } }

abbrev pub wanted : ControllerState → ℕ → Ask
wanted c slot = record { slot = slot; number = next_number c.wants; want = want_at c slot }

abbrev pub Reads : ControllerState → ℕ → Next → ControllerState → Type 0
Reads old slot result new =
    (result ≡ next.Read (wanted old slot)) × (new ≡ record (reading old slot) { wants = asked old.wants slot })

-- ---- frames

-- with one more want, for Data to a device
abbrev pub fed : Wants → ℕ → Wants
fed w dev = record w {
  feeding = bit_or w.feeding (2 ^ dev);
  count = next_number w;
  devices = slice_set w.devices dev (next_number w);
}

-- bytes are wanted for the device under this number
abbrev pub is_fed : Wants → (dev number : ℕ) → Bool
is_fed w dev number = nat_lt dev 16 && has_bit w.feeding dev && (slice_index_or w.devices dev 0 == number)

abbrev pub turn_to : ControllerState → ℕ → turn_type.Turn
turn_to c dev = match_some (payload (context_of c.core.slots dev)) turn.Rests (feeds dev)

abbrev pub feed_next : ℕ → ℕ → turn_type.Turn → Next
feed_next dev number turn.Rests = next.Nothing
feed_next dev number (turn.Feeds to slot offset len) = next.Feed dev number slot offset len
feed_next dev number (turn.Orders to slot command) = next.Nothing

-- its bytes are wanted
pub record FeedsTo (old : ControllerState) (dev : ℕ) (result : Next) (new : ControllerState) : Type 0 where
  pub may : MayChoose old.core (turn_to old dev)
  pub is : result ≡ feed_next dev (next_number old.wants) (turn_to old dev)
  pub rest : new ≡ record old {
    wants = fed old.wants dev;
    circle = record old.circle { device = dev; fed = true };
  }

abbrev pub order_next : ℕ → turn_type.Turn → Next
order_next slot turn.Rests = next.Nothing
order_next slot (turn.Feeds to of offset len) = next.Nothing
order_next slot (turn.Orders to of command) = next.Order to slot command.cfis

-- a command that is not queued begins with its first byte
abbrev pub cursors_for : List ℕ → turn_type.Turn → List ℕ
cursors_for cursors turn.Rests = cursors
cursors_for cursors (turn.Feeds to of offset len) = cursors
cursors_for cursors (turn.Orders to of command) =
    if nat_lt to 16 && not (is_queued command.work.kind) then slice_set cursors to 0 else cursors

-- it goes, and CCS is its slot
pub record OrdersSlot (old : ControllerState) (slot : ℕ) (result : Next) (new : ControllerState) : Type 0 where
  pub may : MayChoose old.core (orders old.core slot)
  pub is : result ≡ order_next slot (orders old.core slot)
  pub core : Chooses (orders old.core slot) old.core new.core
  pub rest : new ≡ record old {
    core = new.core;
    circle = record old.circle { slot = slot; fed = false };
    own = record old.own { current = slot };
    cursors = cursors_for old.cursors (orders old.core slot);
  }

abbrev pub next_device : ControllerState → Option ℕ
next_device c = device_after (without (due_devices c.core) c.wants.feeding) c.circle.device

abbrev pub next_slot : ControllerState → Option ℕ
next_slot c = slot_after (due_slots c.core) c.circle.slot

abbrev pub RestsNow : ControllerState → Next → ControllerState → Type 0
RestsNow old result new = (new ≡ old) × (result ≡ next.Nothing)

-- data and commands take turns, where both may go
abbrev pub FramesFor : Option ℕ → Option ℕ → (fed : Bool) → ControllerState → Next → ControllerState → Type 0
FramesFor None None fed old result new = RestsNow old result new
FramesFor None (Some slot) fed old result new = OrdersSlot old slot result new
FramesFor (Some dev) None fed old result new = FeedsTo old dev result new
FramesFor (Some dev) (Some slot) false old result new = FeedsTo old dev result new
FramesFor (Some dev) (Some slot) true old result new = OrdersSlot old slot result new

abbrev pub Frames : ControllerState → Next → ControllerState → Type 0
Frames old result new = FramesFor (next_device old) (next_slot old) old.circle.fed old result new

-- ---- the call

-- the port runs
abbrev pub RunsNow : ControllerState → Next → ControllerState → Type 0
RunsNow old result new = MatchOption (next_read old) (Frames old result new) (λ slot. Reads old slot result new)

-- The port starts, ST having been held. Then a command is read whose bit was set meanwhile; nothing else is to be done yet.
pub record StartsUp (old : ControllerState) (result : Next) (new : ControllerState) : Type 0 where
  pub middle : ControllerState
  pub ignored : Option WriteError
  pub starts : Restarts old (is_idle old) old.own ignored middle
  pub reads : MatchOption (next_read middle) (RestsNow middle result new) (λ slot. Reads middle slot result new)

abbrev pub GoesIf : (started : Bool) → ControllerState → Next → ControllerState → Type 0
GoesIf true old result new = RunsNow old result new
GoesIf false old result new = StartsUp old result new

abbrev pub TurnsIf : (halted : Bool) → ControllerState → Next → ControllerState → Type 0
TurnsIf true old result new = RestsNow old result new
TurnsIf false old result new = GoesIf old.core.registers.started old result new

abbrev pub written : ControllerState → ControllerState
written c = record c { writes = writes_next c }

abbrev pub Turns : ControllerState → Next → ControllerState → Type 0
Turns old result new = MatchOption (next_write old)
    (TurnsIf (is_halted (written old)) (written old) result new)
    (λ write. (result ≡ write) × (new ≡ written old))
