-- What submit and poll do.
use Rattle.std.specs.Prelude.{ℕ, ◌≡◌, ◌+◌, Bool, if◌then◌else◌, List, length, slice_set, Option, Some, None, ◌==◌, ◌&&◌, not, unwrap_or}
use Rattle.std.specs.{List.list_any, Option.option_or}
use Rattle.host_memory.specs.Memory.{Memory, client_start}
use Rattle.slots.specs.Slots.{lowest_below, match_some}
use Rattle.hba_commands.specs.Writing.{IsWritten}
use Rattle.hba_driver.specs.declared.{mode.Mode.{Mode, TheVariants.{Switching, CommandBased}}, request.Completion.Completion, request.Request.Request}
use Rattle.hba_driver.specs.declared.{request.SubmitError.SubmitError, slot.Head.Head, slot.Phase.{Phase, TheVariants.{Waits, Ended}}}
use Rattle.hba_driver.specs.{Drivers.{Driver, Entry, device_at, entry_at, has_ended, holds}, Effects.table_of, Orders.request_fields}
use Rattle.hba_driver.specs.Requests.{blocks, device_refusal, lowest_free, room_refusal, shape_refusal}
use Rattle.hba_driver.specs.declared.request.SubmitError.TheVariants as refusal

-- ---- submit

-- a request of the device prevents this one
abbrev pub is_blocked : Driver → ℕ → Request → Bool
is_blocked d dev request = list_any (holds (blocks dev request.work)) d.entries

abbrev pub queue_refusal : Driver → ℕ → Request → Option SubmitError
queue_refusal d dev request = if is_blocked d dev request then Some refusal.QueueBusy else None

-- the first address past the client area
abbrev pub end_of : Memory → ℕ
end_of memory = client_start + length memory.client

-- of another device, and not ended
abbrev pub is_open_of_other : (dev : ℕ) → Head → Bool
is_open_of_other dev head = not (head.dev == dev) && not (has_ended head)

-- with command-based switching a request waits for those of another device to end
abbrev pub other_refusal : Mode → (dev : ℕ) → List (Option Entry) → Option SubmitError
other_refusal Switching dev entries = None
other_refusal CommandBased dev entries =
    if list_any (holds (is_open_of_other dev)) entries then Some refusal.OtherDevice else None

-- Why a request is refused: the first of these that applies.
unfoldable pub submit_refusal : Driver → Memory → ℕ → Request → Option SubmitError
submit_refusal d memory dev request =
    option_or (device_refusal (device_at d.plan dev))
    (option_or (queue_refusal d dev request)
    (option_or (shape_refusal (end_of memory) request)
    (option_or (room_refusal d request) (other_refusal d.plan.mode dev d.entries))))

-- the slot that the next request takes: the lowest free one
abbrev pub next_slot : Driver → ℕ
next_slot d = unwrap_or (lowest_free d.entries) 30

-- the head of a request that was just taken
abbrev pub new_head : (ticket dev : ℕ) → Request → Head
new_head ticket dev request = record {
  ticket = ticket;
  dev = dev;
  work = request.work;
  lba = request.lba;
  sectors = request.sectors;
  phase = Waits;
}

abbrev pub new_entry : (ticket dev : ℕ) → Request → Entry
new_entry ticket dev request = record { head = new_head ticket dev request; prds = request.prds.items }

-- the driver after it has taken the request under the next ticket
abbrev pub after_submit : Driver → ℕ → Request → Driver
after_submit d dev request = record d {
  given = d.given + 1;
  entries = slice_set d.entries (next_slot d) (Some (new_entry (d.given + 1) dev request));
}

-- A request is taken: it waits in the lowest free slot, and its command is written there.
pub record Takes (old : Driver) (before : Memory) (dev : ℕ) (request : Request) (ticket : ℕ) (new : Driver)
    (after : Memory) : Type 0 where
  pub next : ticket ≡ old.given + 1
  pub driver : new ≡ after_submit old dev request
  pub command : IsWritten 0 (next_slot old) (table_of (next_slot old))
      (request_fields (next_slot old) (new_head ticket dev request))
      request.prds.items before.structure after.structure
  pub client : after.client ≡ before.client

-- ---- poll

unfoldable pub lowest_ended : List (Option Entry) → Option ℕ
lowest_ended entries = lowest_below (λ slot. holds has_ended (entry_at entries slot)) 30

-- how the request in a slot ended
abbrev pub completed : ℕ → Head → Phase → Option Completion
completed slot head (Ended outcome) =
    Some (record { ticket = record { 0 = head.ticket }; slot = slot; outcome = outcome })
completed slot head phase = None

abbrev pub completion_at : ℕ → Option Entry → Option Completion
completion_at slot None = None
completion_at slot (Some entry) = completed slot entry.head entry.head.phase

-- what a poll gives: the ended request of the lowest slot
unfoldable pub completion_of : Driver → Option Completion
completion_of d =
    match_some (lowest_ended d.entries) None (λ slot. completion_at slot (entry_at d.entries slot))

-- what a poll leaves: the slot is free
unfoldable pub after_poll : Driver → Driver
after_poll d =
    match_some (lowest_ended d.entries) d (λ slot. record d { entries = slice_set d.entries slot None })
