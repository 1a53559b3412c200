-- Data of a transfer (Serial ATA 3.x, 10.5, Data and DMA Activate FISes): what may come or go, and what it
-- leaves.
use Rattle.std.specs.Prelude.{◌≡◌, ◌≤◌, ℕ, ◌+◌, ◌-◌, min, Bool, true, false, not, ◌&&◌, nat_lt, if◌then◌else◌, slice_set, Option, Some, None, Result}
use Rattle.std.specs.{Prelude.{Ok, Err, is_ok, is_some}, Option.option_map}
use Rattle.slots.specs.{declared.{answer.ArriveError.{ArriveError, TheVariants.{Stray, Overflow}}, table.Context.Context}, Bytes.with_bytes}
use Rattle.slots.specs.{Slots.{Issue, DeviceSlots, Slots, context_of, mask_below, own_issue, match_some}, Work.is_read}

-- the issue with count more bytes transferred, from byte offset on
abbrev pub moved_over : ℕ → ℕ → Issue → Issue
moved_over offset count issue = record issue { over = with_bytes issue.over offset count }

-- the context after its next count bytes, no longer activated
abbrev pub moved_on : ℕ → Context → Context
moved_on count c = record c { next = c.next + count; left = c.left - count; activated = false }

-- the next count bytes of the device's context are transferred
abbrev pub gone_over : ℕ → Context → DeviceSlots → DeviceSlots
gone_over count c own = record {
  issues = slice_set own.issues c.slot (option_map (moved_over c.next count) (own_issue own c.slot));
  context = Some (moved_on count c);
}

-- where count bytes that arrive belong: their slot, and the offset of the first
abbrev pub arrive_answer : Option Context → ℕ → Result (ℕ × ℕ) ArriveError
arrive_answer None count = Err Stray
arrive_answer (Some c) count =
    if not c.to_host then Err Stray else if nat_lt c.left count then Err Overflow else Ok (c.slot, c.next)

-- the device's part after data arrived or was refused
abbrev pub after_arrive : DeviceSlots → ℕ → DeviceSlots
after_arrive own count = match_some own.context own (λ c. if is_ok (arrive_answer own.context count)
    then gone_over count c own else own)

-- there is a context towards the device with bytes left that is not activated yet
abbrev pub may_activate : Option Context → Bool
may_activate None = false
may_activate (Some c) = not c.to_host && nat_lt 0 c.left && not c.activated

abbrev pub activated : Context → Context
activated c = record c { activated = true }

-- the device's part after the device asked for data
abbrev pub after_activate : DeviceSlots → DeviceSlots
after_activate own =
    if may_activate own.context then record own { context = option_map activated own.context } else own

-- the most bytes in a Data FIS: 2,048 dwords
abbrev pub max_payload : ℕ
max_payload = 8192

-- how many bytes go to the device next
abbrev pub payload_len : Context → ℕ
payload_len c = min c.left max_payload

-- the slot, offset and length of the data that goes to the device next, if its context is activated
abbrev pub payload : Option Context → Option (ℕ × ℕ × ℕ)
payload None = None
payload (Some c) = if c.activated then Some (c.slot, c.next, payload_len c) else None

-- the devices to which data goes next, as a mask
abbrev pub receivers : Slots → ℕ
receivers t = mask_below (λ dev. is_some (payload (context_of t dev))) 16

-- a command of the device that moves data to it and has these bytes
pub record IsWriteOf (dev offset len : ℕ) (issue : Issue) : Type 0 where
  pub of_dev : issue.dev ≡ dev
  pub write : is_read issue.work.kind ≡ false
  pub inside : offset + len ≤ issue.work.len

-- the device's part after that data was sent
abbrev pub after_payload : DeviceSlots → DeviceSlots
after_payload own = match_some own.context own (λ c. gone_over (payload_len c) c own)

-- the slot of a context towards the host
abbrev pub receiving_slot : Option Context → Option ℕ
receiving_slot None = None
receiving_slot (Some c) = if c.to_host then Some c.slot else None
