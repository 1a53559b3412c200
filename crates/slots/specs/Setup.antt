-- Setups (Serial ATA 3.x, 10.5, DMA Setup and PIO Setup FISes; first-party DMA as in native command queueing,
-- ACS-3): which are accepted, and what they leave.
use Rattle.std.specs.Prelude.{ℕ, ◌+◌, ◌%◌, Bool, true, false, not, ◌&&◌, ◌||◌, ◌==◌, nat_lt, nat_le, if◌then◌else◌, Option, Some, None, is_some}
use Rattle.std.specs.{Prelude.{Result, Ok, Err}, Bool.beq, Option.option_or}
use Rattle.slots.specs.declared.answer.SetupError.{SetupError, TheVariants.{NotOutstanding, WrongWay, Overflow, Twice, Fragments, BadCount}}
use Rattle.slots.specs.{declared.{table.Context.Context, work.Work.Work}, Work.{is_dma, is_read}, Bytes.{any_over, ends_at, stretches_of, came_of}}
use Rattle.slots.specs.Slots.{Issue, DeviceSlots, own_issue, match_some, is_queued_issue, sent_out, sent_pio}

-- the transferred bytes are 64 stretches, and none of them ends just before byte offset
abbrev pub is_full_at : Issue → ℕ → Bool
is_full_at issue offset =
    nat_le 64 (stretches_of issue.over issue.work.len) && not (ends_at issue.over offset)

-- why a setup of count bytes of an issue, from byte offset on, is refused: the first of these that applies
abbrev pub transfer_fault : Issue → ℕ → ℕ → Bool → Option SetupError
transfer_fault issue offset count to_host =
    if not (beq (is_read issue.work.kind) to_host) then Some WrongWay
    else if nat_lt issue.work.len (offset + count) then Some Overflow
    else if any_over issue.over offset count then Some Twice
    else if is_full_at issue offset then Some Fragments
    else if count == 0 || not (offset % 4 == 0) || not (count % 4 == 0) then Some BadCount
    else None

-- a queued command that the device answered
abbrev pub is_outstanding : Issue → Bool
is_outstanding issue = is_queued_issue issue && issue.answered

-- why a DMA Setup is refused, for a slot in which the device has this issue, or none
abbrev pub setup_fault : Option Issue → ℕ → ℕ → Bool → Option SetupError
setup_fault None offset count to_host = Some NotOutstanding
setup_fault (Some issue) offset count to_host =
    if is_outstanding issue then transfer_fault issue offset count to_host else Some NotOutstanding

-- how many bytes of an issue were transferred
abbrev pub came : Issue → ℕ
came issue = came_of issue.over issue.work.len

-- why a PIO Setup is refused, if this is the device's PIO data-in that was sent, or if there is none; the new
-- bytes follow those that came
abbrev pub pio_fault : Option Issue → ℕ → Bool → Option SetupError
pio_fault None count to_host = Some NotOutstanding
pio_fault (Some issue) count to_host = transfer_fault issue (came issue) count to_host

-- the context of an accepted PIO Setup
abbrev pub new_context : ℕ → ℕ → ℕ → Bool → Context
new_context slot offset count to_host =
    record { slot = slot; next = offset; left = count; to_host = to_host; activated = false }

-- The context of an accepted DMA Setup. With auto-activate (Serial ATA 3.x, 10.5, DMA Setup FIS, bit A) the
-- first Data to the device may go at once.
abbrev pub dma_context : ℕ → ℕ → ℕ → (to_host auto : Bool) → Context
dma_context slot offset count to_host auto =
    record { slot = slot; next = offset; left = count; to_host = to_host; activated = auto && not to_host }

-- an accepted setup replaces the device's context
abbrev pub with_own_context : DeviceSlots → Context → DeviceSlots
with_own_context own c = record own { context = Some c }

-- the device's part after a DMA Setup
abbrev pub after_setup : DeviceSlots → ℕ → ℕ → ℕ → (to_host auto : Bool) → DeviceSlots
after_setup own tag offset count to_host auto =
    if is_some (setup_fault (own_issue own tag) offset count to_host) then own
    else with_own_context own (dma_context tag offset count to_host auto)

-- the issue of the PIO data-in that was sent
abbrev pub pio_issue : DeviceSlots → Option Issue
pio_issue own = match_some (sent_pio own) None (own_issue own)

-- the device's part after a PIO Setup
abbrev pub after_setup_pio : DeviceSlots → ℕ → Bool → DeviceSlots
after_setup_pio own count to_host =
    if is_some (pio_fault (pio_issue own) count to_host) then own
    else match_some (sent_pio own) own (λ slot.
    match_some (own_issue own slot) own (λ issue.
    with_own_context own (new_context slot (came issue) count to_host)))

-- ---- a PIO data-out

-- a block towards the device is one Data FIS, of 2,048 dwords at most
abbrev pub long_fault : ℕ → Option SetupError
long_fault count = if nat_lt 8192 count then Some BadCount else None

-- why a PIO Setup is refused for a PIO data-out
abbrev pub out_fault : ℕ → Bool → Issue → Option SetupError
out_fault count to_host issue =
    option_or (transfer_fault issue (came issue) count to_host) (long_fault count)

-- the context if nothing is wrong with its setup
abbrev pub context_or : Option SetupError → Context → Result Context SetupError
context_or None c = Ok c
context_or (Some e) c = Err e

-- The context that a PIO Setup gives, for a PIO data-out in this slot: the new bytes follow those that were
-- transferred, and they may go at once.
abbrev pub out_context : (slot count : ℕ) → (to_host : Bool) → Issue → Result Context SetupError
out_context slot count to_host issue =
    context_or (out_fault count to_host issue) (dma_context slot (came issue) count false true)

-- the same for the device's PIO data-out that was sent
abbrev pub out_setup : DeviceSlots → ℕ → Bool → Result Context SetupError
out_setup own count to_host = match_some (sent_out own) (Err NotOutstanding) (λ slot.
    match_some (own_issue own slot) (Err NotOutstanding) (out_context slot count to_host))

-- the device's part after a PIO Setup for its PIO data-out
abbrev pub with_setup : DeviceSlots → Result Context SetupError → DeviceSlots
with_setup own (Ok c) = with_own_context own c
with_setup own (Err e) = own

abbrev pub after_setup_out : DeviceSlots → ℕ → Bool → DeviceSlots
after_setup_out own count to_host = with_setup own (out_setup own count to_host)

-- ---- a command that is its own setup

-- READ DMA and WRITE DMA have no setup: all their bytes are set up as they are sent
abbrev pub whole_context : ℕ → Work → Context
whole_context slot work = dma_context slot 0 work.len (is_read work.kind) false

-- a command of this kind that has no setup is its own: all its bytes are to come, or may be asked for
abbrev pub begun : ℕ → Work → DeviceSlots → DeviceSlots
begun slot work own = if is_dma work.kind then with_own_context own (whole_context slot work) else own
