-- The command slots of a port (AHCI 1.3.1, 4.2.2, Command List Structure), a transfer context for each of its
-- devices, as FIS-based switching needs it (9.3), and the part of them that belongs to one device. Slots are
-- numbered 0 to 31, devices 0 to 15.
use Rattle.std.specs.Prelude.{◌≡◌, ◌≢◌, ◌<◌, ℕ, ◌^◌, Bool, true, false, not, ◌&&◌, ◌==◌, if◌then◌else◌, List, length, map, replicate, slice_index_or}
use Rattle.std.specs.{Prelude.{slice_set, sum_by, Option, Some, None}, List.{range_with_len, position}, Int.bit_at}
use Rattle.slots.specs.declared.work.{Work.Work, Kind.{Kind, TheVariants.{QueuedRead, QueuedWrite, DmaIn, DmaOut, PioIn, PioOut, NoData, Control}}}
use Rattle.slots.specs.{declared.table.Context.Context, Work.{is_out, is_queued, needs_all}, Bytes.{is_whole, none_over}}

-- What is issued in a slot: for which device, what it asks for, whether its command was sent, whether the
-- device answered it, and which of its bytes were transferred.
pub record Issue : Type 0 where
  pub dev : ℕ
  pub work : Work
  pub sent : Bool
  pub answered : Bool
  pub over : List Bool

-- the issue of each slot, and each device's last setup with what is left of it
pub record Slots : Type 0 where
  pub issues : List (Option Issue)
  pub contexts : List (Option Context)

-- what is issued in a slot
abbrev pub issue_at : Slots → ℕ → Option Issue
issue_at t slot = slice_index_or t.issues slot None

-- a device's context
abbrev pub context_of : Slots → ℕ → Option Context
context_of t dev = slice_index_or t.contexts dev None

-- nothing is issued
abbrev pub no_slots : Slots
no_slots = record { issues = replicate 32 None; contexts = replicate 16 None }

-- ---- what belongs to one device

-- the issue, if it is the device's
abbrev pub owned_by : ℕ → Option Issue → Option Issue
owned_by dev None = None
owned_by dev (Some issue) = if issue.dev == dev then Some issue else None

-- a device's part: its issues, each in its slot, and its context
pub record DeviceSlots : Type 0 where
  pub issues : List (Option Issue)
  pub context : Option Context

abbrev pub slots_of : ℕ → Slots → DeviceSlots
slots_of dev t = record { issues = map (owned_by dev) t.issues; context = context_of t dev }

-- the device's part of these issues, with no context
abbrev pub own_of : ℕ → List (Option Issue) → DeviceSlots
own_of dev issues = record { issues = map (owned_by dev) issues; context = None }

-- the device's issue in a slot
abbrev pub own_issue : DeviceSlots → ℕ → Option Issue
own_issue own slot = slice_index_or own.issues slot None

-- the part of a device that has no slot
abbrev pub no_own_slots : DeviceSlots
no_own_slots = record { issues = replicate 32 None; context = None }

-- the parts of all other devices stay
abbrev pub LeavesOthers : ℕ → Slots → Slots → Type 0
LeavesOthers dev old new = (other : ℕ) → other ≢ dev → slots_of other new ≡ slots_of other old

-- no free slot is filled
abbrev pub KeepsFree : Slots → Slots → Type 0
KeepsFree old new = (slot : ℕ) → issue_at old slot ≡ None → issue_at new slot ≡ None

-- ---- sets of slots

-- the lowest number below n that passes the test
unfoldable pub lowest_below : (ℕ → Bool) → ℕ → Option ℕ
lowest_below test n = position test (range_with_len 0 n)

-- the lowest slot of a set
abbrev pub lowest : (ℕ → Bool) → Option ℕ
lowest test = lowest_below test 32

-- the sum of 2 ^ k over the numbers k below n that pass the test
unfoldable pub mask_below : (ℕ → Bool) → ℕ → ℕ
mask_below test n = sum_by (λ k. if test k then 2 ^ k else 0) (range_with_len 0 n)

-- the mask of a set of slots
abbrev pub mask_of : (ℕ → Bool) → ℕ
mask_of test = mask_below test 32

-- the slot is in the mask
abbrev pub has_bit : ℕ → ℕ → Bool
has_bit mask k = bit_at mask k == 1

-- ---- words on issues

-- by cases
abbrev pub match_some : {A B : Type 0} → Option A → B → (A → B) → B
match_some None b f = b
match_some (Some a) b f = f a

-- something is issued, and the test holds for it
abbrev pub holds : (Issue → Bool) → Option Issue → Bool
holds test None = false
holds test (Some issue) = test issue

abbrev pub is_pio : Kind → Bool
is_pio QueuedRead = false
is_pio QueuedWrite = false
is_pio DmaIn = false
is_pio DmaOut = false
is_pio PioIn = true
is_pio PioOut = false
is_pio NoData = false
is_pio Control = false

abbrev pub is_control : Kind → Bool
is_control QueuedRead = false
is_control QueuedWrite = false
is_control DmaIn = false
is_control DmaOut = false
is_control PioIn = false
is_control PioOut = false
is_control NoData = false
is_control Control = true

abbrev pub is_queued_issue : Issue → Bool
is_queued_issue issue = is_queued issue.work.kind

-- its command was sent and is not answered
abbrev pub is_waiting : Issue → Bool
is_waiting issue = issue.sent && not issue.answered

-- its command was not sent
abbrev pub is_unsent : Issue → Bool
is_unsent issue = not issue.sent

-- the command of a PIO data-in was sent
abbrev pub is_sent_pio : Issue → Bool
is_sent_pio issue = issue.sent && is_pio issue.work.kind

-- a command that is not queued and moves data was sent
abbrev pub is_under_way : Issue → Bool
is_under_way issue = issue.sent && needs_all issue.work.kind

-- a PIO data-out
abbrev pub is_out_issue : Issue → Bool
is_out_issue issue = is_out issue.work.kind

-- all its bytes were transferred
abbrev pub is_whole_issue : Issue → Bool
is_whole_issue issue = is_whole issue.over issue.work.len

-- a queued command: all its bytes were transferred, or some are missing
abbrev pub is_done_issue : Issue → Bool
is_done_issue issue = is_queued_issue issue && is_whole_issue issue

abbrev pub is_short_issue : Issue → Bool
is_short_issue issue = is_queued_issue issue && not (is_whole_issue issue)

-- one of the 32 slots, with an issue of the device for which the test holds
abbrev pub IsSlotWhere : (Issue → Bool) → DeviceSlots → ℕ → Type 0
IsSlotWhere test own slot = (slot < 32) × (holds test (own_issue own slot) ≡ true)

-- the device's slot whose command was sent and is not answered
abbrev pub waiting : DeviceSlots → Option ℕ
waiting own = lowest (λ slot. holds is_waiting (own_issue own slot))

-- the device's slot whose PIO data-in was sent
abbrev pub sent_pio : DeviceSlots → Option ℕ
sent_pio own = lowest (λ slot. holds is_sent_pio (own_issue own slot))

-- the device's slot that waits, if it is a PIO data-out
abbrev pub sent_out : DeviceSlots → Option ℕ
sent_out own =
    match_some (waiting own) None (λ slot. if holds is_out_issue (own_issue own slot) then Some slot else None)

-- ---- changes

-- a new issue: its command was not sent, and no byte was transferred
abbrev pub new_issue : ℕ → Work → Issue
new_issue dev work =
    record { dev = dev; work = work; sent = false; answered = false; over = none_over work.len }

-- the device's part with this in a slot
abbrev pub with_own_issue : DeviceSlots → ℕ → Option Issue → DeviceSlots
with_own_issue own slot issue = record own { issues = slice_set own.issues slot issue }

-- the context, unless the test holds for its slot
abbrev pub context_unless : (ℕ → Bool) → Option Context → Option Context
context_unless is_free None = None
context_unless is_free (Some c) = if is_free c.slot then None else Some c

-- the issues, without those in slots for which the test holds
unfoldable pub issues_unless : (ℕ → Bool) → List (Option Issue) → List (Option Issue)
issues_unless is_free issues =
    map (λ slot. if is_free slot then None else slice_index_or issues slot None)
    (range_with_len 0 (length issues))

-- these slots are freed, and the context ends if its slot is one of them
abbrev pub freed : (ℕ → Bool) → DeviceSlots → DeviceSlots
freed is_free own =
    record { issues = issues_unless is_free own.issues; context = context_unless is_free own.context }
