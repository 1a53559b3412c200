-- Commands: when they go out, what an answer of their device does, and when they are done (AHCI 1.3.1, 5.5
-- and 5.6, how commands are issued and completed, 3.3.13 PxSACT, 3.3.14 PxCI; Serial ATA 3.x, 10.5, Register
-- Device to Host and Set Device Bits FISes; ACS-3, NCQ).
use Rattle.std.specs.Prelude.{◌≡◌, ◌<◌, ℕ, Bool, true, false, not, ◌&&◌, ◌||◌, ◌==◌, if◌then◌else◌, Option, Some, None, is_none, is_some, slice_set}
use Rattle.std.specs.{Prelude.MatchOption, Option.option_map}
use Rattle.slots.specs.declared.{answer.{Answered.{Answered, TheVariants.{Nobody, Queued, Done, Short}}, Completed.Completed}, work.Work.Work}
use Rattle.slots.specs.{Setup.{begun, is_outstanding}, Slots.{Issue, Slots, DeviceSlots, issue_at, slots_of, own_issue, with_own_issue, match_some}}
use Rattle.slots.specs.Slots.{holds, is_control, is_done_issue, is_queued_issue, is_short_issue, is_whole_issue, waiting, sent_pio, freed, has_bit}
use Rattle.slots.specs.{Slots.{mask_of, lowest, new_issue}, Work.{is_dma, needs_all}}

-- the set of this slot alone
abbrev pub is_slot : ℕ → ℕ → Bool
is_slot slot k = k == slot

-- ---- a command is issued

-- the device's part after work is issued in a free slot
abbrev pub after_issue : DeviceSlots → ℕ → ℕ → Work → DeviceSlots
after_issue own slot dev work = with_own_issue own slot (Some (new_issue dev work))

-- the table afterwards: nothing else changes
abbrev pub table_after_issue : Slots → ℕ → ℕ → Work → Slots
table_after_issue t slot dev work = record t { issues = slice_set t.issues slot (Some (new_issue dev work)) }

-- ---- a command goes out

-- A command is issued in the slot and was not sent. If it is not a Control, no slot of its device waits for
-- an answer.
abbrev pub MayBeSent : Slots → ℕ → Type 0
MayBeSent t slot = MatchOption (issue_at t slot) ⊥ (λ issue.
    (issue.sent ≡ false) × (is_control issue.work.kind ≡ false → waiting (slots_of issue.dev t) ≡ None))

abbrev pub sent_issue : Issue → Issue
sent_issue issue = record issue { sent = true }

-- the device's part with the command of a slot sent
abbrev pub with_sent : DeviceSlots → ℕ → DeviceSlots
with_sent own slot = with_own_issue own slot (option_map sent_issue (own_issue own slot))

-- A Control has no answer of its own, so its slot is freed. A command that has no setup is its own.
abbrev pub after_sent : DeviceSlots → ℕ → DeviceSlots
after_sent own slot =
    if holds (λ issue. is_control issue.work.kind) (own_issue own slot) then freed (is_slot slot) own
    else match_some (own_issue own slot) (with_sent own slot) (λ issue. begun slot issue.work (with_sent own slot))

-- some queued command of the device was answered and has not ended
abbrev pub has_outstanding : DeviceSlots → Bool
has_outstanding own = is_some (lowest (λ slot. holds is_outstanding (own_issue own slot)))

-- A command that has no setup goes only while no queued one is outstanding, so Data of its device is never
-- taken for that of another command.
abbrev pub may_begin : DeviceSlots → Issue → Bool
may_begin own issue = not (is_dma issue.work.kind && has_outstanding own)

-- The slot may go out next. Its command was not sent, and its device is not faulty. It is a Control, or the
-- device is ready, none of its slots waits, and the command may begin.
abbrev pub may_go : ℕ → ℕ → Slots → Issue → Bool
may_go ready faulty t issue =
    not issue.sent && not (has_bit faulty issue.dev)
    && (is_control issue.work.kind || has_bit ready issue.dev && is_none (waiting (slots_of issue.dev t))
    && may_begin (slots_of issue.dev t) issue)

-- the lowest slot that may go out next
abbrev pub next_slot : ℕ → ℕ → Slots → Option ℕ
next_slot ready faulty t = lowest (λ slot. holds (may_go ready faulty t) (issue_at t slot))

-- ---- the device answers the command that waits

abbrev pub answered_issue : Issue → Issue
answered_issue issue = record issue { answered = true }

-- the device's part with the command of a slot answered
abbrev pub with_answered : DeviceSlots → ℕ → DeviceSlots
with_answered own slot = with_own_issue own slot (option_map answered_issue (own_issue own slot))

-- What an answer is for, in a slot with this issue. A queued command goes on. Any other is done, except one
-- with bytes missing.
abbrev pub answer_for : ℕ → Issue → Answered
answer_for slot issue =
    if is_queued_issue issue then Queued slot
    else if needs_all issue.work.kind && not (is_whole_issue issue) then Short slot
    else Done slot

-- an answer for a slot names one of the 32 slots
abbrev pub IsSlotAnswer : Answered → Type 0
IsSlotAnswer Nobody = Unit {0}
IsSlotAnswer (Queued slot) = slot < 32
IsSlotAnswer (Done slot) = slot < 32
IsSlotAnswer (Short slot) = slot < 32

-- an answer that nobody waits for, or that comes while bytes are missing, leaves the table as it was
abbrev pub StaysWithout : Answered → Slots → Slots → Type 0
StaysWithout Nobody old new = new ≡ old
StaysWithout (Queued slot) old new = Unit {0}
StaysWithout (Done slot) old new = Unit {0}
StaysWithout (Short slot) old new = new ≡ old

-- what an answer of the device is for: the slot that waits
abbrev pub answer_of : DeviceSlots → Answered
answer_of own =
    match_some (waiting own) Nobody (λ slot. match_some (own_issue own slot) Nobody (answer_for slot))

-- the device's part after an answer: a command that goes on is answered, the slot of one that is done is
-- freed
abbrev pub answered_as : Answered → DeviceSlots → DeviceSlots
answered_as Nobody own = own
answered_as (Queued slot) own = with_answered own slot
answered_as (Done slot) own = freed (is_slot slot) own
answered_as (Short slot) own = own

abbrev pub after_answer : DeviceSlots → DeviceSlots
after_answer own = answered_as (answer_of own) own

-- ---- the device says that commands are done

-- the slot is named and queued; all its bytes were transferred, or some are missing
abbrev pub is_done : ℕ → DeviceSlots → ℕ → Bool
is_done mask own slot = has_bit mask slot && holds is_done_issue (own_issue own slot)

abbrev pub is_short : ℕ → DeviceSlots → ℕ → Bool
is_short mask own slot = has_bit mask slot && holds is_short_issue (own_issue own slot)

-- the named queued slots: those with all bytes transferred, and those with bytes missing
abbrev pub completed : ℕ → DeviceSlots → Completed
completed mask own = record { done = mask_of (is_done mask own); short = mask_of (is_short mask own) }

-- those with all bytes transferred are freed
abbrev pub after_complete : ℕ → DeviceSlots → DeviceSlots
after_complete mask own = freed (is_done mask own) own

-- the slot of the PIO data-in that was sent, if all its bytes were transferred
abbrev pub whole_pio : DeviceSlots → Option ℕ
whole_pio own = match_some (sent_pio own) None (λ slot. if holds is_whole_issue (own_issue own slot)
    then Some slot else None)

-- that slot is freed
abbrev pub after_pio_done : DeviceSlots → DeviceSlots
after_pio_done own = match_some (whole_pio own) own (λ slot. freed (is_slot slot) own)

-- ---- sets of slots, as numbers

abbrev pub is_any : Issue → Bool
is_any issue = true

-- the slots with an issue for which the test holds
abbrev pub slots_where : (Issue → Bool) → Slots → ℕ
slots_where test t = mask_of (λ slot. holds test (issue_at t slot))

-- the device's slots
abbrev pub own_slots : DeviceSlots → ℕ
own_slots own = mask_of (λ slot. holds is_any (own_issue own slot))

-- the command was not sent, or the device has not answered it
abbrev pub is_unanswered : Issue → Bool
is_unanswered issue = not issue.answered

-- ---- one device at a time

-- the command was sent, to a device other than this one
abbrev pub is_sent_beside : ℕ → Issue → Bool
is_sent_beside dev issue = issue.sent && not (issue.dev == dev)

-- such a command is in some slot, so it is not done
abbrev pub any_sent_beside : Slots → ℕ → Bool
any_sent_beside t dev = is_some (lowest (λ slot. holds (is_sent_beside dev) (issue_at t slot)))
