-- What happened to the commands of one device, and what follows from it: what is issued, which bytes of it
-- are filled and with what, and which event completes it (AHCI 1.3.1, 5.3 and 9.3; Serial ATA 3.x, 10.5, FIS
-- types; ACS-3, NCQ, DMA and PIO commands). These definitions read a history back to the issue of a slot.
-- They use no flag, no cursor and no running sum.
use Rattle.std.specs.Prelude.{ℕ, ◌+◌, ◌-◌, ◌≤◌, ◌==◌, ◌&&◌, ◌||◌, nat_le, nat_lt, not, Bool, false, if◌then◌else◌, List, [], ◌∷◌, length, slice_get}
use Rattle.std.specs.{Prelude.{Option, Some, None, is_some}, List.{range_with_len, list_all}}
use Rattle.host_memory.specs.declared.table.Prd.{Prd}
use Rattle.slots.specs.{Slots.{has_bit, is_pio, match_some}, Work.{is_queued, needs_all}, declared.work.Work.Work}
use Rattle.hba_fbs.specs.Status.{is_quiet}

-- what a command moves: its kind, its byte count, and the PRDs that say where the bytes lie, as they are at
-- its issue
pub record Transfer : Type 0 where
  pub work : Work
  pub table : List Prd

-- One event of a device. A FIS that was ignored, or that had a fault, is no event, with two exceptions: a Set
-- Device Bits FIS that names whole slots together with slots that miss bytes, and Data whose only fault is
-- the last status of its block.
pub data Event : Type 0 where
  -- a command is issued in a slot
  Issued : (slot : ℕ) → Transfer → Event
  -- the command of a slot, or the Control there, is transmitted
  Sent : (slot : ℕ) → Event
  SentControl : (slot : ℕ) → Event
  -- a DMA Setup is accepted, or a PIO Setup for a PIO data-out, or the command of a slot is transmitted that has
  -- no setup and is its own
  SetUp : (tag offset count : ℕ) → (to_host : Bool) → Event
  -- a PIO Setup is accepted for a PIO data-in, with the Status at the end of its block
  PioSetUp : (count : ℕ) → (to_host : Bool) → (ends : ℕ) → Event
  -- the payload of a Data FIS was received or transmitted
  Carried : (bytes : List ℕ) → Event
  -- a Register Device to Host FIS answers the waiting command
  Answered : Event
  -- a Set Device Bits FIS says that these slots are done
  Named : (mask : ℕ) → Event
  -- the device is flushed or its error is cleared, or ST falls
  Emptied : Event

-- The functions below read a history backwards: the latest event comes first.
abbrev pub History : Type 0
History = List Event

-- an accepted setup, and for a PIO Setup the Status at its end
pub record Setup : Type 0 where
  pub slot : ℕ
  pub offset : ℕ
  pub count : ℕ
  pub to_host : Bool
  pub ends : Option ℕ

-- the option, if the test fails
abbrev pub unless : {A : Type 0} → Bool → Option A → Option A
unless test o = if test then None else o

abbrev pub is_at : ℕ → Option ℕ → Bool
is_at s None = false
is_at s (Some k) = k == s

-- ---- setups

-- the slot whose command was transmitted last and was not answered
abbrev pub waiting_in : History → Option ℕ
waiting_in [] = None
waiting_in (Sent slot ∷ past) = Some slot
waiting_in (Issued slot t ∷ past) = unless (is_at slot (waiting_in past)) (waiting_in past)
waiting_in (Answered ∷ past) = None
waiting_in (_ ∷ past) = waiting_in past

-- Whether the last setup since the issue of s is for s. A PIO Setup is for the slot that waits.
abbrev pub is_set_up : ℕ → History → Bool
is_set_up s [] = false
is_set_up s (Issued slot t ∷ past) = if slot == s then false else is_set_up s past
is_set_up s (SetUp tag offset count to_host ∷ past) = tag == s
is_set_up s (PioSetUp count to_host ends ∷ past) = is_at s (waiting_in past)
is_set_up s (_ ∷ past) = is_set_up s past

-- how many bytes of s were transferred since its issue
abbrev pub bytes_of : ℕ → History → ℕ
bytes_of s [] = 0
bytes_of s (Issued slot t ∷ past) = if slot == s then 0 else bytes_of s past
bytes_of s (Carried bytes ∷ past) =
    if is_set_up s past then bytes_of s past + length bytes else bytes_of s past
bytes_of s (_ ∷ past) = bytes_of s past

-- the setup of a PIO Setup continues where the bytes of its slot end
abbrev pub pio_setup : (slot offset count : ℕ) → (to_host : Bool) → (ends : ℕ) → Setup
pio_setup slot offset count to_host ends =
    record { slot = slot; offset = offset; count = count; to_host = to_host; ends = Some ends }

-- the last setup
abbrev pub last_setup : History → Option Setup
last_setup [] = None
last_setup (SetUp tag offset count to_host ∷ past) =
    Some (record { slot = tag; offset = offset; count = count; to_host = to_host; ends = None })
last_setup (PioSetUp count to_host ends ∷ past) =
    match_some (waiting_in past) None (λ s. Some (pio_setup s (bytes_of s past) count to_host ends))
last_setup (_ ∷ past) = last_setup past

-- how many bytes of Data were transferred since the last setup
abbrev pub carried : History → ℕ
carried [] = 0
carried (SetUp tag offset count to_host ∷ past) = 0
carried (PioSetUp count to_host ends ∷ past) = 0
carried (Carried bytes ∷ past) = carried past + length bytes
carried (_ ∷ past) = carried past

-- the number of the next byte: the last setup's offset, plus the bytes since
abbrev pub next_number : History → ℕ
next_number past = match_some (last_setup past) 0 (λ g. g.offset + carried past)

-- ---- what is filled

abbrev pub none_filled : ℕ → Option ℕ
none_filled k = None

-- these bytes are filled too, from this number on
abbrev pub filled_from : ℕ → List ℕ → (ℕ → Option ℕ) → ℕ → Option ℕ
filled_from from bytes filled k =
    if nat_le from k && nat_lt k (from + length bytes) then slice_get bytes (k - from) else filled k

-- The bytes of s by their numbers. Data fills s where the last setup since the issue of s is for s.
abbrev pub filled : ℕ → History → ℕ → Option ℕ
filled s [] = none_filled
filled s (Issued slot t ∷ past) = if slot == s then none_filled else filled s past
filled s (Carried bytes ∷ past) =
    if is_set_up s past then filled_from (next_number past) bytes (filled s past) else filled s past
filled s (_ ∷ past) = filled s past

-- every byte of a transfer of this length is filled
abbrev pub is_all_filled : (ℕ → Option ℕ) → ℕ → Bool
is_all_filled bytes len = list_all (λ k. is_some (bytes k)) (range_with_len 0 len)

-- ---- what completes

-- the last status of the block that Data of this length ends
abbrev pub block_end : Setup → ℕ → Option ℕ
block_end g gone = if gone == g.count then g.ends else None

-- Data of this length ends a block, with a Status that lets the command complete
abbrev pub ends_well : Setup → ℕ → Bool
ends_well g gone = match_some (block_end g gone) false is_quiet

-- Whether the event completes what is issued in s, given its work. A queued command completes with a Set
-- Device Bits FIS that names it while it is whole. Any other completes with an answer of the device, one that
-- moves data only while it is whole, and a PIO data-in also with the end of its last block.
abbrev pub completes : ℕ → Event → History → Work → Bool
completes s (Named mask) past w =
    has_bit mask s && (is_queued w.kind && is_all_filled (filled s past) w.len)
completes s Answered past w =
    is_at s (waiting_in past) && not (is_queued w.kind)
    && (not (needs_all w.kind) || is_all_filled (filled s past) w.len)
completes s (Carried bytes) past w =
    is_set_up s past && is_pio w.kind
    && match_some (last_setup past) false (λ g. ends_well g (carried past + length bytes))
    && is_all_filled (filled s (Carried bytes ∷ past)) w.len
completes s _ past w = false

-- what is issued in each slot and did not complete; a Control has no answer, so its slot is free once it is
-- transmitted
abbrev pub issued : ℕ → History → Option Transfer
issued s [] = None
issued s (Issued slot t ∷ past) = if slot == s then Some t else issued s past
issued s (SentControl slot ∷ past) = unless (slot == s) (issued s past)
issued s (Emptied ∷ past) = None
issued s (e ∷ past) =
    match_some (issued s past) None (λ t. unless (completes s e past t.work) (Some t))

-- how often the last issue of s completed
abbrev pub completions : ℕ → History → ℕ
completions s [] = 0
completions s (Issued slot t ∷ past) = if slot == s then 0 else completions s past
completions s (e ∷ past) =
    match_some (issued s past) 0 (λ t. if completes s e past t.work then 1 else 0)
    + completions s past

-- Each issue completes at most once, and not while it is still issued.
abbrev pub CompletesOnce : Type 0
CompletesOnce =
    (s : ℕ) (past : History) → completions s past + match_some (issued s past) 0 (λ t. 1) ≤ 1
