-- The two views that a host has of a disk, over each event. The ledger of the FISes at its end of the link
-- and the history of the device's events at its port still say the same of each slot (Serial ATA 3.x, 13.6,
-- native command queuing; AHCI 1.3.1, 5.3 and 9.3). This holds from the moment that the disk is plugged in,
-- as long as the port refuses no FIS, empties no slot and resets no device.
use Rattle.std.specs.Prelude.{ℕ, ◌≡◌, ◌≢◌, ◌≤◌, ◌==◌, length, if◌then◌else◌, Bool, true, false, List, [], ◌∷◌, ◌++◌, drop, Option, Some, None, Result}
use Rattle.std.specs.Prelude.{Ok}
use Rattle.fis_view.specs.{Table.{Bits, BufferId, EStatus, Offset, Pio, SActive, Setup, field}, declared.{view.Fis.Fis, view.FisFault.FisFault}}
use Rattle.fis_view.specs.Table as table
use Rattle.fis_view.specs.declared.view.Fis.TheVariants as view
use Rattle.slots.specs.{Slots.has_bit, Work.is_queued}
use Rattle.disk_model.specs.{declared.request.Request.{Request, TheVariants.Queue}, Ends.{FitsData, FitsRequest, IsFree, IsRight}}
use Rattle.disk_model.specs.Ledger.{Accepts, Finishes, Ledger, Refuses, Reply, ShowsPage, Signs, Wanted, asks, listens_up, takes_data}
use Rattle.hba_laws.specs.History.{Answered, Carried, History, Issued, Named, PioSetUp, Sent, SetUp, Transfer, completes, is_at, is_set_up, issued}
use Rattle.hba_laws.specs.History.{waiting_in}
use Rattle.disk_simulation.specs.{Answers.{IsAlone, IsIdle}, Same.{InLife, SlotCommand}}

-- ---- what is still to be answered

-- no answer, or one that accepts a queued command
abbrev pub AtMostAccepts : List Reply → Type 0
AtMostAccepts [] = Unit {0}
AtMostAccepts (Accepts ∷ []) = Unit {0}
AtMostAccepts (_ ∷ later) = ⊥

abbrev pub AtMostOne : List Wanted → Type 0
AtMostOne [] = Unit {0}
AtMostOne (page ∷ []) = Unit {0}
AtMostOne (page ∷ another ∷ later) = ⊥

-- the command that was transmitted last is issued and was not answered; it is queued or not, as said
pub record IsWaited (queued : Bool) (past : History) : Type 0 where
  pub slot : ℕ
  pub transfer : Transfer
  pub kind : is_queued transfer.work.kind ≡ queued
  pub waits : waiting_in past ≡ Some slot
  pub there : issued slot past ≡ Some transfer

-- and no setup since its issue is for it
pub record IsWaitedUnset (past : History) : Type 0 where
  pub waited : IsWaited false past
  pub unset : is_set_up waited.slot past ≡ false

-- an answer in a Register FIS, and not to a queued command; the signature of a device that was plugged in
-- answers no command
abbrev pub IsOwnReply : Reply → History → Type 0
IsOwnReply Signs past = Unit {0}
IsOwnReply Accepts past = ⊥
IsOwnReply Finishes past = IsWaited false past
IsOwnReply Refuses past = IsWaited false past
IsOwnReply ShowsPage past = ⊥

-- no issued command waits for its answer
abbrev pub NothingWaits : History → Type 0
NothingWaits past = (s : ℕ) (t : Transfer) → issued s past ≡ Some t
    → is_at s (waiting_in past) ≡ false

-- Only a queued command is to be answered. Or there are no queued commands, and an answer of another kind is
-- to come, a PIO Setup, or the page that it announced; the command it belongs to waits at the port.
pub data InTalk (past : History) (k : Ledger) : Type 0 where
  Queues : AtMostAccepts k.awaited → (k.awaited ≢ [] → IsWaited true past) → k.pages ≡ []
      → InTalk past k
  Replies : (reply : Reply) → IsIdle k → k.awaited ≡ reply ∷ [] → IsOwnReply reply past
      → k.pages ≡ [] → InTalk past k
  Shows : IsIdle k → k.awaited ≡ ShowsPage ∷ [] → AtMostOne k.pages → IsWaitedUnset past
      → InTalk past k
  Pages : (page : Wanted) → IsIdle k → k.awaited ≡ [] → k.pages ≡ page ∷ [] → IsWaited false past
      → InTalk past k

-- ---- both views

-- whether the command of s was transmitted since its issue
abbrev pub is_sent : ℕ → History → Bool
is_sent s [] = false
is_sent s (Issued slot t ∷ past) = if slot == s then false else is_sent s past
is_sent s (Sent slot ∷ past) = if slot == s then true else is_sent s past
is_sent s (_ ∷ past) = is_sent s past

-- no queued command is issued there
abbrev pub NoneQueued : Option Transfer → Type 0
NoneQueued None = Unit {0}
NoneQueued (Some t) = is_queued t.work.kind ≡ false

-- no answer is due to what is issued there, and no setup is for it
pub record IsUntouched (s : ℕ) (past : History) : Type 0 where
  pub quiet : is_at s (waiting_in past) ≡ false
  pub unset : is_set_up s past ≡ false

-- An issued queued command stands in the ledger as its events say, and its tag is the number of its slot. A
-- slot without one, or whose command was not sent, has a free tag.
pub record Same (commands : ℕ → SlotCommand) (past : History) (k : Ledger) : Type 0 where
  pub fine : k.failed ≡ false
  pub tags : (s : ℕ) → (commands s).command.tag ≡ s
  pub live : (s : ℕ) (t : Transfer) → issued s past ≡ Some t → is_queued t.work.kind ≡ true
      → InLife s (commands s) past k
  pub free : (s : ℕ) → NoneQueued (issued s past) → IsFree k s
  pub unsent : (s : ℕ) → is_sent s past ≡ false → IsFree k s
  pub untouched : (s : ℕ) (t : Transfer) → issued s past ≡ Some t → is_sent s past ≡ false
      → IsUntouched s past
  pub talk : InTalk past k

-- ---- the events

-- one slot has this command; the others keep theirs
abbrev pub with_command : (ℕ → SlotCommand) → ℕ → SlotCommand → ℕ → SlotCommand
with_command commands slot c s = if slot == s then c else commands s

-- what a FIS that comes up is in the device's history, if the port refuses nothing of it
abbrev pub told : Result Fis FisFault → History
told (Ok (view.DmaSetup f)) =
    SetUp (field Setup BufferId f) (field Setup Offset f) (field Setup table.Count f)
    (field Setup table.D f == 1) ∷ []
told (Ok (view.PioSetup f)) =
    PioSetUp (field Pio table.Transfer f) (field Pio table.D f == 1) (field Pio EStatus f) ∷ []
told (Ok (view.Payload f)) = Carried (drop 4 f) ∷ []
told (Ok (view.SetBits f)) = Named (field Bits SActive f) ∷ []
told (Ok (view.RegD2H f)) = Answered ∷ []
told _ = []

-- The port refuses nothing of the FIS. A Set Device Bits FIS completes each queued command that it names. The
-- command of a DMA Setup was answered.
abbrev pub IsHeard : History → Result Fis FisFault → Type 0
IsHeard past (Ok (view.DmaSetup f)) = is_at (field Setup BufferId f) (waiting_in past) ≡ false
IsHeard past (Ok (view.SetBits f)) = (s : ℕ) (t : Transfer) → issued s past ≡ Some t
    → is_queued t.work.kind ≡ true
    → has_bit (field Bits SActive f) s ≡ true
    → completes s (Named (field Bits SActive f)) past t.work ≡ true
IsHeard past _ = Unit {0}

-- the queued command of a slot is transmitted
pub record QueuesOne (commands : ℕ
    → SlotCommand) (slot : ℕ) (past : History) (k : Ledger) : Type 0 where
  -- it fits the ledger
  pub fits : FitsRequest k (Queue (commands slot).command)
  pub same : Same commands (Sent slot ∷ past) (asks k (Queue (commands slot).command) k.failed)

-- another command of a slot is transmitted
pub record AsksOne (commands : ℕ
    → SlotCommand) (slot : ℕ) (request : Request) (past : History) (k : Ledger) : Type 0 where
  pub fits : FitsRequest k request
  pub same : Same commands (Sent slot ∷ past) (asks k request k.failed)

-- Both views say the same where nothing is issued or outstanding, and still do at each event.
pub record SameGoesOn : Type 0 where
  -- the device must sign, after it was plugged in or reset, and nothing is issued
  pub opens : (commands : ℕ → SlotCommand) (past : History) (k : Ledger)
      → ((s : ℕ) → (commands s).command.tag ≡ s)
      → ((s : ℕ) → issued s past ≡ None) → k.failed ≡ false → IsIdle k → k.awaited ≡ Signs ∷ []
      → k.pages ≡ []
      → Same commands past k
  -- a command is issued in a slot that is free
  pub issues : (commands : ℕ
      → SlotCommand) (slot : ℕ) (c : SlotCommand) (t : Transfer) (past : History) (k : Ledger)
      → issued slot past ≡ None → c.command.tag ≡ slot → c.since ≤ length k.writes
      → Same commands past k
      → Same (with_command commands slot c) (Issued slot t ∷ past) k
  -- a queued command is transmitted for the first time, once the device has signed and while no other waits
  -- for its answer
  pub queues : (commands : ℕ → SlotCommand) (slot : ℕ) (t : Transfer) (past : History) (k : Ledger)
      → issued slot past ≡ Some t → is_queued t.work.kind ≡ true → is_sent slot past ≡ false
      → k.awaited ≢ Signs ∷ []
      → NothingWaits past → Same commands past k → QueuesOne commands slot past k
  -- another command is transmitted, while no queued one is issued, once the device has signed and while none
  -- waits for its answer
  pub asks_other : (commands : ℕ
      → SlotCommand) (slot : ℕ) (t : Transfer) (request : Request) (past : History) (k : Ledger)
      → issued slot past ≡ Some t → is_queued t.work.kind ≡ false → is_sent slot past ≡ false
      → IsAlone request
      → ((s : ℕ) → NoneQueued (issued s past)) → k.awaited ≢ Signs ∷ [] → NothingWaits past
      → Same commands past k
      → AsksOne commands slot request past k
  -- a FIS of the disk is received
  pub takes : (commands : ℕ → SlotCommand) (fis : Result Fis FisFault) (past : History) (k : Ledger)
      → IsRight k fis
      → IsHeard past fis → Same commands past k
      → Same commands (told fis ++ past) (listens_up k fis)
  -- Data that was asked for is transmitted
  pub gives : (commands : ℕ → SlotCommand) (bytes : List ℕ) (past : History) (k : Ledger)
      → FitsData k.moving bytes
      → Same commands past k → Same commands (Carried bytes ∷ past) (takes_data k k.moving bytes)
