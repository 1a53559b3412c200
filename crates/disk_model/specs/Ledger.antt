-- What the FISes of a disk tell a listener on its link: which queued commands are outstanding, what of their
-- data moved and where it belongs, which commands ended and in what order, and what the host is still to hear
-- (Serial ATA 3.x, 10.5, FIS types, and 13.6, native command queuing; ACS-3, READ and WRITE FPDMA QUEUED).
-- The ledger does not know how the disk goes about its commands: it has no plan and no chunk. Places come
-- from the DMA Setups, bytes from the Data FISes, lengths from the commands.
use Rattle.std.specs.Prelude.{ℕ, ◌≡◌, ◌+◌, ◌*◌, ◌%◌, ◌^◌, ◌==◌, ◌&&◌, Bool, true, false, not, List, [], ◌∷◌, ◌++◌, drop, length, replicate, filter}
use Rattle.std.specs.{Prelude.{find, if◌then◌else◌, Option, Some, None, Result, Ok}, List.list_any}
use Rattle.fis_view.specs.{Table.{A, Bits, D, Setup, BufferId, Offset, SActive, Status, Error, field}, Seen.seen, declared.view.Fis.Fis}
use Rattle.fis_view.specs.declared.view.FisFault.{FisFault}
use Rattle.fis_view.specs.Table as table
use Rattle.fis_view.specs.declared.view.Fis.TheVariants as view
use Rattle.disk_model.specs.declared.{plan.DiskPlan.DiskPlan, request.{Command.Command, Request.{Request, TheVariants.{Reset, Queue, ReadErrorLog}}}}
use Rattle.disk_model.specs.{declared.request.Request.TheVariants.{Identify, Flush, Other}, Histories.{Happening, Received, Sent, Plugged, Loaded}}
use Rattle.disk_model.specs.{Requests.request_of, Chunks.{put, sectors_at}, Disks.opening_medium, Runs.is_size}

-- a write that ended: its tag, where its bytes begin on the medium, and its bytes
pub record Written : Type 0 where
  pub tag : ℕ
  pub at : ℕ
  pub bytes : List ℕ

-- the bytes of a command's data that a DMA Setup names: its offset and its count
pub record Stretch : Type 0 where
  pub at : ℕ
  pub count : ℕ

-- the data of a command, as far as it has moved
pub record Moving : Type 0 where
  pub command : Command
  -- the writes that had ended when it was started
  pub before : List Written
  -- its bytes, each at its place; 0 where none has come
  pub bytes : List ℕ
  -- how many bytes have moved
  pub moved : ℕ
  -- what its DMA Setups named, in order
  pub setups : List Stretch
  -- for the last DMA Setup: the place of its bytes, their number, and whether Data of the host may come,
  -- after a DMA Activate or by auto-activate
  pub offset : ℕ
  pub count : ℕ
  pub active : Bool

-- a read that ended: its command, the writes that had ended when it was started, and the bytes that it sent
pub record ReadOut : Type 0 where
  pub command : Command
  pub before : List Written
  pub bytes : List ℕ

-- What a Register Device to Host FIS or a PIO Setup FIS answers to a command or a reset.
pub data Reply : Type 0 where
  -- the signature of an ATA device, after a reset
  Signs : Reply
  -- a queued command was accepted
  Accepts : Reply
  -- a command that moves no data was done
  Finishes : Reply
  -- a command was refused
  Refuses : Reply
  -- a page follows
  ShowsPage : Reply

-- an error that a Set Device Bits FIS reported: its Error, and the commands that were outstanding
pub record Failure : Type 0 where
  pub error : ℕ
  pub among : List Command

-- a page that was asked for
pub data Wanted : Type 0 where
  -- the NCQ Command Error log, as it was then
  LogOf : Option Failure → Wanted
  IdentifyData : Wanted

pub record Ledger : Type 0 where
  -- the commands that were queued and have not ended
  pub outstanding : List Command
  -- all of them were given up for an error or for SRST, and no command is heard; this ends when the log is
  -- read, unless SRST is set, and when a reset ends
  pub failed : Bool
  -- the error for which they were given up, if a Set Device Bits FIS reported it
  pub failure : Option Failure
  -- SRST is set
  pub resetting : Bool
  -- SRST holds the disk in its software reset: the disk was not plugged in after SRST was set
  pub in_reset : Bool
  -- the answers that are still to come for the commands and resets that came, in their order
  pub awaited : List Reply
  -- the pages that were asked for and have not come, in order
  pub pages : List Wanted
  -- the tags of commands that ended and were not answered, in the order in which they ended
  pub unanswered : List ℕ
  pub moving : Option Moving
  -- the writes and the reads that ended, in order
  pub writes : List Written
  pub reads : List ReadOut

abbrev pub empty : Ledger
empty = record {
  outstanding = [];
  failed = false;
  failure = None;
  resetting = false;
  in_reset = false;
  awaited = [];
  pages = [];
  unanswered = [];
  moving = None;
  writes = [];
  reads = [];
}

-- ## What the host sends

-- nothing is outstanding, and nothing waits for an answer
abbrev pub given_up : Ledger → Bool → Ledger
given_up l failed = record l {
  outstanding = [];
  failed = failed;
  failure = None;
  in_reset = false;
  awaited = [];
  pages = [];
  unanswered = [];
  moving = None;
}

-- one more answer is awaited
abbrev pub awaits : Ledger → Reply → Ledger
awaits l reply = record l { awaited = l.awaited ++ reply ∷ [] }

abbrev pub awaits_page : Ledger → Wanted → Ledger
awaits_page l page = record l { awaited = l.awaited ++ ShowsPage ∷ []; pages = l.pages ++ page ∷ [] }

-- a command that is not queued: while queued commands are outstanding it is refused, and all are given up
abbrev pub mixes : Ledger → Ledger → List Command → Ledger
mixes l alone [] = alone
mixes l alone (c ∷ cs) = record (given_up l true) { awaited = Refuses ∷ [] }

abbrev pub refuses : Ledger → Ledger
refuses l = mixes l (awaits l Refuses) l.outstanding

-- a command whose tag is outstanding is refused
abbrev pub opens : Ledger → Command → Ledger
opens l c = (if list_any (λ q. q.tag == c.tag) l.outstanding then refuses l
    else awaits (record l { outstanding = l.outstanding ++ c ∷ [] }) Accepts)

-- SRST is cleared: the software reset ends
abbrev pub restarts : Ledger → Bool → Ledger
restarts l true =
    awaits (record l { failed = not l.in_reset && l.failed; resetting = false; in_reset = false }) Signs
restarts l false = l

-- the log is read, which ends the error mode
abbrev pub reads_log : Ledger → Ledger
reads_log l =
    mixes l (record (awaits_page l (LogOf l.failure)) { failed = false; failure = None }) l.outstanding

-- in a software reset no command is heard, after an error only the read of the log
abbrev pub asks : Ledger → Request → Bool → Ledger
asks l (Reset true) failed = record (given_up l true) { resetting = true; in_reset = true }
asks l (Reset false) failed = restarts l l.resetting
asks l ReadErrorLog false = reads_log l
asks l ReadErrorLog true = if l.in_reset then l else reads_log l
asks l (Queue c) false = opens l c
asks l Flush false = mixes l (awaits l Finishes) l.outstanding
asks l Identify false = mixes l (awaits_page l IdentifyData) l.outstanding
asks l Other false = refuses l
asks l _ true = l

-- ## How data moves

-- all bytes of the command have moved
abbrev pub ends : Ledger → Moving → Bool → Ledger
ends l v true = record l {
  outstanding = filter (λ q. not (q.tag == v.command.tag)) l.outstanding;
  unanswered = l.unanswered ++ v.command.tag ∷ [];
  moving = None;
  writes = l.writes ++ record { tag = v.command.tag; at = 512 * v.command.lba; bytes = v.bytes } ∷ [];
}
ends l v false = record l {
  outstanding = filter (λ q. not (q.tag == v.command.tag)) l.outstanding;
  unanswered = l.unanswered ++ v.command.tag ∷ [];
  moving = None;
  reads = l.reads ++ record { command = v.command; before = v.before; bytes = v.bytes } ∷ [];
}

-- a command ends as soon as all the bytes that it asks for have moved
abbrev pub goes_on : Ledger → Moving → Ledger
goes_on l v =
    (if v.moved == 512 * v.command.count then ends l v v.command.write else record l { moving = Some v })

-- bytes move to the place that the last DMA Setup gave
abbrev pub moves : Ledger → Moving → List ℕ → Ledger
moves l v bytes = goes_on l (record v {
  bytes = put v.bytes v.offset bytes;
  moved = v.moved + length bytes;
  active = false;
})

-- Data of the host: it is the write's if a DMA Activate or auto-activate asked for it and it has the DMA
-- Setup's length
abbrev pub takes_data : Ledger → Option Moving → List ℕ → Ledger
takes_data l None bytes = l
takes_data l (Some v) bytes = (if v.active && (length bytes == v.count) then moves l v bytes else l)

-- Data of the disk: it is the read's, or, while no data moves, the page that was asked for first
abbrev pub sends_data : Ledger → Option Moving → List ℕ → Ledger
sends_data l None bytes = record l { pages = drop 1 l.pages }
sends_data l (Some v) bytes = moves l v bytes

-- A DMA Setup. The first one of a command starts it.
abbrev pub starts_moving : Ledger → (offset count : ℕ) → Option Command → Ledger
starts_moving l offset count None = l
starts_moving l offset count (Some c) =
    record l {
      moving = Some (record {
        command = c;
        before = l.writes;
        bytes = replicate (512 * c.count) 0;
        moved = 0;
        setups = record { at = offset; count = count } ∷ [];
        offset = offset;
        count = count;
        active = false;
      });
    }

abbrev pub sets_up : Ledger → Option Moving → (tag offset count : ℕ) → Ledger
sets_up l None tag offset count = starts_moving l offset count (find (λ c. c.tag == tag) l.outstanding)
sets_up l (Some v) tag offset count =
    record l {
      moving = Some (record v {
        setups = v.setups ++ record { at = offset; count = count } ∷ [];
        offset = offset;
        count = count;
        active = false;
      });
    }

abbrev pub activates : Ledger → Option Moving → Ledger
activates l None = l
activates l (Some v) = record l { moving = Some (record v { active = true }) }

-- a DMA Setup with auto-activate: A is set, and the data goes to the device
abbrev pub is_auto : List ℕ → Bool
is_auto f = field Setup A f == 1 && not (field Setup D f == 1)

-- a DMA Setup with auto-activate counts like one that a DMA Activate follows at once
abbrev pub with_auto : Bool → Ledger → Ledger
with_auto true l = activates l l.moving
with_auto false l = l

-- ## Set Device Bits

-- ERR, bit 0 of Status, is set
abbrev pub has_error : List ℕ → Bool
has_error f = field Bits Status f % 2 == 1

-- with ERR everything is given up; without it the command that ended first is answered
abbrev pub answers : Ledger → (error : ℕ) → Bool → Ledger
answers l error true =
    record (given_up l true) { failure = Some (record { error = error; among = l.outstanding }) }
answers l error false = record l { unanswered = drop 1 l.unanswered }

-- the answer that was awaited first came
abbrev pub answered : Ledger → Ledger
answered l = record l { awaited = drop 1 l.awaited }

-- ## Histories

abbrev pub listens_down : Ledger → Result Fis FisFault → Ledger
listens_down l (Ok (view.RegH2D f)) = asks l (request_of f) l.failed
listens_down l (Ok (view.Payload f)) = takes_data l l.moving (drop 4 f)
listens_down l _ = l

abbrev pub listens_up : Ledger → Result Fis FisFault → Ledger
listens_up l (Ok (view.DmaSetup f)) =
    with_auto (is_auto f)
    (sets_up l l.moving (field Setup BufferId f) (field Setup Offset f) (field Setup table.Count f))
listens_up l (Ok (view.DmaActivate f)) = activates l l.moving
listens_up l (Ok (view.Payload f)) = sends_data l l.moving (drop 4 f)
listens_up l (Ok (view.SetBits f)) = answers l (field Bits Error f) (has_error f)
listens_up l (Ok (view.RegD2H f)) = answered l
listens_up l (Ok (view.PioSetup f)) = answered l
listens_up l _ = l

-- All sectors of a new disk at once. It counts as a write with a tag that no command has.
abbrev pub loaded : List ℕ → Written
loaded bytes = record { tag = 32; at = 0; bytes = bytes }

abbrev pub listens : Ledger → Happening → Ledger
listens l (Received bytes) = listens_down l (seen bytes)
listens l (Sent bytes) = listens_up l (seen bytes)
listens l Plugged = awaits (given_up l false) Signs
listens l (Loaded bytes) = record l { writes = l.writes ++ loaded bytes ∷ [] }

unfoldable pub ledger_after : Ledger → List Happening → Ledger
ledger_after l [] = l
ledger_after l (e ∷ later) = ledger_after (listens l e) later

-- what the FISes of a history tell
abbrev pub ledger : List Happening → Ledger
ledger history = ledger_after empty history

-- ## The laws

-- a medium with the bytes of writes put in, in order
unfoldable pub with_writes : List ℕ → List Written → List ℕ
with_writes medium [] = medium
with_writes medium (w ∷ later) = with_writes (put medium w.at w.bytes) later

-- the medium of a new disk with the bytes of writes put in, in order
abbrev pub medium_with : ℕ → List Written → List ℕ
medium_with sectors writes = with_writes (opening_medium sectors) writes

-- the bytes that the read sent, each at its place, are its sectors as they were when it was started
abbrev pub IsRead : ℕ → ReadOut → Type 0
IsRead sectors r = r.bytes ≡ sectors_at (medium_with sectors r.before) r.command.lba r.command.count

-- the Set Device Bits FIS names only the tag that ended first among those not answered
abbrev pub Names : List ℕ → ℕ → Type 0
Names [] sactive = ⊥
Names (tag ∷ later) sactive = sactive ≡ 2 ^ tag

-- a Set Device Bits FIS without ERR answers a command that ended and was not answered
abbrev pub AnswersOne : Ledger → Result Fis FisFault → Type 0
AnswersOne l (Ok (view.SetBits f)) = has_error f ≡ false → Names l.unanswered (field Bits SActive f)
AnswersOne l _ = Unit {0}

-- a size with which a disk can be made
abbrev pub IsSize : DiskPlan → ℕ → Type 0
IsSize plan sectors = is_size plan.profile sectors plan.chunk ≡ true
