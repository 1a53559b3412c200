-- What a disk is at one moment, what it sends next, and what it makes of what it receives (Serial ATA 3.x,
-- 10.5, FIS types, and 13.6, native command queuing; ACS-3, READ and WRITE FPDMA QUEUED, NCQ Command Error
-- log).
use Rattle.std.specs.Prelude.{ℕ, ◌+◌, ◌-◌, ◌*◌, ◌/◌, ◌%◌, ◌==◌, ◌&&◌, Bool, true, false, not, List, [], ◌∷◌, ◌++◌, length, replicate, filter, map}
use Rattle.std.specs.{Prelude.{slice_get, if◌then◌else◌, Option, Some, None, Result, Ok, drop}, List.{list_any, range_with_len}}
use Rattle.fis_view.specs.{declared.view.{Fis.Fis, FisFault.FisFault}, Seen.seen}
use Rattle.fis_view.specs.declared.view.Fis.TheVariants as view
use Rattle.disk_model.specs.declared.request.{Command.Command, Request.{Request, TheVariants.{Reset, Queue, ReadErrorLog, Identify, Flush, Other}}}
use Rattle.disk_model.specs.declared.answer.Answer.{Answer, TheVariants.{Signature, Accepted, Finished, Refused, Ended, PageFollows, PageData}}
use Rattle.disk_model.specs.declared.answer.{Page.{Page, TheVariants.{ErrorLog, Identity}}, Fault.{Fault, TheVariants.{Held, Mixed}}}
use Rattle.disk_model.specs.{declared.plan.{DiskPlan.DiskPlan, Order.{Order, TheVariants.{Oldest, Newest}}}, Histories.{Happening, Received, Sent}}
use Rattle.disk_model.specs.{Histories.{Plugged, Loaded}, Requests.request_of, Sendings.{Sending, answer_sent}, Chunks.{chunks, chunk_from}}
use Rattle.disk_model.specs.Chunks.{chunk_count, sends_left, asks_for, put, fault_of, report}

-- a started read, and what it still has to send
pub record Started : Type 0 where
  pub command : Command
  pub sends : List Sending

-- a started write: what it still sends for its next chunk, how many chunks have not come, and its bytes as
-- far as they have come
pub record Writing : Type 0 where
  pub command : Command
  pub sends : List Sending
  pub left : ℕ
  pub staged : List ℕ

-- the disk at one moment; the queue and the answers owed are oldest first
pub record Moment : Type 0 where
  pub medium : List ℕ
  pub queued : List Command
  pub fault : Option Fault
  pub resetting : Bool
  pub owed : List Answer
  pub started : Option Started
  pub writing : Option Writing

-- a disk as contracts see it: what it was made with, and what it is now
pub record DiskValue : Type 0 where
  pub plan : DiskPlan
  pub sectors : ℕ
  pub now : Moment

-- the disk with another moment
abbrev pub with_now : DiskValue → Moment → DiskValue
with_now d m = record { plan = d.plan; sectors = d.sectors; now = m }

-- ## What the disk sends next, and what it is then

-- a FIS, and the disk after it
abbrev pub Turn : Type 0
Turn = Option (Sending × Moment)

abbrev pub without : List Command → Command → List Command
without queued c = filter (λ q. not (q.tag == c.tag)) queued

abbrev pub ended : Moment → Command → Moment
ended m c = record m { queued = without m.queued c; owed = Ended c.tag ∷ []; started = None; writing = None }

-- a FIS of the read was sent, and these are still to come; the last FIS ends the command
abbrev pub went : Moment → Command → List Sending → Moment
went m c [] = ended m c
went m c (s ∷ later) = record m { started = Some (record { command = c; sends = s ∷ later }) }

abbrev pub read_turn : Moment → Command → List Sending → Turn
read_turn m c [] = None
read_turn m c (s ∷ later) = Some (s, went m c later)

-- a FIS of the write is sent; if none is left to send, the write waits for Data
abbrev pub write_turn : Moment → Writing → List Sending → Turn
write_turn m w [] = None
write_turn m w (s ∷ later) = Some (s, record m { writing = Some (record w { sends = later }) })

-- an error ends all queued commands
abbrev pub stopped : Moment → Fault → Moment
stopped m fault = record m { queued = []; fault = Some fault; owed = []; started = None; writing = None }

abbrev pub begun_write : DiskPlan → Command → Writing
begun_write plan c = record {
  command = c;
  sends = asks_for plan c (chunks plan c);
  left = chunks plan c;
  staged = replicate (512 * c.count) 0;
}

abbrev pub starts : DiskPlan → Moment → Command → Bool → Turn
starts plan m c false = read_turn m c (sends_left plan m.medium c (chunks plan c))
starts plan m c true = write_turn m (begun_write plan c) (asks_for plan c (chunks plan c))

abbrev pub begun : DiskPlan → Moment → Command → Option Fault → Turn
begun plan m c None = starts plan m c c.write
begun plan m c (Some fault) = Some (report fault, stopped m fault)

-- the command that starts next
abbrev pub picked : Order → List Command → Option Command
picked Oldest queued = slice_get queued 0
picked Newest queued = slice_get queued (length queued - 1)

abbrev pub pick_turn : DiskPlan → ℕ → Moment → Option Command → Turn
pick_turn plan sectors m None = None
pick_turn plan sectors m (Some c) = begun plan m c (fault_of plan sectors c)

abbrev pub waiting_turn : DiskPlan → ℕ → Moment → Option Writing → Turn
waiting_turn plan sectors m None = pick_turn plan sectors m (picked plan.order m.queued)
waiting_turn plan sectors m (Some w) = write_turn m w w.sends

abbrev pub idle_turn : DiskPlan → ℕ → Moment → Option Started → Turn
idle_turn plan sectors m None = waiting_turn plan sectors m m.writing
idle_turn plan sectors m (Some s) = read_turn m s.command s.sends

abbrev pub answer_turn : DiskPlan → ℕ → Moment → List Answer → Turn
answer_turn plan sectors m [] = idle_turn plan sectors m m.started
answer_turn plan sectors m (a ∷ later) = Some (answer_sent sectors plan a, record m { owed = later })

-- the oldest answer, or else the next FIS of the started command, or else the first FIS of the command that
-- starts now
abbrev pub turn : DiskPlan → ℕ → Moment → Turn
turn plan sectors m = answer_turn plan sectors m m.owed

-- ## What the disk receives

abbrev pub owes : Moment → Answer → Moment
owes m a = record m { owed = m.owed ++ a ∷ [] }

abbrev pub owes_page : Moment → Page → Moment
owes_page m page = record m { owed = m.owed ++ PageFollows ∷ PageData page ∷ [] }

-- only this answer is owed, and nothing is queued
abbrev pub owes_alone : Moment → Answer → Option Fault → Moment
owes_alone m a fault = record m { queued = []; fault = fault; owed = a ∷ []; started = None; writing = None }

-- all that a reset drops
abbrev pub cleared : Moment → Moment
cleared m = record m { queued = []; fault = None; owed = []; started = None; writing = None }

-- a refusal drops the queued commands, if there are any
abbrev pub refused : Moment → List Command → Moment
refused m [] = owes m Refused
refused m (c ∷ cs) = owes_alone m Refused (Some Mixed)

-- a command that is not queued is refused while others are queued
abbrev pub flushed : Moment → List Command → Moment
flushed m [] = owes m Finished
flushed m (c ∷ cs) = refused m (c ∷ cs)

abbrev pub identified : Moment → List Command → Moment
identified m [] = owes_page m Identity
identified m (c ∷ cs) = refused m (c ∷ cs)

-- the log tells the error, and ends the error mode
abbrev pub logged : Moment → List Command → Moment
logged m [] = owes_page (record m { fault = None }) (ErrorLog m.fault)
logged m (c ∷ cs) = refused m (c ∷ cs)

abbrev pub queues : Moment → Command → Moment
queues m c = (if list_any (λ q. q.tag == c.tag) m.queued then refused m m.queued
    else record m { queued = m.queued ++ c ∷ []; owed = m.owed ++ Accepted ∷ [] })

-- SRST holds the disk in its software reset
abbrev pub is_held : Option Fault → Bool
is_held (Some Held) = true
is_held _ = false

-- SRST is cleared: the software reset ends
abbrev pub restarted : Moment → Bool → Moment
restarted m true =
    owes (record m { resetting = false; fault = if is_held m.fault then None else m.fault }) Signature
restarted m false = m

-- In a software reset only SRST is heard, in the error mode only SRST and the read of the log.
abbrev pub received : Moment → Request → Option Fault → Moment
received m (Reset true) mode = record (cleared m) { resetting = true; fault = Some Held }
received m (Reset false) mode = restarted m m.resetting
received m ReadErrorLog mode = if is_held mode then m else logged m m.queued
received m (Queue c) None = queues m c
received m Flush None = flushed m m.queued
received m Identify None = identified m m.queued
received m Other None = refused m m.queued
received m _ (Some fault) = m

-- the bytes of the chunk that a write waits for; the last chunk changes the medium
abbrev pub stored : DiskPlan → Moment → Writing → List ℕ → Moment
stored plan m w bytes =
    let staged = put w.staged (512 * chunk_from plan w.command w.left) bytes in
    (if w.left == 1 then record m {
      medium = put m.medium (512 * w.command.lba) staged;
      queued = without m.queued w.command;
      owed = m.owed ++ Ended w.command.tag ∷ [];
      writing = None;
    }
    else record m {
      writing = Some (record {
        command = w.command;
        sends = asks_for plan w.command (w.left - 1);
        left = w.left - 1;
        staged = staged;
      });
    })

-- Data counts only if a write waits for a chunk of exactly its length
abbrev pub data_taken : DiskPlan → Moment → Option Writing → List ℕ → Moment
data_taken plan m None bytes = m
data_taken plan m (Some w) bytes = (if (length w.sends == 0)
    && (length bytes == 512 * chunk_count plan w.command w.left) then stored plan m w bytes else m)

-- only a Register FIS and Data are heard
abbrev pub heard : DiskPlan → Moment → Result Fis FisFault → Moment
heard plan m (Ok (view.RegH2D f)) = received m (request_of f) m.fault
heard plan m (Ok (view.Payload f)) = data_taken plan m m.writing (drop 4 f)
heard plan m _ = m

-- ## Histories

abbrev pub after_turn : Moment → Turn → Moment
after_turn m None = m
after_turn m (Some t) = t.1

abbrev pub after : DiskPlan → ℕ → Moment → Happening → Moment
after plan sectors m (Received bytes) = heard plan m (seen bytes)
after plan sectors m (Sent bytes) = after_turn m (turn plan sectors m)
after plan sectors m Plugged = owes (cleared m) Signature
after plan sectors m (Loaded bytes) = record m { medium = bytes }

unfoldable pub moment_after : DiskPlan → ℕ → Moment → List Happening → Moment
moment_after plan sectors m [] = m
moment_after plan sectors m (e ∷ later) = moment_after plan sectors (after plan sectors m e) later

-- at first, byte i of sector l is l + i
abbrev pub opening_byte : ℕ → ℕ
opening_byte at = (at / 512 + at % 512) % 256

abbrev pub opening_medium : ℕ → List ℕ
opening_medium sectors = map opening_byte (range_with_len 0 (512 * sectors))

-- a new disk with this medium
abbrev pub new_with : List ℕ → Moment
new_with medium = record {
  medium = medium;
  queued = [];
  fault = None;
  resetting = false;
  owed = [];
  started = None;
  writing = None;
}

abbrev pub opening : ℕ → Moment
opening sectors = new_with (opening_medium sectors)
