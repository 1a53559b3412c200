-- A command of a block disk at one moment, what it does next, and what it makes of what it is given
-- (ACS-3, 4, protocols; Serial ATA 3.x, 10.5, FIS types, and 13.6, native command queuing).
use Rattle.std.specs.Prelude.{ℕ, ◌+◌, ◌-◌, ◌*◌, ◌<◌, ◌≤◌, ◌==◌, ◌^◌, Bool, true, false, List, [], ◌++◌, length, take, drop, nat_lt, not}
use Rattle.std.specs.Prelude.{if◌then◌else◌, ◌&&◌, Option, Some, None}
use Rattle.block_command.specs.declared.{answer.AnswerError.{AnswerError, TheVariants.{OtherKind, OtherLength}}, command.Command.Command}
use Rattle.block_command.specs.declared.command.{Protocol.{Protocol, TheVariants.{Queued, Pio, Verify}}, Stage.{Stage, TheVariants.{Waiting, Load}}}
use Rattle.block_command.specs.declared.command.Stage.TheVariants.{Loading, SetUpRead, Announce, Sending, SetUpWrite, Activate, Receiving, Store}
use Rattle.block_command.specs.declared.command.{Stage.TheVariants.{Storing, Flush, Flushing, End, Fail, Ended}, Turn.Turn}
use Rattle.block_command.specs.declared.command.Turn.TheVariants as turn

-- a command at one moment: so many sectors of earlier parts are done; of the part that is under way the bytes are those
-- that the caller gave for a read, or those that have come of a write, and so many of a read's were sent
pub record Moment : Type 0 where
  pub command : Command
  pub stage : Stage
  pub done : ℕ
  pub bytes : List ℕ
  pub sent : ℕ

-- all the bytes of a command
abbrev pub whole : Command → ℕ
whole c = c.count * 512

-- the sectors of the part behind so many: at most 1 MiB
abbrev pub part_count : Command → ℕ → ℕ
part_count c done = if nat_lt (c.count - done) 2048 then c.count - done else 2048

abbrev pub part_len : Command → ℕ → ℕ
part_len c done = part_count c done * 512

-- how many bytes the next Data FIS has where so many are left of a part
abbrev pub chunk : Command → ℕ → ℕ
chunk c left = if nat_lt left c.block then left else c.block

abbrev pub opening : Command → Moment
opening c = record { command = c; stage = Waiting; done = 0; bytes = []; sent = 0 }

abbrev pub is_queued : Protocol → Bool
is_queued Queued = true
is_queued _ = false

-- ## What is next

abbrev pub turn_of : Stage → Turn
turn_of Waiting = turn.Start
turn_of Load = turn.Load
turn_of SetUpRead = turn.SetUp
turn_of Announce = turn.Announce
turn_of Sending = turn.Data
turn_of SetUpWrite = turn.SetUp
turn_of Activate = turn.Activate
turn_of Store = turn.Store
turn_of Flush = turn.Flush
turn_of End = turn.End
turn_of Fail = turn.Fail
turn_of _ = turn.Nothing

-- whether it has told its host how it ended
abbrev pub is_ended : Stage → Bool
is_ended Ended = true
is_ended _ = false

-- whether it started and has not ended
abbrev pub runs : Stage → Bool
runs Waiting = false
runs Ended = false
runs _ = true

-- whether the caller is to store a part
abbrev pub is_storing : Stage → Bool
is_storing Storing = true
is_storing _ = false

-- whether its DMA Setup went and not all of its Data: a read that has sent a part, a write that has more to come
abbrev pub is_set_up : Moment → Stage → Bool
is_set_up m Announce = true
is_set_up m Sending = true
is_set_up m Activate = true
is_set_up m Receiving = true
is_set_up m Waiting = nat_lt 0 m.done
is_set_up m Load = nat_lt 0 m.done
is_set_up m Loading = nat_lt 0 m.done
is_set_up m Store = nat_lt (m.done + part_count m.command m.done) m.command.count
is_set_up m Storing = nat_lt (m.done + part_count m.command m.done) m.command.count
is_set_up m _ = false

-- whether the Data on the link are its own; a command that is not queued is alone
abbrev pub holds : Moment → Bool
holds m = is_queued m.command.protocol && is_set_up m m.stage

-- the first sector of the part that is under way
abbrev pub part_lba : Moment → ℕ
part_lba m = m.command.lba + m.done

-- the bytes of the next Data FIS
abbrev pub part_of : Moment → List ℕ
part_of m = take (chunk m.command (length m.bytes - m.sent)) (drop m.sent m.bytes)

-- ## When memory is taken

-- its start takes the memory of a write's first part
abbrev pub starts_write : Moment → Stage → Bool
starts_write m Waiting = m.command.write
starts_write m _ = false

-- Data that come are kept: they were asked for, and are no more than that
abbrev pub keeps_data : Moment → Stage → List ℕ → Bool
keeps_data m Receiving part = not (nat_lt (chunk m.command (part_len m.command m.done - length m.bytes)) (length part))
keeps_data m _ part = false

-- ## What was next was done

-- a read with its sectors goes on with this: each DRQ data block has a PIO Setup of its own
abbrev pub data_stage : Protocol → Stage
data_stage Pio = Announce
data_stage _ = Sending

-- where the first part's sectors came, a queued read has its DMA Setup first
abbrev pub first_data_stage : Protocol → ℕ → Stage
first_data_stage p done = if is_queued p && done == 0 then SetUpRead else data_stage p

-- the last PIO Setup of a read has the Status of its end, so no FIS follows its Data
abbrev pub read_end : Protocol → Stage
read_end Pio = Ended
read_end _ = End

abbrev pub started : Command → Stage
started c = if c.write then (if is_queued c.protocol then SetUpWrite else Activate) else Load

-- with auto-activate the DMA Setup of a queued write lets its first Data FIS come (Serial ATA 3.x, 10.5.9, bit A)
abbrev pub set_up_stage : Command → Stage
set_up_stage c = if c.auto_activate then Receiving else Activate

-- all of the part of a read is done
abbrev pub read_on : Moment → ℕ → Moment
read_on m done = record m {
  done = done;
  bytes = [];
  sent = 0;
  stage = if nat_lt done m.command.count then Load else read_end m.command.protocol;
}

abbrev pub sent_to : Moment → ℕ → Moment
sent_to m sent = if nat_lt sent (length m.bytes) then record m { sent = sent; stage = data_stage m.command.protocol }
    else read_on m (m.done + part_count m.command m.done)

abbrev pub gone : Moment → Stage → Moment
gone m Waiting = record m { stage = started m.command }
gone m Load = record m { stage = Loading }
gone m SetUpRead = record m { stage = Sending }
gone m Announce = record m { stage = Sending }
gone m Sending = sent_to m (m.sent + chunk m.command (length m.bytes - m.sent))
gone m SetUpWrite = record m { stage = set_up_stage m.command }
gone m Activate = record m { stage = Receiving }
gone m Store = record m { stage = Storing }
gone m Flush = record m { stage = Flushing }
gone m End = record m { stage = Ended }
gone m Fail = record m { stage = Ended }
gone m _ = m

-- ## What it is given

abbrev pub is_verify : Protocol → Bool
is_verify Verify = true
is_verify _ = false

-- the sectors that were asked for came: a verify wants no more of them
abbrev pub with_sectors : Moment → List ℕ → Moment
with_sectors m bytes = if is_verify m.command.protocol then read_on m (m.done + part_count m.command m.done)
    else record m { bytes = bytes; stage = first_data_stage m.command.protocol m.done }

abbrev pub after_loaded : Moment → Stage → List ℕ → Moment
after_loaded m Loading bytes = if length bytes == part_len m.command m.done then with_sectors m bytes else m
after_loaded m _ bytes = m

abbrev pub with_part : Moment → List ℕ → Moment
with_part m bytes =
    record m { bytes = bytes; stage = if nat_lt (length bytes) (part_len m.command m.done) then Activate else Store }

-- a host that sends more than was asked for has lost count, so the command fails
abbrev pub after_came : Moment → Stage → List ℕ → Moment
after_came m Receiving part =
    (if nat_lt (chunk m.command (part_len m.command m.done - length m.bytes)) (length part) then record m { stage = Fail }
    else with_part m (m.bytes ++ part))
after_came m _ part = m

-- all of the part of a write is stored
abbrev pub write_on : Moment → ℕ → Moment
write_on m done = record m {
  done = done;
  bytes = [];
  sent = 0;
  stage = if nat_lt done m.command.count then Activate else (if m.command.lasting then Flush else End);
}

abbrev pub after_stored : Moment → Stage → Moment
after_stored m Storing = write_on m (m.done + part_count m.command m.done)
after_stored m _ = m

abbrev pub after_flushed : Moment → Stage → Moment
after_flushed m Flushing = record m { stage = End }
after_flushed m _ = m

abbrev pub after_failed : Moment → Stage → Moment
after_failed m Loading = record m { stage = Fail }
after_failed m Storing = record m { stage = Fail }
after_failed m Flushing = record m { stage = Fail }
after_failed m _ = m

-- ## Why an answer is refused: it is none to what was asked

abbrev pub load_fault : Moment → Stage → List ℕ → Option AnswerError
load_fault m Loading bytes = if length bytes == part_len m.command m.done then None else Some OtherLength
load_fault m _ bytes = Some OtherKind

abbrev pub store_fault : Stage → Option AnswerError
store_fault Storing = None
store_fault _ = Some OtherKind

abbrev pub flush_fault : Stage → Option AnswerError
flush_fault Flushing = None
flush_fault _ = Some OtherKind

abbrev pub failure_fault : Stage → Option AnswerError
failure_fault Loading = None
failure_fault Storing = None
failure_fault Flushing = None
failure_fault _ = Some OtherKind

-- ## What every command keeps

-- sectors below 2^48 (ACS-3, 4.1), and DRQ data blocks of whole sectors, of at most one Data FIS
pub record IsCommand (c : Command) : Type 0 where
  pub some : 0 < c.count
  pub most : c.count ≤ 65536
  pub within : c.lba + c.count ≤ 2 ^ 48
  pub block : 512 ≤ c.block
  pub block_most : c.block ≤ 8192

pub record IsMoment (m : Moment) : Type 0 where
  pub command : IsCommand m.command
  pub done : m.done ≤ m.command.count
  pub bytes : length m.bytes ≤ part_len m.command m.done
  pub sent : m.sent ≤ length m.bytes
