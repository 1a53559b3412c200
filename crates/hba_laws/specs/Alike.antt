-- Isolation of bytes (AHCI 1.3.1, chapter 9, FIS-based Switching). The history of a device, and so what each
-- of its slots is filled with, follows from what belongs to it, its own events, and what memory brings to
-- these.
use Rattle.std.specs.{Prelude.{ℕ, ◌≡◌, ◌<◌, if◌then◌else◌, zero, suc, true, List, [], ◌∷◌, ◌++◌, map, drop, Option, Some, None, is_some}, List.AllZip}
use Rattle.fis_view.specs.Seen.{seen}
use Rattle.hba_commands.specs.declared.command.Command.{Command}
use Rattle.host_memory.specs.{Memory.Memory, declared.table.Prd.Prd}
use Rattle.slots.specs.{Data.payload, Slots.{holds, match_some, own_issue}}
use Rattle.hba_fbs.specs.{Tables.prds_of, Taking.{admitted, heard}}
use Rattle.hba_laws.specs.{Delivering.{begun_by, event_heard, history_after, is_control_issue}, History.{Event, History, filled, issued}, Hosts.Gave}
use Rattle.hba_laws.specs.{Hosts.{Host, HostEvent, Runs}, Isolation.{OwnEvent, Came, Issued, Went, Cleared, Emptied, Rewritten, RunsByDevices}}
use Rattle.hba_laws.specs.{Isolation.{next_own, own_events, part_after, skips}, Parts.{DevicePart, part_of}}
use Rattle.hba_laws.specs.History as event

-- ---- own events, with what memory brings to them

pub record Brought : Type 0 where
  pub event : OwnEvent
  -- by slot: the PRDs of the command issued there now
  pub tables : ℕ → List Prd
  -- the bytes of the frame that goes to the device
  pub bytes : List ℕ

abbrev pub tables_in : Memory → OwnEvent → ℕ → List Prd
tables_in memory (Issued commands) slot = match_some (commands slot) [] (prds_of memory)
tables_in memory event slot = []

abbrev pub bytes_out : HostEvent → List ℕ
bytes_out (Gave (Some frame)) = frame.bytes
bytes_out event = []

abbrev pub with_memory : Host → HostEvent → OwnEvent → Brought
with_memory host event own =
    record { event = own; tables = tables_in host.memory own; bytes = bytes_out event }

-- the same event, with the same bytes, and with the same PRDs at each slot of a port
pub record IsBroughtAlike (one other : Brought) : Type 0 where
  pub event : one.event ≡ other.event
  pub tables : (slot : ℕ) → slot < 32 → one.tables slot ≡ other.tables slot
  pub bytes : one.bytes ≡ other.bytes

-- the own events of a device in an event
abbrev pub brought : ℕ → Host → HostEvent → List Brought
brought n host event = map (with_memory host event) (own_events n host event)

-- and over a run, the first event first
abbrev pub brought_over : ℕ → (old new : Host) (events : List HostEvent) → Runs old events new → List Brought
brought_over n old new [] run = []
brought_over n old new (event ∷ events) run = brought n old event ++ brought_over n run.0 new events run.2

-- ---- what follows from them

-- a frame of the device is what its own view hears, with a PRD table that can be used
abbrev pub told_came : ℕ → DevicePart → List ℕ → Option Event
told_came n part frame =
    if skips n part (seen frame) then None
    else event_heard (heard n part.view true (admitted n (seen frame))) (drop 4 frame)

abbrev pub told_issue : ℕ → List Prd → Option Command → History
told_issue slot table None = []
told_issue slot table (Some command) = event.Issued slot (record { work = command.work; table = table }) ∷ []

-- commands are issued in slots below a number, the lowest first; so the highest comes first here
unfoldable pub told_issued : (ℕ → Option Command) → (ℕ → List Prd) → ℕ → History
told_issued commands tables zero = []
told_issued commands tables (suc slot) =
    told_issue slot (tables slot) (commands slot) ++ told_issued commands tables slot

-- the command of a slot goes to the device
abbrev pub told_order : DevicePart → ℕ → Event
told_order part slot =
    if holds is_control_issue (own_issue part.view.slots slot) then event.SentControl slot
    else event.Sent slot

-- what goes out: the payload of the data that the device asked for, or else the command of the slot that can
-- go
abbrev pub told_going : DevicePart → List ℕ → History
told_going part bytes =
    if is_some (payload part.view.slots.context) then event.Carried (drop 4 bytes) ∷ []
    else match_some (next_own part.view) []
    (λ slot. begun_by slot (own_issue part.view.slots slot) ++ told_order part slot ∷ [])

abbrev pub told_own : ℕ → DevicePart → OwnEvent → (ℕ → List Prd) → List ℕ → History
told_own n part (Came frame) tables bytes = match_some (told_came n part frame) [] (λ e. e ∷ [])
told_own n part (Issued commands) tables bytes = told_issued commands tables 32
told_own n part Went tables bytes = told_going part bytes
told_own n part Cleared tables bytes = event.Emptied ∷ []
told_own n part Emptied tables bytes = event.Emptied ∷ []
told_own n part (Rewritten row) tables bytes = []

-- The history of a device after a list of its own events, the first event first. It sees no register, no
-- other device, and of memory only what was brought.
abbrev pub history_by : ℕ → DevicePart → History → List Brought → History
history_by n part past [] = past
history_by n part past (b ∷ later) =
    history_by n (part_after n part b.event) (told_own n part b.event b.tables b.bytes ++ past) later

-- ---- isolation of bytes

abbrev pub HistoriesByOwn : Type 0
HistoriesByOwn =
    (n : ℕ) → n < 16
    → (old new : Host) (events : List HostEvent) (run : RunsByDevices old events new) (past : History)
    → history_after n past old new events run.run
    ≡ history_by n (part_of n old) past (brought_over n old new events run.run)

-- each slot has the same issue, and each of its bytes is filled with the same value, or not filled
pub record AreFilledAlike (history other : History) : Type 0 where
  pub histories : history ≡ other
  pub issues : (s : ℕ) → issued s history ≡ issued s other
  pub bytes : (s i : ℕ) → filled s history i ≡ filled s other i

-- So what other devices send, and what is issued for them, changes no byte of this device's slots. Two runs
-- with the same own events, to which memory brought the same, fill its slots alike.
abbrev pub OwnFillAlike : Type 0
OwnFillAlike =
    (n : ℕ) → n < 16
    → (old new : Host) (events : List HostEvent) (run : RunsByDevices old events new)
    → (old2 new2 : Host) (events2 : List HostEvent) (run2 : RunsByDevices old2 events2 new2) (past : History)
    → part_of n old ≡ part_of n old2
    → AllZip IsBroughtAlike (brought_over n old new events run.run) (brought_over n old2 new2 events2 run2.run)
    → AreFilledAlike (history_after n past old new events run.run)
    (history_after n past old2 new2 events2 run2.run)
