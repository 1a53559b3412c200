-- A host port, its device's history and the ledger of the FISes at its end of the link, joined: all three
-- still agree after each FIS that the port hears or gives (AHCI 1.3.1, 5.3, how a port receives and transmits
-- FISes; Serial ATA 3.x, 13.6, native command queuing).
use Rattle.std.specs.Prelude.{ℕ, ◌≡◌, ◌≢◌, ◌<◌, ◌≤◌, ◌++◌, true, List, [], ◌∷◌, false, length, Option, Some, None, Result, Ok, is_some}
use Rattle.fis_view.specs.{Frames.{IsFrame, Stamped, marked}, Table.{Setup, field}, Seen.seen, declared.{view.Fis.Fis, view.FisFault.FisFault}}
use Rattle.fis_view.specs.Table as table
use Rattle.fis_view.specs.declared.view.Fis.TheVariants as view
use Rattle.hba_commands.specs.declared.command.Command as issued_command
use Rattle.slots.specs.{Slots.{DeviceSlots, Issue, has_bit, is_control, own_issue}, Work.{is_dma, is_queued}, declared.table.Context.Context}
use Rattle.hba_fbs.specs.{declared.{register.Register.TheVariants.Ci, report.TakeReport.TakeReport}, Issuing.{aimed, asked}}
use Rattle.hba_fbs.specs.{Sending.{Data, Order, gathered, outgoing}, Tables.prds_of, Taking.port_of, Views.view_of}
use Rattle.disk_model.specs.{declared.{request.Request.TheVariants.Queue, plan.DiskPlan.DiskPlan}, Ends.{Fits, IsCareful, IsLinked, IsRight}}
use Rattle.disk_model.specs.{Histories.{Happening, Received, Sent}, Ledger.{IsSize, Ledger, Moving, Signs, ledger, listens}, Requests.request_of}
use Rattle.disk_model.specs.Runs.{IsDiskRun}
use Rattle.hba_laws.specs.{Agreement.IsHistoryOf, Client.own, Delivering.touched, History.{History, Transfer, filled, issued}}
use Rattle.hba_laws.specs.{Hosts.{Does, Gave, Host, Wrote}, Sound.IsHost}
use Rattle.hba_laws.specs.History as event
use Rattle.disk_simulation.specs.{Answers.IsAlone, Heard.IsTakenWell, Honest.IsDoneHonestly, Together.{NoneQueued, Same, is_sent, told}}
use Rattle.disk_simulation.specs.Same.{SlotCommand}

-- the port has a command as sent where the history says so
abbrev pub SentAgrees : DeviceSlots → History → Type 0
SentAgrees own past = (s : ℕ) (i : Issue) → own_issue own s ≡ Some i → is_sent s past ≡ i.sent

-- where the device asked for data of a context, that context is for the write whose data moves, and the
-- ledger says that this data is asked for
pub record IsAskedBy (c : Context) (k : Ledger) : Type 0 where
  pub current : Moving
  pub moving : k.moving ≡ Some current
  pub tag : current.command.tag ≡ c.slot
  pub writes : current.command.write ≡ true
  pub asked : current.active ≡ true
  pub left : c.left ≡ current.count

-- a DMA Setup names no more bytes than a Data FIS holds
abbrev pub IsShort : Result Fis FisFault → Type 0
IsShort (Ok (view.DmaSetup f)) = field Setup table.Count f ≤ 8192
IsShort _ = Unit {0}

-- nor did the last one of the command whose data moves
abbrev pub AreShort : Ledger → Type 0
AreShort k = (v : Moving) → k.moving ≡ Some v → v.count ≤ 8192

-- the view of device n, its history and the ledger agree
pub record IsJoined (n : ℕ) (commands : ℕ
    → SlotCommand) (host : Host) (past : History) (k : Ledger) : Type 0 where
  pub history : IsHistoryOf n host past
  pub same : Same commands past k
  pub sent : SentAgrees (view_of n host.port).slots past
  pub short : AreShort k
  pub active : (c : Context) → (view_of n host.port).slots.context ≡ Some c → c.activated ≡ true
      → IsAskedBy c k

-- a FIS of the device is received
abbrev pub JoinsFrames : Type 0
JoinsFrames =
    (host new : Host) (frame : List ℕ) (report : TakeReport) (commands : ℕ
    → SlotCommand) (past : History) (k : Ledger)
    → IsHost host → IsFrame frame → port_of frame < 15 → IsTakenWell host frame report new
    → IsRight k (seen frame)
    → IsShort (seen frame) → IsJoined (port_of frame) commands host past k
    → IsJoined (port_of frame) commands new (told (seen frame) ++ past) (listens k (Sent frame))

-- what is transmitted fits the ledger, and joins it
pub record JoinsGiven (n : ℕ) (commands : ℕ
    → SlotCommand) (bytes : List ℕ) (e : event.Event) (past : History) (k : Ledger)
    (new : Host) : Type 0 where
  pub fits : Fits k (seen bytes)
  pub joined : IsJoined n commands new (e ∷ past) (listens k (Received bytes))

-- the queued command of a slot is transmitted, once the device has signed
abbrev pub JoinsCommands : Type 0
JoinsCommands =
    (n slot : ℕ) (host new : Host) (frame : Stamped) (command : issued_command.Command) (f : List ℕ)
    (t : Transfer)
    (commands : ℕ → SlotCommand) (past : History) (k : Ledger)
    → IsHost host → n < 15 → Does host (Gave (Some frame)) new
    → outgoing host.port host.memory ≡ Order n slot command
    → issued slot past ≡ Some t → is_queued t.work.kind ≡ true
    → seen command.cfis ≡ Ok (view.RegH2D f) → request_of f ≡ Queue (commands slot).command
    → k.awaited ≢ Signs ∷ []
    → IsJoined n commands host past k
    → JoinsGiven n commands frame.bytes (event.Sent slot) past k new

-- another command is transmitted that has no data, or a setup for it, while no queued one is issued, once the
-- device has signed
abbrev pub JoinsOthers : Type 0
JoinsOthers =
    (n slot : ℕ) (host new : Host) (frame : Stamped) (command : issued_command.Command) (f : List ℕ)
    (t : Transfer)
    (commands : ℕ → SlotCommand) (past : History) (k : Ledger)
    → IsHost host → n < 15 → Does host (Gave (Some frame)) new
    → outgoing host.port host.memory ≡ Order n slot command
    → issued slot past ≡ Some t → is_queued t.work.kind ≡ false → is_control t.work.kind ≡ false
    → is_dma t.work.kind ≡ false
    → seen command.cfis ≡ Ok (view.RegH2D f) → IsAlone (request_of f)
    → ((s : ℕ) → NoneQueued (issued s past)) → k.awaited ≢ Signs ∷ []
    → IsJoined n commands host past k
    → JoinsGiven n commands frame.bytes (event.Sent slot) past k new

-- data of a write is transmitted, all that its DMA Setup names
abbrev pub JoinsData : Type 0
JoinsData =
    (n offset len : ℕ) (host new : Host) (frame : Stamped) (command : issued_command.Command)
    (commands : ℕ → SlotCommand) (past : History) (k : Ledger)
    → IsHost host → n < 15 → Does host (Gave (Some frame)) new
    → outgoing host.port host.memory ≡ Data n offset len command
    → IsJoined n commands host past k
    → JoinsGiven n commands frame.bytes
    (event.Carried
    (gathered (prds_of host.memory command) offset len host.memory.client)) past k new

-- the issued commands are counted by no more writes than have ended by now
abbrev pub AreCounted : (ℕ → Option issued_command.Command) → (ℕ → SlotCommand) → Ledger → Type 0
AreCounted asks next k = (s : ℕ) → is_some (asks s) ≡ true → (next s).since ≤ length k.writes

-- Commands are issued for device n, each in its slot. The map names their commands; what it named for other
-- slots stays.
abbrev pub JoinsIssues : Type 0
JoinsIssues =
    (n value : ℕ) (host new : Host) (commands next : ℕ → SlotCommand) (past : History) (k : Ledger)
    → IsHost host → n < 15 → aimed host.port.registers host.memory.structure value ≡ n
    → Does host (Wrote Ci value) new
    → ((s : ℕ) → (next s).command.tag ≡ s)
    → ((s : ℕ) → asked host.port.registers host.memory value s ≡ None → next s ≡ commands s)
    → AreCounted (asked host.port.registers host.memory value) next k
    → IsJoined n commands host past k
    → IsJoined n next new (own n (touched host (Wrote Ci value)) ++ past) k

-- something happens at the port that leaves the view of device n and is none of its events
abbrev pub StaysJoined : Type 0
StaysJoined =
    (n : ℕ) (host new : Host) (commands : ℕ → SlotCommand) (past : History) (k : Ledger)
    → view_of n new.port ≡ view_of n host.port → IsJoined n commands host past k
    → IsJoined n commands new past k

-- A queued command was done honestly if a report says it is done, at a FIS that came next from the disk and
-- was marked with its port.
abbrev pub ReportsHonestly : Type 0
ReportsHonestly =
    (plan : DiskPlan) (sectors : ℕ) (disk given : List Happening) (down up : List (List ℕ))
    (bytes : List ℕ)
    → IsSize plan sectors → IsDiskRun plan sectors disk → IsLinked disk given down (bytes ∷ up)
    → IsCareful given
    → (n : ℕ) (host new : Host) (report : TakeReport) (commands : ℕ → SlotCommand) (past : History)
    → IsHost host → n < 15 → IsFrame bytes → IsFrame (marked bytes n) → port_of (marked bytes n) ≡ n
    → IsTakenWell host (marked bytes n) report new → IsJoined n commands host past (ledger given)
    → (s : ℕ) (t : Transfer) → s < 32 → issued s past ≡ Some t → is_queued t.work.kind ≡ true
    → has_bit report.done s ≡ true
    → IsDoneHonestly sectors (commands s) (filled s past) t.work.len (ledger disk) (ledger given)
