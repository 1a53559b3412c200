-- What a host did with a disk since its plugging, event by event, while its port refused nothing and emptied
-- no slot (AHCI 1.3.1, 5.3; Serial ATA 3.x, 13.6, native command queuing). Its port, the device's history and
-- the ledger agree all the time, and each FIS that it gave fits what was told before.
use Rattle.std.specs.Prelude.{ℕ, ◌≡◌, ◌≢◌, ◌<◌, ◌++◌, true, false, List, [], ◌∷◌, Some, None, Ok}
use Rattle.fis_view.specs.{Frames.{IsFrame, Stamped, marked}, Seen.seen}
use Rattle.fis_view.specs.declared.view.Fis.TheVariants as view
use Rattle.hba_commands.specs.declared.command.Command as issued_command
use Rattle.slots.specs.{Slots.{is_control, own_issue}, Work.{is_dma, is_queued}}
use Rattle.hba_fbs.specs.{declared.{register.Register.TheVariants.Ci, report.TakeReport.TakeReport}, Issuing.{aimed, asked}}
use Rattle.hba_fbs.specs.{Sending.{Data, Order, gathered, outgoing}, Tables.prds_of, Taking.port_of, Views.view_of}
use Rattle.disk_model.specs.{declared.{request.Request.TheVariants.Queue, plan.DiskPlan.DiskPlan}, Ends.{IsCareful, IsLinked, IsRight}}
use Rattle.disk_model.specs.{Histories.{Happening, Plugged, Received, Sent}, Ledger.{IsSize, Signs, ledger}, Requests.request_of, Runs.IsDiskRun}
use Rattle.hba_laws.specs.{Agreement.IsHistoryOf, Client.own, Delivering.touched, History.{History, Transfer, issued}}
use Rattle.hba_laws.specs.{Hosts.{Does, Gave, Host, Wrote}, Sound.IsHost}
use Rattle.hba_laws.specs.History as event
use Rattle.disk_simulation.specs.{Answers.IsAlone, Heard.IsTakenWell, Joined.{AreCounted, IsJoined, IsShort}, Together.{NoneQueued, told}}
use Rattle.disk_simulation.specs.Same.{SlotCommand}

-- What passes between a host and a device has PM Port 0 at the device's end of the link, and the device's
-- port at the host's end. The port hears n, with these happenings (as the device sees them) at its end of the
-- link, these commands of its slots and this history of its events.
pub data IsHosted (n : ℕ) : Host → List Happening → (ℕ → SlotCommand) → History → Type 0 where
  -- the disk is plugged in while nothing of it is issued
  plugged : (host : Host) (commands : ℕ → SlotCommand) (past : History) → IsHistoryOf n host past
      → ((s : ℕ) → own_issue (view_of n host.port).slots s ≡ None)
      → ((s : ℕ) → (commands s).command.tag ≡ s)
      → IsHosted n host (Plugged ∷ []) commands past
  -- something happens at the port that leaves the view of n, and is no event of it
  stays : (host new : Host) (given : List Happening) (commands : ℕ → SlotCommand) (past : History)
      → view_of n new.port ≡ view_of n host.port → IsHosted n host given commands past
      → IsHosted n new given commands past
  -- a FIS marked with its port is received that is right by what was told before, and the port finds no fault
  -- in it
  hears : (host new : Host) (bytes : List ℕ) (report : TakeReport) (given : List Happening)
      (commands : ℕ → SlotCommand)
      (past : History) → IsHost host → IsFrame bytes → IsFrame (marked bytes n)
      → port_of (marked bytes n) ≡ n
      → IsTakenWell host (marked bytes n) report new → IsRight (ledger given) (seen bytes)
      → IsShort (seen bytes)
      → IsHosted n host given commands past
      → IsHosted n new (given ++ Sent bytes ∷ []) commands (told (seen (marked bytes n)) ++ past)
  -- commands are issued in its slots
  issues : (host new : Host) (value : ℕ) (given : List Happening) (commands next : ℕ
      → SlotCommand) (past : History)
      → IsHost host → aimed host.port.registers host.memory.structure value ≡ n
      → Does host (Wrote Ci value) new
      → ((s : ℕ) → (next s).command.tag ≡ s)
      → ((s : ℕ) → asked host.port.registers host.memory value s ≡ None → next s ≡ commands s)
      → AreCounted (asked host.port.registers host.memory value) next (ledger given)
      → IsHosted n host given commands past
      → IsHosted n new given next (own n (touched host (Wrote Ci value)) ++ past)
  -- the queued command of a slot is transmitted, once the device has signed
  sends : (host new : Host) (frame : Stamped) (slot : ℕ) (command : issued_command.Command)
      (f : List ℕ) (t : Transfer)
      (given : List Happening) (commands : ℕ → SlotCommand) (past : History) → IsHost host
      → IsFrame frame.bytes
      → Does host (Gave (Some frame)) new
      → outgoing host.port host.memory ≡ Order n slot command → issued slot past ≡ Some t
      → is_queued t.work.kind ≡ true
      → seen command.cfis ≡ Ok (view.RegH2D f) → request_of f ≡ Queue (commands slot).command
      → (ledger given).awaited ≢ Signs ∷ [] → IsHosted n host given commands past
      → IsHosted n new (given ++ Received (marked frame.bytes 0) ∷ []) commands
      (event.Sent slot ∷ past)
  -- another command is transmitted that has no data, or a setup for it, while no queued one is issued
  asks : (host new : Host) (frame : Stamped) (slot : ℕ) (command : issued_command.Command)
      (f : List ℕ) (t : Transfer)
      (given : List Happening) (commands : ℕ → SlotCommand) (past : History) → IsHost host
      → IsFrame frame.bytes
      → Does host (Gave (Some frame)) new
      → outgoing host.port host.memory ≡ Order n slot command → issued slot past ≡ Some t
      → is_queued t.work.kind ≡ false
      → is_control t.work.kind ≡ false → is_dma t.work.kind ≡ false
      → seen command.cfis ≡ Ok (view.RegH2D f)
      → IsAlone (request_of f)
      → ((s : ℕ) → NoneQueued (issued s past)) → (ledger given).awaited ≢ Signs ∷ []
      → IsHosted n host given commands past
      → IsHosted n new (given ++ Received (marked frame.bytes 0) ∷ []) commands
      (event.Sent slot ∷ past)
  -- Data is transmitted
  gives : (host new : Host) (frame : Stamped) (offset len : ℕ) (command : issued_command.Command)
      (given : List Happening)
      (commands : ℕ → SlotCommand) (past : History) → IsHost host → IsFrame frame.bytes
      → Does host (Gave (Some frame)) new
      → outgoing host.port host.memory ≡ Data n offset len command
      → IsHosted n host given commands past
      → IsHosted n new (given ++ Received (marked frame.bytes 0) ∷ []) commands
      (event.Carried (gathered (prds_of host.memory command) offset len host.memory.client) ∷ past)

-- the host is careful and joined with the disk's ledger
pub record IsKept (n : ℕ) (host : Host) (given : List Happening) (commands : ℕ
    → SlotCommand) (past : History) : Type 0 where
  pub careful : IsCareful given
  pub joined : IsJoined n commands host past (ledger given)

-- this holds whatever happens in this way
abbrev pub HostedIsKept : Type 0
HostedIsKept =
    (n : ℕ) (host : Host) (given : List Happening) (commands : ℕ → SlotCommand) (past : History)
    → n < 15
    → IsHosted n host given commands past → IsKept n host given commands past

-- And each DMA Setup that it receives next from a disk names no more bytes than a Data FIS holds.
abbrev pub NextIsShort : Type 0
NextIsShort =
    (plan : DiskPlan) (sectors : ℕ) (disk given : List Happening) (down up : List (List ℕ))
    (bytes : List ℕ)
    → IsSize plan sectors → IsDiskRun plan sectors disk → IsLinked disk given down (bytes ∷ up)
    → IsShort (seen bytes)
