-- A host and its disk from where both began anew: after the disk was plugged in, the first time or again,
-- after a software reset, or with the log after an error (AHCI 1.3.1, 5.3 and 6.2.2, error recovery; Serial
-- ATA 3.x, 13.6, native command queuing). What was queued before was given up, whatever was in transit then.
-- From there on the port, the history and the ledger agree again, as they did since the disk was new.
use Rattle.std.specs.Prelude.{ℕ, ◌≡◌, ◌≢◌, ◌<◌, ◌⊎◌, ◌++◌, true, false, List, [], ◌∷◌, Option, Some, None, Ok}
use Rattle.fis_view.specs.{Frames.{IsFrame, Stamped, marked}, Seen.seen}
use Rattle.fis_view.specs.declared.view.Fis.TheVariants as view
use Rattle.hba_commands.specs.declared.command.Command as issued_command
use Rattle.slots.specs.{Slots.{Issue, has_bit, is_control, own_issue}, Work.{is_dma, is_queued}}
use Rattle.hba_fbs.specs.{declared.{register.Register.TheVariants.Ci, report.TakeReport.TakeReport}, Issuing.{aimed, asked}}
use Rattle.hba_fbs.specs.{Sending.{Data, Order, gathered, outgoing}, Tables.prds_of, Taking.port_of, Views.view_of}
use Rattle.disk_model.specs.declared.{request.Request.TheVariants.Queue, plan.DiskPlan.DiskPlan}
use Rattle.disk_model.specs.{Anew.{IsCarefulSince, IsClear, IsLinkedOn, OwesOnly}, Ends.IsRight, Histories.{Happening, Plugged, Received, Sent}}
use Rattle.disk_model.specs.{Ledger.{IsSize, Ledger, ShowsPage, Signs, Wanted, ledger}, Requests.request_of, Runs.IsDiskRun}
use Rattle.hba_laws.specs.{Agreement.IsHistoryOf, Client.own, Delivering.touched, History.{History, Transfer, filled, issued}}
use Rattle.hba_laws.specs.{Hosts.{Does, Gave, Host, TakesFrame, Took, Wrote}, Sound.IsHost}
use Rattle.hba_laws.specs.History as event
use Rattle.disk_simulation.specs.{Answers.IsAlone, Heard.IsTakenWell, Honest.IsDoneHonestly, Hosted.IsHosted}
use Rattle.disk_simulation.specs.Joined.{AreCounted, IsJoined, IsShort, SentAgrees}
use Rattle.disk_simulation.specs.{Together.{InTalk, IsWaitedUnset, NoneQueued, NothingWaits, Same, is_sent, told}, Same.SlotCommand}

-- ---- where they begin

-- A command that is issued was transmitted, and is not a queued one.
pub record IsAwaited (i : Issue) : Type 0 where
  pub kind : is_queued i.work.kind ≡ false
  pub sent : i.sent ≡ true

-- At the port, device n has nothing issued but a command whose answer is still to come. Nothing else is to
-- come, except the signature.
pub record IsOpening (n : ℕ) (host : Host) (commands : ℕ → SlotCommand) (past : History) (k : Ledger)
    : Type 0 where
  pub history : IsHistoryOf n host past
  pub tags : (s : ℕ) → (commands s).command.tag ≡ s
  pub alone : (s : ℕ) (i : Issue) → own_issue (view_of n host.port).slots s ≡ Some i → IsAwaited i
  pub sent : SentAgrees (view_of n host.port).slots past
  pub unset : (view_of n host.port).slots.context ≡ None
  pub clear : IsClear k
  pub talk : InTalk past k
  -- while the signature is to come, no command waits for its answer
  pub calm : k.awaited ≡ Signs ∷ [] → NothingWaits past

-- the slots of a device stay, and whether it has a block
pub record KeepsSlots (n : ℕ) (old new : Host) : Type 0 where
  pub slots : (view_of n new.port).slots ≡ (view_of n old.port).slots
  pub block : (view_of n new.port).state.block ≡ (view_of n old.port).state.block

-- the port hears a frame of a device that is in software reset
pub record IsSignedWell (host : Host) (frame : List ℕ) (report : TakeReport)
    (new : Host) : Type 0 where
  pub takes : TakesFrame host frame report new
  pub resetting : (view_of (port_of frame) host.port).state.resetting ≡ true
  pub heard : report.ignored ≡ false

-- What a host did with a disk since both began anew with the first list, event by event, while its port
-- refused nothing and emptied no slot.
pub data IsHostedOn (n : ℕ) (base : List Happening) : Host → List Happening → (ℕ → SlotCommand)
    → History → Type 0 where
  -- both begin
  opens : (host : Host) (commands : ℕ → SlotCommand) (past : History)
      → IsOpening n host commands past (ledger base) → IsHostedOn n base host base commands past
  -- Something happens at the port that leaves the slots of n and its block, and is no event of n: an event of
  -- another device or an ignored frame of n, which leave its whole view, or a signature from before both
  -- began, while nothing was told since.
  stays : (host new : Host) (given : List Happening) (commands : ℕ → SlotCommand) (past : History)
      → KeepsSlots n host new → (given ≡ base) ⊎ (view_of n new.port ≡ view_of n host.port)
      → IsHostedOn n base host given commands past
      → IsHostedOn n base new given commands past
  -- the signature that ends the software reset is received: it is no event of the device's history
  signs : (host new : Host) (bytes : List ℕ) (report : TakeReport) (given : List Happening)
      (commands : ℕ → SlotCommand) (past : History) → IsHost host → IsFrame bytes
      → IsFrame (marked bytes n)
      → port_of (marked bytes n) ≡ n → IsSignedWell host (marked bytes n) report new
      → IsRight (ledger given) (seen bytes) → IsHostedOn n base host given commands past
      → IsHostedOn n base new (given ++ Sent bytes ∷ []) commands past
  -- a FIS is received that is right by what was told before, and the port finds no fault in it
  hears : (host new : Host) (bytes : List ℕ) (report : TakeReport) (given : List Happening)
      (commands : ℕ → SlotCommand) (past : History) → IsHost host → IsFrame bytes
      → IsFrame (marked bytes n)
      → port_of (marked bytes n) ≡ n → IsTakenWell host (marked bytes n) report new
      → IsRight (ledger given) (seen bytes) → IsShort (seen bytes)
      → IsHostedOn n base host given commands past
      → IsHostedOn n base new (given ++ Sent bytes ∷ []) commands
      (told (seen (marked bytes n)) ++ past)
  -- commands are issued in its slots
  issues : (host new : Host) (value : ℕ) (given : List Happening) (commands next : ℕ
      → SlotCommand) (past : History)
      → IsHost host → aimed host.port.registers host.memory.structure value ≡ n
      → Does host (Wrote Ci value) new
      → ((s : ℕ) → (next s).command.tag ≡ s)
      → ((s : ℕ) → asked host.port.registers host.memory value s ≡ None → next s ≡ commands s)
      → AreCounted (asked host.port.registers host.memory value) next (ledger given)
      → IsHostedOn n base host given commands past
      → IsHostedOn n base new given next (own n (touched host (Wrote Ci value)) ++ past)
  -- the queued command of a slot is transmitted, once the device has signed
  sends : (host new : Host) (frame : Stamped) (slot : ℕ) (command : issued_command.Command)
      (f : List ℕ) (t : Transfer)
      (given : List Happening) (commands : ℕ → SlotCommand) (past : History) → IsHost host
      → IsFrame frame.bytes
      → Does host (Gave (Some frame)) new
      → outgoing host.port host.memory ≡ Order n slot command → issued slot past ≡ Some t
      → is_queued t.work.kind ≡ true
      → seen command.cfis ≡ Ok (view.RegH2D f) → request_of f ≡ Queue (commands slot).command
      → (ledger given).awaited ≢ Signs ∷ [] → IsHostedOn n base host given commands past
      → IsHostedOn n base new (given ++ Received (marked frame.bytes 0) ∷ []) commands
      (event.Sent slot ∷ past)
  -- another command is transmitted that has no data, or a setup for it, while no queued one is issued
  asks : (host new : Host) (frame : Stamped) (slot : ℕ) (command : issued_command.Command)
      (f : List ℕ) (t : Transfer)
      (given : List Happening) (commands : ℕ → SlotCommand) (past : History) → IsHost host
      → IsFrame frame.bytes
      → Does host (Gave (Some frame)) new
      → outgoing host.port host.memory ≡ Order n slot command → issued slot past ≡ Some t
      → is_queued t.work.kind ≡ false
      → is_control t.work.kind ≡ false → is_dma t.work.kind ≡ false
      → seen command.cfis ≡ Ok (view.RegH2D f)
      → IsAlone (request_of f)
      → ((s : ℕ) → NoneQueued (issued s past)) → (ledger given).awaited ≢ Signs ∷ []
      → IsHostedOn n base host given commands past
      → IsHostedOn n base new (given ++ Received (marked frame.bytes 0) ∷ []) commands
      (event.Sent slot ∷ past)
  -- Data is transmitted
  gives : (host new : Host) (frame : Stamped) (offset len : ℕ) (command : issued_command.Command)
      (given : List Happening)
      (commands : ℕ → SlotCommand) (past : History) → IsHost host → IsFrame frame.bytes
      → Does host (Gave (Some frame)) new
      → outgoing host.port host.memory ≡ Data n offset len command
      → IsHostedOn n base host given commands past
      → IsHostedOn n base new (given ++ Received (marked frame.bytes 0) ∷ []) commands
      (event.Carried (gathered (prds_of host.memory command) offset len host.memory.client) ∷ past)

-- Port and disk can begin in two cases. After a plugging or a reset: nothing of the device is issued, and it
-- owes only its signature. After an error: it owes only a page, for the one command that is issued.
pub record OpensAfter : Type 0 where
  pub signing : (n : ℕ) (host : Host) (commands : ℕ → SlotCommand) (past : History) (k : Ledger)
      → IsHistoryOf n host past → ((s : ℕ) → own_issue (view_of n host.port).slots s ≡ None)
      → ((s : ℕ) → (commands s).command.tag ≡ s) → OwesOnly k (Signs ∷ []) []
      → IsOpening n host commands past k
  pub paging : (n : ℕ) (host : Host) (commands : ℕ → SlotCommand) (past : History) (k : Ledger)
      (page : Wanted) → IsHistoryOf n host past
      → ((s : ℕ) (i : Issue) → own_issue (view_of n host.port).slots s ≡ Some i → IsAwaited i)
      → SentAgrees (view_of n host.port).slots past
      → (view_of n host.port).slots.context ≡ None → IsWaitedUnset past
      → ((s : ℕ) → (commands s).command.tag ≡ s) → OwesOnly k (ShowsPage ∷ []) (page ∷ [])
      → IsOpening n host commands past k

-- ---- what holds then

-- both views say the same of each slot where they begin
abbrev pub OpensTheSame : Type 0
OpensTheSame =
    (commands : ℕ → SlotCommand) (past : History) (k : Ledger) → ((s : ℕ) → (commands s).command.tag ≡ s)
    → ((s : ℕ) → NoneQueued (issued s past)) → IsClear k → InTalk past k
    → ((s : ℕ) (t : Transfer) → issued s past ≡ Some t → is_sent s past ≡ true)
    → Same commands past k

-- since then the host is careful and joined with the disk's ledger
pub record IsKeptOn (n : ℕ) (base : List Happening) (host : Host) (given : List Happening)
    (commands : ℕ → SlotCommand) (past : History) : Type 0 where
  pub careful : IsCarefulSince base given
  pub joined : IsJoined n commands host past (ledger given)

abbrev pub HostedOnIsKept : Type 0
HostedOnIsKept =
    (n : ℕ) (base : List Happening) (host : Host) (given : List Happening)
    (commands : ℕ → SlotCommand) (past : History) → n < 15
    → IsHostedOn n base host given commands past → IsKeptOn n base host given commands past

-- a host of a disk that was plugged in while nothing of it was issued began with that plugging
abbrev pub HostedSinceNew : Type 0
HostedSinceNew =
    (n : ℕ) (host : Host) (given : List Happening) (commands : ℕ → SlotCommand) (past : History)
    → IsHosted n host given commands past
    → IsHostedOn n (Plugged ∷ []) host given commands past

-- the signature that ends a software reset is no event of the device's history, and leaves its slots
-- unchanged
pub record IsNoEvent (host : Host) (frame : List ℕ) (report : TakeReport) (new : Host)
    : Type 0 where
  pub none : own (port_of frame) (touched host (Took frame report)) ≡ []
  pub keeps : KeepsSlots (port_of frame) host new

abbrev pub SignatureIsNone : Type 0
SignatureIsNone =
    (host new : Host) (frame : List ℕ) (report : TakeReport) → IsSignedWell host frame report new
    → IsNoEvent host frame report new

-- ---- what the disk sends then

-- What the host receives next is right by what it heard and gave, and a DMA Setup names no more bytes than a
-- Data FIS holds.
pub record IsNextRight (given : List Happening) (bytes : List ℕ) : Type 0 where
  pub right : IsRight (ledger given) (seen bytes)
  pub short : IsShort (seen bytes)

abbrev pub NextIsRightAnew : Type 0
NextIsRightAnew =
    (plan : DiskPlan) (sectors : ℕ) (base disk given : List Happening)
    (down up : List (List ℕ)) (bytes : List ℕ)
    → IsSize plan sectors → IsDiskRun plan sectors disk
    → IsLinkedOn base disk given down [] (bytes ∷ up) → IsCarefulSince base given
    → IsNextRight given bytes

-- What a report says is done was done honestly, at each FIS that is received next from the disk, even if the
-- port reports a fault of it.
abbrev pub ReportsHonestlyAnew : Type 0
ReportsHonestlyAnew =
    (plan : DiskPlan) (sectors : ℕ) (base disk given : List Happening)
    (down up : List (List ℕ)) (bytes : List ℕ)
    → IsSize plan sectors → IsDiskRun plan sectors disk
    → IsLinkedOn base disk given down [] (bytes ∷ up) → IsCarefulSince base given
    → (n : ℕ) (host new : Host) (report : TakeReport) (commands : ℕ → SlotCommand) (past : History)
    → IsHost host → n < 15 → IsFrame bytes → IsFrame (marked bytes n) → port_of (marked bytes n) ≡ n
    → TakesFrame host (marked bytes n) report new → IsJoined n commands host past (ledger given)
    → (s : ℕ) (t : Transfer) → s < 32 → issued s past ≡ Some t → is_queued t.work.kind ≡ true
    → has_bit report.done s ≡ true
    → IsDoneHonestly sectors (commands s) (filled s past) t.work.len (ledger disk) (ledger given)

-- What was done honestly stays so, whatever the disk does later, including errors.
abbrev pub HonestStays : Type 0
HonestStays =
    (sectors len : ℕ) (c : SlotCommand) (bytes : ℕ → Option ℕ) (disk more : List Happening) (k : Ledger)
    → IsDoneHonestly sectors c bytes len (ledger disk) k
    → IsDoneHonestly sectors c bytes len (ledger (disk ++ more)) k
