-- Honest disks, over whole runs of a world: what a read that is done brought, and what a write that
-- is done left on the medium. This holds since the disk was plugged in, for the first time or again
-- (ACS-3, READ FPDMA QUEUED and WRITE FPDMA QUEUED; Serial ATA 3.x, 13.6, native command queuing, and
-- 16.3, port multiplier: presence of a device on a port; AHCI 1.3.1, 5.3, 6.2.2, error recovery, and
-- chapter 9).
--
-- Nothing is asked of the errors that the disk reports, or of the faults that the host finds in what
-- it sends. Nothing is asked of the driver, of the port or of the other devices either.
--
-- Cited: runs and what is told over them (specs/Rules.antt, Runs.antt); the history of a unit
-- (`happens`, specs/Units.antt); the turns of the host (specs/Turns.antt); touches
-- (specs/HostTouches.antt); and requests that ended honestly (specs/HonestEnds.antt).
use Rattle.std.specs.{Prelude.{ℕ, ◌≡◌, ◌<◌, ◌==◌, ◌++◌, true, false, List, [], ◌∷◌, length, slice_get, Some, Ok}, List.list_any}
use Rattle.host_memory.specs.Memory.{Memory}
use Rattle.slots.specs.Slots.{has_bit}
use Rattle.hba_fbs.specs.declared.report.TakeReport.{TakeReport}
use Rattle.disk_model.specs.{declared.{plan.DiskPlan.DiskPlan, unit.Unit.TheVariants.Disk}, Disks.DiskValue, Histories.Happening, Ledger.IsSize}
use Rattle.disk_model.specs.Runs.{DiskStandsFor}
use Rattle.hba_laws.specs.{Client.{Touches, own}, History.filled}
use Rattle.hba_driver.specs.declared.{request.Request.Request, request.Ticket.Ticket, slot.Phase.TheVariants.Waits}
use Rattle.hba_driver.specs.{Drivers.{Entry, entry_at, rephased}, HostTurns.HostTurn, Orders.is_queued, Submits.new_entry}
use Rattle.pm_world.specs.{Attached.{Attached, Modelled}, PathEnds.injects, Units.happens, Places.{Places, is_config, new_world}, Rules.{Rule, Run}}
use Rattle.pm_world.specs.{Runs.{IsStepOf, over}, Turns.turn_of, declared.{step.Config.Config, step.Step.Step, step.Answer.Answer}}
use Rattle.pm_world.specs.{HonestEnds.{EndsHonestly, TookFlush}, HostTouches.AreTouched}
use Rattle.pm_world.specs.declared.step.Step.TheVariants as step
use Rattle.pm_world.specs.declared.step.Answer.TheVariants as answer

-- ---- the disk and its run

-- The unit at port n of a new world is a disk of this plan, with this many sectors. All this happened to it before: nothing
-- to a new disk, that it got its sectors to one that has them from its maker, and its whole history to one that a world
-- gave back. It is plugged in before the host hears of it, and what was asked of it before ends then.
pub record HasDisk (units : List Attached) (n : ℕ) (plan : DiskPlan) (sectors : ℕ) (past : List Happening) : Type 0 where
  pub disk : DiskValue
  pub there : slice_get units n ≡ Some (Modelled (Disk disk))
  pub stands : DiskStandsFor disk past
  pub plan_is : disk.plan ≡ plan
  pub sectors_are : disk.sectors ≡ sectors
  pub size : IsSize plan sectors

-- A world came from a new one by any run. Then the disk at port n was plugged in, as connection conn,
-- and was left alone from there on: nothing was injected at its port. It may have been unplugged since, and
-- plugged in again.
pub record DiskRun (config : Config) (units : List Attached) (n : ℕ) (now : Places) : Type 0 where
  pub first : List Step
  pub told : List Answer
  pub out : Places
  pub made : Run (new_world config units) first told out
  pub conn : ℕ
  pub steps : List Step
  pub answers : List Answer
  pub run : Run out (step.Came n ∷ steps) (answer.Came n conn ∷ answers) now
  pub clean : list_any (injects n) steps ≡ false

module _ (config : Config) (units : List Attached) (n : ℕ) (now : Places)
    (d : DiskRun config units n now) where
  -- the turns of the host since the world was made
  abbrev pub host_turns : List HostTurn
  host_turns = over turn_of (new_world config units) d.first d.told d.out d.made
      ++ over turn_of d.out (step.Came n ∷ d.steps) (answer.Came n d.conn ∷ d.answers) now d.run

module _ (config : Config) (units : List Attached) (n : ℕ) (now : Places)
    (d : DiskRun config units n now) (past : List Happening) where
  -- what happened to the disk, before the world was made and since, on all its connections
  abbrev pub disk_history : List Happening
  disk_history = past ++ over (happens n) (new_world config units) d.first d.told d.out d.made
      ++ over (happens n) d.out (step.Came n ∷ d.steps) (answer.Came n d.conn ∷ d.answers) now d.run

  -- The request of an entry was submitted in this run, before the disk was plugged in or since. The
  -- list is what had happened to the disk by then.
  pub data WasSubmitted (e : Entry) : List Happening → Type 0 where
    Before : (ticket : Ticket) (request : Request)
        → (i : IsStepOf (step.Submit n request) (answer.Submitted ticket) (new_world config units)
        d.out d.first d.told d.made)
        → new_entry ticket.0 n request ≡ rephased Waits e
        → WasSubmitted e (past ++ over (happens n) (new_world config units) i.before i.told i.at i.came)
    Since : (ticket : Ticket) (request : Request)
        → (i : IsStepOf (step.Submit n request) (answer.Submitted ticket) d.out now
        (step.Came n ∷ d.steps) (answer.Came n d.conn ∷ d.answers) d.run)
        → new_entry ticket.0 n request ≡ rephased Waits e
        → WasSubmitted e (past ++ over (happens n) (new_world config units) d.first d.told d.out d.made
        ++ over (happens n) d.out i.before i.told i.at i.came)

  -- The request of the entry in slot s was submitted in this run, and has ended honestly since then.
  -- That is judged by all that happened to the disk, and by what was touched at the host since its
  -- opening.
  pub record EndedSince (sectors s : ℕ) (e : Entry) (memory : Memory) : Type 0 where
    pub before : List Happening
    pub submitted : WasSubmitted e before
    pub touches : Touches
    pub touched : AreTouched config.memory (host_turns config units n now d) now.host touches
    pub ends : EndsHonestly sectors s e before disk_history (filled s (own n touches)) memory

  -- The request of the entry was submitted in this run, and the disk took a FLUSH since then.
  pub record FlushedSince (e : Entry) : Type 0 where
    pub before : List Happening
    pub submitted : WasSubmitted e before
    pub later : List Happening
    pub is : disk_history ≡ before ++ later
    pub taken : TookFlush later

-- ---- the law

-- Each queued request that the report says is done ended honestly, since it was submitted in this
-- run; and if it says that a FLUSH is done, the disk took one since it was submitted.
pub record TookHonestly (config : Config) (units : List Attached) (n sectors : ℕ) (now : Places)
    (d : DiskRun config units n now) (past : List Happening) (report : TakeReport) (new : Places) : Type 0 where
  pub done : (s : ℕ) (e : Entry) → s < 30 → entry_at now.host.driver.entries s ≡ Some e
      → is_queued e.head.work ≡ true → has_bit report.done s ≡ true
      → EndedSince config units n now d past sectors s e new.host.memory
  pub flushed : (s : ℕ) (e : Entry) → s < 30 → entry_at now.host.driver.entries s ≡ Some e
      → is_queued e.head.work ≡ false → has_bit report.done s ≡ true
      → FlushedSince config units n now d past e

-- Holds at each FIS of this connection that the host takes, whatever the disk and the other devices
-- do, even if the disk was unplugged since it sent the FIS.
abbrev pub HonestDisks : Type 0
HonestDisks =
    (config : Config) (units : List Attached) (n sectors : ℕ) (plan : DiskPlan) (past : List Happening)
    → is_config config (length units) ≡ true → n < 15 → HasDisk units n plan sectors past
    → (now : Places) (d : DiskRun config units n now)
    → (s : Step) (port conn number : ℕ) (bytes : List ℕ) (report : TakeReport) (new : Places)
    → Rule now s (Ok (answer.Took port conn number bytes report)) new → (port == n) ≡ true
    → conn ≡ d.conn → TookHonestly config units n sectors now d past report new
