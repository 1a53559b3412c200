-- The driver serves a disk honestly from where both began anew: after its flush, with the log after an error,
-- or with a software reset, up to the next fault of it (AHCI 1.3.1, 5.3, 6.2.2, error recovery, and chapter
-- 9; Serial ATA 3.x, 13.6, native command queuing, and software reset; ACS-3, commands).
--
-- Cited: a driver that serves a disk since its flush (specs/Kept.antt), what the driver keeps of a
-- device (`hba_driver`, specs/Tended.antt), and what a host has of a disk from where both began
-- anew (`disk_simulation`, specs/Anew.antt).
use Rattle.std.specs.Prelude.{ℕ, ◌≡◌, ◌<◌, ◌⊎◌, ◌++◌, Bool, false, true, List, [], ◌∷◌, Option, length, None, Some}
use Rattle.fis_view.specs.{Frames.{IsFrame, Stamped, marked}, Seen.seen}
use Rattle.slots.specs.Slots.{Issue, own_issue}
use Rattle.hba_fbs.specs.{declared.report.TakeReport.TakeReport, Taking.{ignores, port_of}, Views.view_of}
use Rattle.disk_model.specs.{Anew.OwesOnly, Ends.IsRight, Histories.{Happening, Plugged, Sent}, Ledger.{ShowsPage, Signs, Wanted, ledger}}
use Rattle.hba_laws.specs.{Client.{Touches, own}, Delivering.touches_after, History.{History, Transfer, issued}}
use Rattle.disk_simulation.specs.{Watched.GavePlain, Anew.{IsAwaited, IsHostedOn, IsSignedWell}, Heard.IsTakenWell, Joined.{IsShort, SentAgrees}}
use Rattle.disk_simulation.specs.{Together.{IsWaitedUnset, is_sent}, Same.SlotCommand}
use Rattle.hba_driver.specs.declared.{path.Recovery.TheVariants.Reset, path.Stage.TheVariants.ReadLog, path.TaskFile.TaskFile}
use Rattle.hba_driver.specs.{declared.plan.Device.TheVariants.Recovering, Drivers.device_at, Events.{IsSoundHost, events_over, shared_by}}
use Rattle.hba_driver.specs.{HostTurns.{DoesAll, Host, HostTurn, Pushed, Ticked, Took}, Served.{IsServed, RunServes}}
use Rattle.hba_driver.specs.Steady.{HasSignature, IsFine, IsFlushTick}
use Rattle.hba_driver.specs.Tended.{IsAskedOn, IsAtStage, IsBegun, IsBeingReset, IsReleasing, IsResetTurn, IsTended, IsUnreset, IsUnworked, WorksOn}
use Rattle.disk_recovery.specs.{Kept.{IsCalmTurn, IsServedHonestly, given_to}, Steady.{AreNamed, HasSigned}}

-- ---- what is kept

-- the host, with what it gave to disk n and heard from it up to where both began anew, and in all (as the
-- disk sees it), the commands of its slots, and all that touched its port and memory
pub record IsServedOn (n : ℕ) (base : List Happening) (h : Host) (given : List Happening)
    (commands : ℕ → SlotCommand) (touches : Touches) : Type 0 where
  pub sound : IsSoundHost h
  pub served : IsServed h.driver (shared_by h) touches
  pub hosted : IsHostedOn n base (shared_by h) given commands (own n touches)
  pub tended : IsTended n h.driver
  pub named : AreNamed n h.driver commands touches
  -- the device is asked for something only after it has signed; only then does its row of the received area
  -- show a signature, unless it recovers; so only then is it out of its software reset
  pub signed : IsAskedOn n h.driver.plan → HasSigned given
  pub row : IsFine (device_at h.driver.plan n) → HasSignature n h → HasSigned given
  pub ended : IsAtStage n IsReleasing h.driver.plan → IsUnreset n h → HasSigned given
  -- the command in slot 30 with which both began anew was transmitted
  pub begun : IsAtStage n IsBegun h.driver.plan → (t : Transfer)
      → issued 30 (own n touches) ≡ Some t → is_sent 30 (own n touches) ≡ true
  -- it is in its software reset only while its signature is due, and nothing was given to it or heard from it
  -- since both began anew
  pub resets : (view_of n h.port).state.resetting ≡ true
      → IsAtStage n IsReleasing h.driver.plan × (given ≡ base)

-- What is issued later was issued before and is the same command, or it is counted from all writes that have
-- ended by what was told before.
abbrev pub AreCountedOn : (commands next : ℕ → SlotCommand) → (told : List Happening)
    → (before later : History) → Type 0
AreCountedOn commands next told before later =
    (s : ℕ) (t : Transfer) → issued s later ≡ Some t
    → ((issued s before ≡ Some t) × (next s ≡ commands s))
    ⊎ ((next s).since ≡ length (ledger told).writes)

-- this holds after a turn, with some commands of the slots
pub record ServesOnAnew (n : ℕ) (base : List Happening) (old : Host) (turn : HostTurn) (new : Host)
    (run : DoesAll old (turn ∷ []) new) (told given : List Happening) (commands : ℕ → SlotCommand)
    (touches : Touches) : Type 0 where
  pub next : ℕ → SlotCommand
  pub serves : RunServes old new (turn ∷ []) run touches
  pub on : IsServedOn n base new given next
      (touches_after touches (shared_by old) (shared_by new)
      (events_over old new (turn ∷ []) run) serves.runs)
  pub counted : AreCountedOn commands next told (own n touches) (own n
      (touches_after touches (shared_by old) (shared_by new)
      (events_over old new (turn ∷ []) run) serves.runs))

-- ---- where both begin anew

-- The host of a disk that it served honestly since its flush is such a host.
abbrev pub ServedSinceFlush : Type 0
ServedSinceFlush =
    (n : ℕ) (h : Host) (given : List Happening) (commands : ℕ → SlotCommand) (touches : Touches)
    → n < 15 → (view_of n h.port).state.resetting ≡ false
    → IsServedHonestly n h given commands touches
    → IsServedOn n (Plugged ∷ []) h given commands touches

-- In the tick that flushes the disk it begins anew, whatever happened before the disk was plugged in.
abbrev pub FlushOpensOn : Type 0
FlushOpensOn =
    (n : ℕ) (old : Host) (acted : Bool) (new : Host) (run : DoesAll old (Ticked acted ∷ []) new)
    (before : List Happening) (commands : ℕ → SlotCommand) (touches : Touches) → n < 15
    → IsFlushTick n old → IsSoundHost old → IsServed old.driver (shared_by old) touches
    → ServesOnAnew n (before ++ Plugged ∷ []) old (Ticked acted) new run
    (before ++ Plugged ∷ []) (before ++ Plugged ∷ []) commands touches

-- SRST was cleared: nothing of the device is issued, and it owes only its signature.
abbrev pub ResetBeginsServed : Type 0
ResetBeginsServed =
    (n : ℕ) (h : Host) (base : List Happening) (commands : ℕ → SlotCommand) (touches : Touches)
    → n < 15 → IsSoundHost h → IsServed h.driver (shared_by h) touches → IsTended n h.driver
    → IsAtStage n IsReleasing h.driver.plan → (view_of n h.port).state.resetting ≡ true
    → ((s : ℕ) → own_issue (view_of n h.port).slots s ≡ None)
    → ((s : ℕ) → (commands s).command.tag ≡ s) → OwesOnly (ledger base) (Signs ∷ []) []
    → IsServedOn n base h base commands touches

-- The log of an error is read: only that command of the device is issued, it was transmitted, and the device
-- owes only the page.
abbrev pub LogBeginsServed : Type 0
LogBeginsServed =
    (n : ℕ) (h : Host) (base : List Happening) (file : TaskFile) (page : Wanted)
    (commands : ℕ → SlotCommand) (touches : Touches)
    → n < 15 → IsSoundHost h → IsServed h.driver (shared_by h) touches → IsTended n h.driver
    → WorksOn n (ReadLog file) true h.driver.plan
    → (view_of n h.port).state.resetting ≡ false
    → ((s : ℕ) (i : Issue) → own_issue (view_of n h.port).slots s ≡ Some i → IsAwaited i)
    → SentAgrees (view_of n h.port).slots (own n touches)
    → (view_of n h.port).slots.context ≡ None → IsWaitedUnset (own n touches)
    → ((s : ℕ) → (commands s).command.tag ≡ s)
    → OwesOnly (ledger base) (ShowsPage ∷ []) (page ∷ [])
    → IsServedOn n base h base commands touches

-- ---- where they part again

-- nothing of the device is issued, and it has no context
pub record IsFreeAt (n : ℕ) (h : Host) (touches : Touches) : Type 0 where
  pub told : (s : ℕ) → issued s (own n touches) ≡ None
  pub slots : (s : ℕ) → own_issue (view_of n h.port).slots s ≡ None
  pub context : (view_of n h.port).slots.context ≡ None

-- This holds for a device that must be reset because its log was not whole, until its software reset is
-- issued.
abbrev pub SpoiltIsFree : Type 0
SpoiltIsFree =
    (n : ℕ) (base : List Happening) (h : Host) (given : List Happening) (commands : ℕ → SlotCommand)
    (touches : Touches) → n < 15 → device_at h.driver.plan n ≡ Recovering Reset
    → IsUnworked n h.driver.plan
    → IsServedOn n base h given commands touches → IsFreeAt n h touches

-- ---- turns

-- In the turn no FIS of the device is received or transmitted. The driver does not flush the device, ends no
-- fault of it or of the port, and issues no software reset of it.
abbrev pub CalmTurnsKeepOn : Type 0
CalmTurnsKeepOn =
    (n : ℕ) (base : List Happening) (old : Host) (turn : HostTurn) (new : Host)
    (run : DoesAll old (turn ∷ []) new)
    (given : List Happening) (commands : ℕ → SlotCommand) (touches : Touches) → n < 15
    → IsCalmTurn n old turn → (IsResetTurn n old turn → ⊥)
    → IsServedOn n base old given commands touches
    → ServesOnAnew n base old turn new run given given commands touches

-- the turn issues the software reset of the device, and nothing of the device was issued before
pub record ResetsAt (n : ℕ) (old : Host) (turn : HostTurn) (new : Host) (touches : Touches)
    : Type 0 where
  pub issues : IsResetTurn n old turn
  pub reset : IsBeingReset n new.driver
  pub free : IsFreeAt n old touches

-- It stays so, or the software reset of the device is issued.
abbrev pub CalmTurnsGoOn : Type 0
CalmTurnsGoOn =
    (n : ℕ) (base : List Happening) (old : Host) (turn : HostTurn) (new : Host)
    (run : DoesAll old (turn ∷ []) new)
    (given : List Happening) (commands : ℕ → SlotCommand) (touches : Touches) → n < 15
    → IsCalmTurn n old turn → IsServedOn n base old given commands touches
    → ServesOnAnew n base old turn new run given given commands touches ⊎ ResetsAt n old turn new touches

-- A FIS of the disk, marked with its port, is received that is right by what was told since, and the port
-- finds no fault in it.
abbrev pub TakesKeepOn : Type 0
TakesKeepOn =
    (n : ℕ) (base : List Happening) (old : Host) (plain : List ℕ) (report : TakeReport) (new : Host)
    (run : DoesAll old (Took (marked plain n) report ∷ []) new)
    (given : List Happening) (commands : ℕ → SlotCommand) (touches : Touches) → n < 15
    → IsFrame plain → port_of (marked plain n) ≡ n
    → IsTakenWell (shared_by old) (marked plain n) report (shared_by new)
    → IsRight (ledger given) (seen plain) → IsShort (seen plain)
    → IsServedOn n base old given commands touches
    → ServesOnAnew n base old (Took (marked plain n) report) new run given
    (given ++ Sent plain ∷ []) commands touches

-- The signature that ends the software reset is received.
abbrev pub SignaturesKeepOn : Type 0
SignaturesKeepOn =
    (n : ℕ) (base : List Happening) (old : Host) (plain : List ℕ) (report : TakeReport) (new : Host)
    (run : DoesAll old (Took (marked plain n) report ∷ []) new)
    (given : List Happening) (commands : ℕ → SlotCommand) (touches : Touches) → n < 15
    → IsFrame plain → port_of (marked plain n) ≡ n
    → IsSignedWell (shared_by old) (marked plain n) report (shared_by new)
    → IsRight (ledger given) (seen plain)
    → IsServedOn n base old given commands touches
    → ServesOnAnew n base old (Took (marked plain n) report) new run given
    (given ++ Sent plain ∷ []) commands touches

-- A FIS is received that the port ignores: one that was in transit when both began anew.
abbrev pub IgnoredKeepOn : Type 0
IgnoredKeepOn =
    (n : ℕ) (base : List Happening) (old : Host) (frame : List ℕ) (report : TakeReport) (new : Host)
    (run : DoesAll old (Took frame report ∷ []) new)
    (given : List Happening) (commands : ℕ → SlotCommand) (touches : Touches) → n < 15
    → ignores (port_of frame) old.port frame ≡ true
    → IsServedOn n base old given commands touches
    → ServesOnAnew n base old (Took frame report) new run given given commands touches

-- the port was asked for a frame, and what it gave the disk is plain
pub record GivesOnAnew (n : ℕ) (base : List Happening) (old : Host) (frame : Option Stamped)
    (new : Host) (run : DoesAll old (Pushed frame ∷ []) new) (given : List Happening)
    (commands : ℕ → SlotCommand) (touches : Touches) : Type 0 where
  pub plain : GavePlain (given_to n frame)
  pub on : ServesOnAnew n base old (Pushed frame) new run given (given ++ given_to n frame) commands
      touches

abbrev pub PushesServeOn : Type 0
PushesServeOn =
    (n : ℕ) (base : List Happening) (old : Host) (frame : Option Stamped) (new : Host)
    (run : DoesAll old (Pushed frame ∷ []) new)
    (given : List Happening) (commands : ℕ → SlotCommand) (touches : Touches) → n < 15
    → IsServedOn n base old given commands touches
    → GivesOnAnew n base old frame new run given commands touches
