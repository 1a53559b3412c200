-- The driver serves a disk honestly, from the tick that flushes it up to the disk's first fault. The port,
-- the history of the device and the FISes on the link say the same, and each FIS that is transmitted to the
-- disk fits what was told before (AHCI 1.3.1, 5.3 and chapter 9; Serial ATA 3.x, 13.6, native command
-- queuing; ACS-3, commands).
--
-- Cited: what a host with a driver is and does (`hba_driver`, specs/HostTurns.antt, Events.antt,
-- Served.antt), and what a host has of a disk (`disk_simulation`, specs/Hosted.antt).
use Rattle.std.specs.Prelude.{ℕ, ◌≡◌, ◌≢◌, ◌<◌, ◌%◌, ◌==◌, ◌++◌, if◌then◌else◌, true, List, [], ◌∷◌, slice_index, Bool, Option, Some, None}
use Rattle.fis_view.specs.{Frames.{IsFrame, Stamped, marked}, Seen.seen}
use Rattle.host_memory.specs.Memory.{is_memory_size, zeroed}
use Rattle.hba_fbs.specs.{declared.report.TakeReport.TakeReport, Taking.port_of}
use Rattle.disk_model.specs.{Ends.IsRight, Histories.{Happening, Plugged, Received, Sent}, Ledger.ledger}
use Rattle.hba_laws.specs.{Client.{Touches, own}, Delivering.touches_after}
use Rattle.disk_simulation.specs.{Heard.IsTakenWell, Hosted.IsHosted, Joined.IsShort, Same.SlotCommand}
use Rattle.hba_driver.specs.{Events.{IsSoundHost, events_over, opening_host, shared_by}, HostTurns.{DoesAll, Host, HostTurn, Pushed, Ticked, Took}}
use Rattle.hba_driver.specs.{Served.{IsServed, RunServes}, Steady.{IsCalmTick, IsFlushTick, IsSteady}}
use Rattle.disk_recovery.specs.Steady.{AreNamed, IsAskedSigned, IsRowSigned}

-- ---- what is kept

-- the host, with what it gave to disk n and heard from it since it flushed the disk (as the disk sees it),
-- the commands of its slots, and all that touched its port and memory
pub record IsServedHonestly (n : ℕ) (h : Host) (given : List Happening) (commands : ℕ → SlotCommand)
    (touches : Touches) : Type 0 where
  pub sound : IsSoundHost h
  pub served : IsServed h.driver (shared_by h) touches
  pub hosted : IsHosted n (shared_by h) given commands (own n touches)
  pub steady : IsSteady n h.driver
  pub named : AreNamed n h.driver commands touches
  pub signed : IsAskedSigned n h given
  pub row : IsRowSigned n h given

-- this holds after a turn, with some commands of the slots
pub record ServesOn (n : ℕ) (old : Host) (turn : HostTurn) (new : Host)
    (run : DoesAll old (turn ∷ []) new) (given : List Happening) (touches : Touches) : Type 0 where
  pub next : ℕ → SlotCommand
  pub serves : RunServes old new (turn ∷ []) run touches
  pub honestly : IsServedHonestly n new given next
      (touches_after touches (shared_by old) (shared_by new)
      (events_over old new (turn ∷ []) run) serves.runs)

-- ---- the laws

-- When the host opens, nothing has been given to any disk.
abbrev pub OpensHonestly : Type 0
OpensHonestly =
    (n given len : ℕ) (commands : ℕ → SlotCommand) → n < 15 → is_memory_size len ≡ true
    → ((s : ℕ) → (commands s).command.tag ≡ s)
    → IsServedHonestly n (opening_host given (zeroed len)) (Plugged ∷ []) commands []

-- In the tick that flushes the disk it begins anew: nothing of it is issued, and its plugging is all that has
-- happened to it.
abbrev pub FlushOpens : Type 0
FlushOpens =
    (n : ℕ) (old : Host) (acted : Bool) (new : Host) (run : DoesAll old (Ticked acted ∷ []) new)
    (touches : Touches) → n < 15 → IsFlushTick n old
    → IsSoundHost old → IsServed old.driver (shared_by old) touches
    → ServesOn n old (Ticked acted) new run (Plugged ∷ []) touches

-- In the turn no FIS of the device is received or transmitted. The driver does not flush the device, and ends
-- no fault of it or of the port.
abbrev pub IsCalmTurn : ℕ → Host → HostTurn → Type 0
IsCalmTurn n old (Took frame report) = n ≢ port_of frame
IsCalmTurn n old (Pushed frame) = ⊥
IsCalmTurn n old (Ticked acted) = IsCalmTick n old
IsCalmTurn n old turn = Unit {0}

abbrev pub CalmTurnsKeep : Type 0
CalmTurnsKeep =
    (n : ℕ) (old : Host) (turn : HostTurn) (new : Host) (run : DoesAll old (turn ∷ []) new)
    (given : List Happening) (commands : ℕ → SlotCommand) (touches : Touches) → n < 15
    → IsCalmTurn n old turn → IsServedHonestly n old given commands touches
    → ServesOn n old turn new run given touches

-- a FIS of the disk, marked with its port, is received that is right by what was told before, and the port
-- finds no fault in it
abbrev pub TakesKeep : Type 0
TakesKeep =
    (n : ℕ) (old : Host) (plain : List ℕ) (report : TakeReport) (new : Host)
    (run : DoesAll old (Took (marked plain n) report ∷ []) new)
    (given : List Happening) (commands : ℕ → SlotCommand) (touches : Touches) → n < 15
    → IsFrame plain → port_of (marked plain n) ≡ n
    → IsTakenWell (shared_by old) (marked plain n) report (shared_by new)
    → IsRight (ledger given) (seen plain) → IsShort (seen plain)
    → IsServedHonestly n old given commands touches
    → ServesOn n old (Took (marked plain n) report) new run (given ++ Sent plain ∷ []) touches

-- what the disk gets of what is transmitted: a frame with its port
abbrev pub given_to : ℕ → Option Stamped → List Happening
given_to n None = []
given_to n (Some frame) =
    if slice_index frame.bytes 1 % 16 == n then Received (marked frame.bytes 0) ∷ [] else []

-- the port is asked for a frame
abbrev pub PushesGoOn : Type 0
PushesGoOn =
    (n : ℕ) (old : Host) (frame : Option Stamped) (new : Host)
    (run : DoesAll old (Pushed frame ∷ []) new)
    (given : List Happening) (commands : ℕ → SlotCommand) (touches : Touches) → n < 15
    → IsServedHonestly n old given commands touches
    → ServesOn n old (Pushed frame) new run (given ++ given_to n frame) touches

-- the same, where what is transmitted is known to be a frame
abbrev pub PushesKeep : Type 0
PushesKeep =
    (n : ℕ) (old : Host) (frame : Option Stamped) (new : Host)
    (run : DoesAll old (Pushed frame ∷ []) new)
    (given : List Happening) (commands : ℕ → SlotCommand) (touches : Touches) → n < 15
    → ((f : Stamped) → frame ≡ Some f → IsFrame f.bytes)
    → IsServedHonestly n old given commands touches
    → ServesOn n old (Pushed frame) new run (given ++ given_to n frame) touches
