-- What a port that is stopped takes: a Register FIS, by which a device says that it is there; and what hangs at the port before
-- that (AHCI 1.3.1, 3.3.7 PxCMD.FRE, 3.3.8 PxTFD, 3.3.9 PxSIG, 5.3, the states of a port that does not run, and 10.1.2).
use Rattle.std.specs.Prelude.{ℕ, ◌≡◌, ◌<◌, ◌==◌, ◌&&◌, ◌||◌, Bool, true, false, not, if◌then◌else◌, List, Option, Some, None, Result, Ok, MatchOption}
use Rattle.fis_view.specs.Table as table
use Rattle.fis_view.specs.{Table.field, declared.view.{Fis.Fis, FisFault.FisFault}}
use Rattle.fis_view.specs.declared.view.Fis.TheVariants as kind
use Rattle.port_errors.specs.Errors.{without}
use Rattle.rx_area.specs.Area as rx
use Rattle.slots.specs.Slots.{no_own_slots}
use Rattle.hba_fbs.specs.declared.{greeting.{Line.Line, Listens.Listens}, registers.Registers.Registers, report.TakeReport.TakeReport}
use Rattle.hba_fbs.specs.{declared.state.DeviceState.DeviceState, Hearing.quietly, Posting.{is_ata_signature, is_signature, posted}}
use Rattle.hba_fbs.specs.{Status.{after_reset, signed_by}, Taking.{heard_report, ignored_report}, Views.{DeviceView, LeavesOtherViews, Port, view_of}}
use Rattle.hba_fbs.specs.declared.greeting.Line.TheVariants as line
use Rattle.hba_fbs.specs.declared.greeting.Listens.TheVariants as listens
use Rattle.hba_fbs.specs.declared.hearing.Happening.TheVariants as happening

-- ---- whether a FIS is taken

-- while ST is 1 a FIS is taken, while FRE alone is 1 it is greeted, and else it waits
abbrev pub listens_with : Registers → Listens
listens_with r = if r.started then listens.Takes else if r.receives then listens.Greets else listens.Waits

-- the FIS, if it is a Register Device to Host FIS
abbrev pub register_in : Result Fis FisFault → Option (List ℕ)
register_in (Ok (kind.RegD2H f)) = Some f
register_in fis = None

-- a Register FIS counts, but for one that is no signature while its device is in software reset
abbrev pub counts : DeviceState → List ℕ → Bool
counts state f = not state.resetting || is_signature f

-- the one that is greeted
abbrev pub greeted_in : DeviceState → Result Fis FisFault → Option (List ℕ)
greeted_in state (Ok (kind.RegD2H f)) = if counts state f then Some f else None
greeted_in state fis = None

-- ---- what it leaves

-- no signature has come since the port was opened or reset: PxSIG is as it opens
abbrev pub is_first : Registers → Bool
is_first r = r.signature == 0xFFFFFFFF

-- Status and Error are those of the FIS, and a software reset ends
abbrev pub greeted_state : DeviceState → List ℕ → DeviceState
greeted_state state f =
    signed_by (after_reset state (field table.D2h table.Status f) (field table.D2h table.Error f)) (is_ata_signature f)

-- It is posted. The first one after a reset, of the port or of the device, sets PxSIG. Without FIS-based switching its device is
-- the active one from now on, so PxTFD shows it.
pub record Welcomes (old : Port) (dev : ℕ) (f : List ℕ) (report : TakeReport) (new : Port) : Type 0 where
  pub own : view_of dev new ≡ record (view_of dev old) { state = greeted_state (view_of dev old).state f }
  pub others : LeavesOtherViews dev old new
  pub reports : report ≡ heard_report dev (rx.posted_at (kind.RegD2H f))
      (quietly (greeted_state (view_of dev old).state f) happening.Nothing)
  pub registers : new.registers
      ≡ posted old.registers dev (is_first old.registers || (view_of dev old).state.resetting) (kind.RegD2H f)
  pub slots : new.slots ≡ old.slots
  pub errors : new.errors ≡ old.errors
  pub commands : new.commands ≡ old.commands
  pub number : new.number ≡ old.number
  pub active : new.active ≡ (if old.registers.switching then old.active else dev)

-- what is no such FIS is ignored
pub record Unheard (old : Port) (dev : ℕ) (report : TakeReport) (new : Port) : Type 0 where
  pub reports : report ≡ ignored_report dev
  pub port : new ≡ old

abbrev pub Greets : Port → ℕ → Option (List ℕ) → TakeReport → Port → Type 0
Greets old dev None report new = Unheard old dev report new
Greets old dev (Some f) report new = Welcomes old dev f report new

-- ---- before the signature

-- Status before a device is there: 7Fh; and from a COMRESET to the signature: 80h, BSY
abbrev pub line_status : Line → ℕ
line_status line.Empty = 0x7F
line_status line.Reset = 0x80

-- a device that is being reset owes its signature
abbrev pub owes : Line → Bool
owes line.Empty = false
owes line.Reset = true

abbrev pub line_state : Line → DeviceState
line_state l = record { status = line_status l; error = 0; resetting = owes l; block = None; signed = false }

-- nothing is issued for it, and it has no fault
abbrev pub line_view : Line → DeviceView
line_view l = record { slots = no_own_slots; state = line_state l; fault = None }

-- it is the active device, so PxTFD shows it without FIS-based switching
pub record Hangs (old : Port) (dev : ℕ) (l : Line) (new : Port) : Type 0 where
  pub dev_below : dev < 16
  pub own : view_of dev new ≡ line_view l
  pub others : LeavesOtherViews dev old new
  pub registers : new.registers ≡ old.registers
  pub errors : new.errors ≡ without old.errors dev
  pub commands : new.commands ≡ old.commands
  pub number : new.number ≡ old.number
  pub active : new.active ≡ dev
