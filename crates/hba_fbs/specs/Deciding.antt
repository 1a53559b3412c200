-- What the part of a host port that holds no memory decides on a FIS (AHCI 1.3.1, 5.3.13 and 9.3), and what it asks
-- of whoever has the memory: the room of the PRD table, for the slot for which the device sends Data.
use Rattle.std.specs.Prelude.{ℕ, ◌≡◌, ◌≤◌, ◌+◌, ◌-◌, ◌&&◌, Bool, true, false, nat_lt, if◌then◌else◌, length, Option, Some, None}
use Rattle.fis_view.specs.declared.view.Fis.{Fis}
use Rattle.fis_view.specs.declared.view.Fis.TheVariants as kind
use Rattle.slots.specs.{Slots.{DeviceSlots, KeepsFree}, declared.table.Context.Context}
use Rattle.hba_fbs.specs.declared.{hearing.Heard.Heard, report.TakeReport.TakeReport, room.Room.{Room, TheVariants.{NoTable, Bytes, Whole}}}
use Rattle.hba_fbs.specs.{declared.state.DeviceState.DeviceState, Hearing.{heard_bad, heard_fis, overflowed}, Taking.{errors_in, heard_report}}
use Rattle.hba_fbs.specs.{Taking.{ignored_report, place_in, posted_of, row_for, settled, view_after_hearing}, Views.{DeviceView, LeavesOtherViews}}
use Rattle.hba_fbs.specs.Views.{Port, view_of}

-- it can be used
abbrev pub has_table : Room → Bool
has_table NoTable = false
has_table (Bytes total) = true
has_table Whole = true

-- a memory has a table that can be used, with all bytes of its command, or none
abbrev pub room_if : (sound : Bool) → Room
room_if true = Whole
room_if false = NoTable

-- bytes up to this one have places
abbrev pub Reaches : Room → ℕ → Type 0
Reaches NoTable k = ⊥
Reaches (Bytes total) k = k ≤ total
Reaches Whole k = Unit {0}

-- so many bytes go past this one of the slot for which the device sends Data
abbrev pub goes_past : (total : ℕ) → Option Context → (count : ℕ) → Bool
goes_past total None count = false
goes_past total (Some c) count = c.to_host && nat_lt total (c.next + count)

-- the FIS is Data that does
abbrev pub is_past : (total : ℕ) → Option Context → Fis → Bool
is_past total context (kind.Payload f) = goes_past total context (length f - 4)
is_past total context fis = false

-- What a FIS that may come from its PM Port means for its device. Data for which the bytes of the table run out is an
-- overflow, as where its setup has fewer (AHCI 1.3.1, 3.3.5, PxIS.OFS).
unfoldable pub heard_within : DeviceSlots → DeviceState → Room → Fis → Heard
heard_within own state NoTable fis = heard_fis own state false fis
heard_within own state (Bytes total) fis =
    if is_past total own.context fis then overflowed state else heard_fis own state true fis
heard_within own state Whole fis = heard_fis own state true fis

abbrev pub decided : ℕ → DeviceView → Room → Option Fis → Heard
decided dev view room None = heard_bad dev view.state
decided dev view room (Some fis) = heard_within view.slots view.state room fis

abbrev pub decided_view : ℕ → DeviceView → Room → Option Fis → DeviceView
decided_view dev view room fis = view_after_hearing view (decided dev view room fis)

-- A FIS that is not ignored, or a frame that is no FIS. The new view of its device is a function of the old view, of
-- the FIS and of the table's room; every other view stays. The report says what is to be written.
pub record Decides (old : Port) (dev : ℕ) (room : Room) (fis : Option Fis) (report : TakeReport)
    (new : Port) : Type 0 where
  pub own : view_of dev new ≡ decided_view dev (view_of dev old) room fis
  pub others : LeavesOtherViews dev old new
  pub reports : report
      ≡ heard_report dev (place_in (row_for old dev) fis) (decided dev (view_of dev old) room fis)
  pub registers : new.registers ≡ settled (posted_of old.registers dev (view_of dev old).state.resetting fis)
      (decided dev (view_of dev old) room fis)
  pub errors : new.errors
      ≡ errors_in old.registers.switching old.errors dev (decided dev (view_of dev old) room fis).fault
  pub commands : new.commands ≡ old.commands
  pub number : new.number ≡ old.number
  pub active : new.active ≡ old.active
  -- no free slot is filled
  pub frees : KeepsFree old.slots new.slots

-- an ignored frame changes nothing
pub record Passes (dev : ℕ) (old : Port) (report : TakeReport) (new : Port) : Type 0 where
  pub reports : report ≡ ignored_report dev
  pub port : new ≡ old

-- the FIS is Data for a table that can be used
abbrev pub carries : (sound : Bool) → Fis → Bool
carries sound (kind.Payload f) = sound
carries sound fis = false
