-- What the core decides, and what the shell makes of it.
use Rattle.std.proofs.{Common.{◌≡◌, ℕ, Bool, true, false, List, refl, sym, ◌∙◌, ap, subst, Option, Some, None}, lemmas.Bool.{true≢false}}
use Rattle.fis_view.specs.declared.view.Fis.{Fis}
use Rattle.fis_view.specs.declared.view.Fis.TheVariants as kind
use Rattle.host_memory.specs.Memory.{Memory}
use Rattle.rx_area.specs.declared.area.Posted.{Posted}
use Rattle.slots.specs.Slots.{DeviceSlots}
use Rattle.hba_fbs.specs.declared.{hearing.Heard.Heard, report.TakeReport.TakeReport, room.Room.{Room, TheVariants.{Bytes, NoTable, Whole}}}
use Rattle.hba_fbs.specs.{declared.state.DeviceState.DeviceState, Deciding.{Decides, carries, decided, heard_within, room_if}, Hearing.heard_fis}
use Rattle.hba_fbs.specs.{Registers.AreRegisters, Taking.{PostsIn, Takes, errors_in, heard, heard_report, place_in, posted_of, row_for, settled}}
use Rattle.hba_fbs.specs.{Taking.{view_after_hearing, wrote_by}, Views.{DeviceView, Port, view_of}}
use Rattle.hba_fbs.proofs.RegisterLemmas.{heard_are}

-- a FIS without data is heard alike, whatever is said of the table
heard_deaf : (own : DeviceSlots) (state : DeviceState) (room : Room) (fis : Fis) → carries true fis ≡ false → heard_within own state room fis ≡ heard_fis own state true fis
unfolding heard_within heard_fis
heard_deaf own state room (kind.Payload f) none = absurd (true≢false none)
heard_deaf own state NoTable other none = refl
heard_deaf own state (Bytes total) other none = refl
heard_deaf own state Whole other none = refl

decides_as : (old : Port) (dev : ℕ) (s t : Room) (fis : Option Fis) (report : TakeReport) (new : Port) → decided dev (view_of dev old) s fis ≡ decided dev (view_of dev old) t fis → Decides old dev s fis report new → Decides old dev t fis report new
decides_as old dev s t fis report new e d = record {
  own = d.own ∙ ap (view_after_hearing (view_of dev old)) e;
  others = d.others;
  reports = d.reports ∙ ap (heard_report dev (place_in (row_for old dev) fis)) e;
  registers = d.registers ∙ ap (settled (posted_of old.registers dev (view_of dev old).state.resetting fis)) e;
  errors = d.errors ∙ ap (λ (h : Heard). errors_in old.registers.switching old.errors dev h.fault) e;
  commands = d.commands;
  number = d.number;
  active = d.active;
  frees = d.frees;
}

pub decides_any : (old : Port) (dev : ℕ) (s t : Room) (fis : Fis) (report : TakeReport) (new : Port) → carries true fis ≡ false → Decides old dev s (Some fis) report new → Decides old dev t (Some fis) report new
decides_any old dev s t fis report new none d =
    let v : DeviceView = view_of dev old in
    decides_as old dev s t (Some fis) report new (heard_deaf v.slots v.state s fis none ∙ sym (heard_deaf v.slots v.state t fis none)) d

-- a memory says no more than whether the table can be used
pub decided_if : (dev : ℕ) (v : DeviceView) (sound : Bool) (fis : Option Fis) → decided dev v (room_if sound) fis ≡ heard dev v sound fis
unfolding heard_within
decided_if dev v sound None = refl
decided_if dev v true (Some fis) = refl
decided_if dev v false (Some fis) = refl

-- what a report says was written
pub reported_wrote : (report : TakeReport) (dev : ℕ) (at : Posted) (h : Heard) → report ≡ heard_report dev at h → report.wrote ≡ wrote_by h.happening
unfolding heard_report
reported_wrote report dev at h is = ap (λ (r : TakeReport). r.wrote) is

posts_none : (fb : ℕ) (row : Option ℕ) (s : List ℕ) → PostsIn fb row None s s
posts_none fb None s = refl
posts_none fb (Some row) s = refl

-- a frame that is no FIS leaves the memory
pub takes_bad : (old : Port) (before : Memory) (dev : ℕ) (payload : List ℕ) (report : TakeReport) (new : Port) → ((room : Room) → Decides old dev room None report new) → Takes old before dev None payload report new before
takes_bad old before dev payload report new decides =
    let d = decides Whole in
    record {
      own = d.own;
      others = d.others;
      reports = d.reports;
      registers = d.registers;
      errors = d.errors;
      commands = d.commands;
      number = d.number;
      active = d.active;
      frees = d.frees;
      structure = posts_none old.registers.fb (row_for old dev) before.structure;
      client = refl;
    }

-- the registers keep their rules beside a memory
pub decides_are : (old : Port) (dev : ℕ) (room : Room) (fis : Option Fis) (report : TakeReport) (new : Port) → Decides old dev room fis report new → AreRegisters old.registers → AreRegisters new.registers
decides_are old dev room fis report new d are =
    let v : DeviceView = view_of dev old in
    subst AreRegisters (sym d.registers) (heard_are old.registers dev v.state.resetting fis (decided dev v room fis) are)
