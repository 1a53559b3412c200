-- A Data FIS that is heard well is carried: so the history of its device has it.
use Rattle.std.proofs.Common.{◌≡◌, ℕ, ◌-◌, Bool, true, false, List, drop, length, refl, sym, ap, subst, ◌∙◌, Option, Some, None}
use Rattle.std.proofs.lemmas.Bool.{true≢false}
use Rattle.std.specs.Prelude.{◌==◌, cond, nat_lt, not, if◌then◌else◌, Result, Ok}
use Rattle.fis_view.specs.{Seen.seen, declared.view.{Fis.Fis, FisFault.FisFault}}
use Rattle.fis_view.specs.declared.view.Fis.TheVariants as view
use Rattle.slots.specs.{Data.after_arrive, Slots.{DeviceSlots, match_some}, declared.table.Context.Context}
use Rattle.port_errors.specs.declared.cause.DeviceCause.TheVariants as cause
use Rattle.hba_fbs.specs.{Deciding.{Decides, decided, heard_within, is_past}, Hearing.{bus_failed, faulty, heard_bytes, heard_data_of, heard_fis}}
use Rattle.hba_fbs.specs.{Hearing.{is_admitted, overflowed}, Taking.{admitted, heard_report, ignores, port_of}, Views.{DeviceView, Port, view_of}}
use Rattle.hba_fbs.specs.declared.{hearing.Heard.Heard, report.{TakeReport.TakeReport, Wrote.Wrote}, room.Room.{Room, TheVariants.{Bytes, NoTable}}}
use Rattle.hba_fbs.specs.declared.{room.Room.TheVariants.Whole, state.DeviceState.DeviceState, status.Block.Block}
use Rattle.hba_laws.specs.{CoreHistories.event_by, Delivering.event_heard, History.Carried}
use Rattle.ahci_controller.specs.{States.ControllerState, Taking.{CoreHearsIf, room_for}, declared.taking.Took.Took}
use Rattle.controller_laws.specs.Events as call
use Rattle.machine_theorem.specs.Following.{IsHeardWell}
use Rattle.machine_theorem.proofs.SetupCores.{no_fault}

abbrev IsCarried : Heard → List ℕ → Type 0
IsCarried h bytes = h.fault ≡ None → event_heard h bytes ≡ Some (Carried bytes)

module _ (v : DeviceView) (bytes : List ℕ) where
  bytes_carried : (own : DeviceSlots) (state : DeviceState) (wrote : Wrote) (o : Option Block) (last : Bool)
      → IsCarried (heard_bytes own state wrote o last) bytes
  bytes_carried own state wrote None last fine = refl
  bytes_carried own state wrote (Some block) true fine = refl
  bytes_carried own state wrote (Some block) false fine = refl

  data_case : (state : DeviceState) (c : Context) (count : ℕ) (stray lost over last : Bool)
      → IsCarried (cond stray (faulty state cause.Stray) (cond lost (bus_failed state) (cond over (overflowed state)
      (heard_bytes (after_arrive v.slots count) state (record { slot = c.slot; offset = c.next; len = count }) state.block last)))) bytes
  data_case state c count true lost over last fine = absurd (cc)
  data_case state c count false true over last fine = absurd (cc)
  data_case state c count false false true last fine = absurd (cc)
  data_case state c count false false false last fine =
      bytes_carried (after_arrive v.slots count) state (record { slot = c.slot; offset = c.next; len = count }) state.block last fine

  data_carried : (state : DeviceState) (sound : Bool) (count : ℕ) (o : Option Context)
      → IsCarried (match_some o (faulty state cause.Stray) (heard_data_of v.slots state sound count)) bytes
  data_carried state sound count None fine = absurd (cc)
  data_carried state sound count (Some c) fine = data_case state c count (not c.to_host) (not sound) (nat_lt c.left count) (c.left == count) fine

  fis_carried : (state : DeviceState) (sound : Bool) (f : List ℕ) → IsCarried (heard_fis v.slots state sound (view.Payload f)) bytes
  unfolding heard_fis
  fis_carried state sound f fine = data_carried state sound (length f - 4) v.slots.context fine

  within_case : (state : DeviceState) (f : List ℕ) (b : Bool)
      → IsCarried (if b then overflowed state else heard_fis v.slots state true (view.Payload f)) bytes
  within_case state f true fine = absurd (cc)
  within_case state f false fine = fis_carried state true f fine

  within_carried : (state : DeviceState) (room : Room) (f : List ℕ) → IsCarried (heard_within v.slots state room (view.Payload f)) bytes
  unfolding heard_within
  within_carried state NoTable f fine = fis_carried state false f fine
  within_carried state (Bytes total) f fine = within_case state f (is_past total v.slots.context (view.Payload f)) fine
  within_carried state Whole f fine = fis_carried state true f fine

  admitted_carried : (dev : ℕ) (room : Room) (f : List ℕ) (b : Bool)
      → IsCarried (decided dev v room (if b then Some (view.Payload f) else None)) bytes
  admitted_carried dev room f true fine = within_carried v.state room f fine
  admitted_carried dev room f false fine = absurd (cc)

  view_carried : (dev : ℕ) (room : Room) (r : Result Fis FisFault) (f : List ℕ) → r ≡ Ok (view.Payload f)
      → IsCarried (decided dev v room (admitted dev r)) bytes
  view_carried dev room r f viewed fine =
      let there : IsCarried (decided dev v room (admitted dev (Ok (view.Payload f)))) bytes = admitted_carried dev room f (is_admitted dev
      (view.Payload f)) in
      subst (λ (x : Result Fis FisFault). IsCarried (decided dev v room (admitted dev x)) bytes) (sym viewed) there fine

-- ---- that is taken

decides_carried : (old new : Port) (dev : ℕ) (room : Room) (frame : List ℕ) (report : TakeReport)
    → Decides old dev room (admitted dev (seen frame)) report new → report.fault ≡ None → report.stopped ≡ None → (f : List ℕ)
    → seen frame ≡ Ok (view.Payload f) → event_heard (decided dev (view_of dev old) room (admitted dev (seen frame)))
    (drop 4 frame) ≡ Some (Carried (drop 4 frame))
unfolding heard_report
decides_carried old new dev room frame report is well runs f viewed =
    let h : Heard = decided dev (view_of dev old) room (admitted dev (seen frame)) in
    view_carried (view_of dev old) (drop 4 frame) dev room (seen frame) f viewed
    (no_fault h.fault (ap (λ (r : TakeReport). r.fault) (sym is.reports) ∙ well) (ap (λ (r : TakeReport). r.stopped) (sym is.reports) ∙ runs))

hears_carried : (ignored : Bool) (c : ControllerState) (frame : List ℕ) (report : TakeReport) (new : Port)
    → ignores (port_of frame) c.core frame ≡ ignored → CoreHearsIf true c frame report new → report.ignored ≡ false → report.fault ≡ None
    → report.stopped ≡ None → (f : List ℕ) → seen frame ≡ Ok (view.Payload f)
    → event_by c.core (room_for c (port_of frame)) frame ≡ Some (Carried (drop 4 frame))
hears_carried true c frame report new e h heard well runs f viewed =
    absurd (true≢false (ap (λ (r : TakeReport). r.ignored) (sym (h.ignored e).reports) ∙ heard))
hears_carried false c frame report new e h heard well runs f viewed =
    let dev : ℕ = port_of frame in
    let room : Room = room_for c dev in
    ap (λ (b : Bool). if b then None else event_heard (decided dev (view_of dev c.core) room (admitted dev (seen frame))) (drop 4 frame)) e
    ∙ decides_carried c.core new dev room frame report (h.heard e) well runs f viewed

pub well_carried : (old new : ControllerState) (frame : List ℕ) (took : Took) → call.Takes old frame took new → IsHeardWell old took → (f : List ℕ)
    → seen frame ≡ Ok (view.Payload f) → event_by old.core (room_for old (port_of frame)) frame ≡ Some (Carried (drop 4 frame))
well_carried old new frame took takes well f viewed =
    hears_carried (ignores (port_of frame) old.core frame) old frame took.report new.core refl
    (subst (λ (b : Bool). CoreHearsIf b old frame took.report new.core) well.started takes.hears.core) well.heard well.well well.runs f viewed
