-- A Data FIS that is heard well finds a slot of its device that is set up; and a DMA Setup FIS a queued command.
use Rattle.std.proofs.{Common.{◌≡◌, ℕ, ◌-◌, Bool, true, false, List, length, refl, sym, ap, subst, ◌∙◌, Option, Some, None}, lemmas.Bool.and_parts}
use Rattle.std.proofs.lemmas.Bool.{false≢true, true≢false}
use Rattle.std.specs.Prelude.{◌==◌, if◌then◌else◌, Result, Ok}
use Rattle.fis_view.specs.{Seen.seen, Table.field, declared.view.{Fis.Fis, FisFault.FisFault}}
use Rattle.fis_view.specs.Table as table
use Rattle.fis_view.specs.declared.view.Fis.TheVariants as view
use Rattle.slots.specs.{Setup.{is_outstanding, setup_fault, transfer_fault}, Slots.{Issue, context_of, is_queued_issue, is_waiting, issue_at}}
use Rattle.slots.specs.{Slots.{match_some, own_issue, slots_of}, Table.{IsContext, IsContextOf}, declared.answer.SetupError.SetupError}
use Rattle.slots.specs.declared.{answer.SetupError.TheVariants.NotOutstanding, table.Context.Context}
use Rattle.port_errors.specs.declared.cause.DeviceCause.TheVariants as cause
use Rattle.hba_fbs.specs.{Deciding.{Decides, decided, heard_within, is_past}, Hearing.{faulty, heard_data_of, heard_fis, is_admitted, overflowed}}
use Rattle.hba_fbs.specs.{Hearing.{set_up, tag_of}, Taking.{admitted, heard_report, ignores, port_of}, Views.{DeviceView, Port, view_of}}
use Rattle.hba_fbs.specs.declared.{hearing.Happening.Happening, report.TakeReport.TakeReport, room.Room.{Room, TheVariants.{Bytes, NoTable, Whole}}}
use Rattle.hba_fbs.specs.declared.{state.DeviceState.DeviceState, status.Block.Block}
use Rattle.hba_laws.proofs.Door.{own_in}
use Rattle.ahci_controller.specs.{States.ControllerState, Taking.{CoreHearsIf, room_for}, declared.taking.Took.Took}
use Rattle.controller_laws.specs.Events as call
use Rattle.controller_laws.specs.Events.{IsController}
use Rattle.machine_theorem.specs.{Following.IsHeardWell, Ending.HasNoQueued, Waits.waits_in}
use Rattle.slots.proofs.Door.{own_at}
use Rattle.machine_theorem.proofs.{SetupCores.{context_is, match_is, no_fault}, SinglesOwn.{issue_is, mine, sent_waits, set_up_sent}, Waiting.owner}
use Rattle.machine_theorem.proofs.Waiting.{some_waits}

-- ---- a FIS with which nothing is wrong

abbrev pub Needs : DeviceView → Fis → Type 0
Needs v (view.Payload f) = (c : Context) × (v.slots.context ≡ Some c)
Needs v (view.DmaSetup f) = (i : Issue) × ((own_issue v.slots (tag_of f) ≡ Some i) × (is_queued_issue i ≡ true))
Needs v other = Unit {0}

data_needs : (v : DeviceView) (state : DeviceState) (sound : Bool) (count : ℕ) (o : Option Context) → v.slots.context ≡ o
    → (match_some o (faulty state cause.Stray) (heard_data_of v.slots state sound count)).fault ≡ None → (c : Context) × (v.slots.context ≡ Some c)
data_needs v state sound count None is fine = absurd (cc)
data_needs v state sound count (Some c) is fine = (c, is)

outstanding_is : (b : Bool) (f : Option SetupError) → (if b then f else Some NotOutstanding) ≡ None → b ≡ true
outstanding_is true f e = refl
outstanding_is false f e = absurd (cc)

setup_needs : (o : Option Issue) (offset count : ℕ) (to_host : Bool) → setup_fault o offset count to_host ≡ None
    → (i : Issue) × ((o ≡ Some i) × (is_queued_issue i ≡ true))
setup_needs None offset count to_host e = absurd (cc)
setup_needs (Some i) offset count to_host e =
    (i, (refl, (and_parts (is_queued_issue i) i.answered (outstanding_is (is_outstanding i) (transfer_fault i offset count to_host) e)).0))

set_up_fine : (o : Option SetupError) (state : DeviceState) (block : Option Block) (h : Happening) → (set_up o state block h).fault ≡ None → o ≡ None
set_up_fine None state block h fine = refl
set_up_fine (Some e) state block h fine = absurd (cc)

fis_needs : (v : DeviceView) (state : DeviceState) (sound : Bool) (fis : Fis) → (heard_fis v.slots state sound fis).fault ≡ None → Needs v fis
unfolding heard_fis
fis_needs v state sound (view.Payload f) fine = data_needs v state sound (length f - 4) v.slots.context refl fine
fis_needs v state sound (view.DmaSetup f) fine =
    setup_needs (own_issue v.slots (tag_of f)) (field table.Setup table.Offset f) (field table.Setup table.Count f) (field table.Setup table.D f == 1)
    (set_up_fine (setup_fault (own_issue v.slots (tag_of f)) (field table.Setup table.Offset f) (field table.Setup table.Count f) (field table.Setup table.D f == 1))
    state None _ fine)
fis_needs v state sound other fine = tt

within_case : (v : DeviceView) (state : DeviceState) (fis : Fis) (b : Bool) → (if b then overflowed state else heard_fis v.slots state true fis).fault ≡ None → Needs v fis
within_case v state fis true fine = absurd (cc)
within_case v state fis false fine = fis_needs v state true fis fine

within_needs : (v : DeviceView) (state : DeviceState) (room : Room) (fis : Fis) → (heard_within v.slots state room fis).fault ≡ None → Needs v fis
unfolding heard_within
within_needs v state NoTable fis fine = fis_needs v state false fis fine
within_needs v state (Bytes total) fis fine = within_case v state fis (is_past total v.slots.context fis) fine
within_needs v state Whole fis fine = fis_needs v state true fis fine

admitted_needs : (dev : ℕ) (v : DeviceView) (room : Room) (fis : Fis) (b : Bool) → (decided dev v room (if b then Some fis else None)).fault ≡ None → Needs v fis
admitted_needs dev v room fis true fine = within_needs v v.state room fis fine
admitted_needs dev v room fis false fine = absurd (cc)

-- ---- that is taken

decides_needs : (old new : Port) (dev : ℕ) (room : Room) (frame : List ℕ) (report : TakeReport) → Decides old dev room (admitted dev (seen frame)) report new
    → report.fault ≡ None → report.stopped ≡ None → (fis : Fis) → seen frame ≡ Ok fis → Needs (view_of dev old) fis
unfolding heard_report
decides_needs old new dev room frame report is well runs fis viewed =
    let h = decided dev (view_of dev old) room (admitted dev (seen frame)) in
    let fine : h.fault ≡ None =
    no_fault h.fault (ap (λ (r : TakeReport). r.fault) (sym is.reports) ∙ well) (ap (λ (r : TakeReport). r.stopped) (sym is.reports) ∙ runs) in
    admitted_needs dev (view_of dev old) room fis (is_admitted dev fis)
    (subst (λ (r : Result Fis FisFault). (decided dev (view_of dev old) room (admitted dev r)).fault ≡ None) viewed fine)

hears_needs : (ignored : Bool) (c : ControllerState) (frame : List ℕ) (report : TakeReport) (new : Port) → ignores (port_of frame) c.core frame ≡ ignored
    → CoreHearsIf true c frame report new → report.ignored ≡ false → report.fault ≡ None → report.stopped ≡ None → (fis : Fis) → seen frame ≡ Ok fis
    → Needs (view_of (port_of frame) c.core) fis
hears_needs true c frame report new e h heard well runs fis viewed =
    absurd (true≢false (ap (λ (r : TakeReport). r.ignored) (sym (h.ignored e).reports) ∙ heard))
hears_needs false c frame report new e h heard well runs fis viewed =
    decides_needs c.core new (port_of frame) (room_for c (port_of frame)) frame report (h.heard e) well runs fis viewed

pub well_needs : (old new : ControllerState) (frame : List ℕ) (took : Took) → call.Takes old frame took new → IsHeardWell old took → (fis : Fis) → seen frame ≡ Ok fis
    → Needs (view_of (port_of frame) old.core) fis
well_needs old new frame took takes well fis viewed =
    hears_needs (ignores (port_of frame) old.core frame) old frame took.report new.core refl
    (subst (λ (b : Bool). CoreHearsIf b old frame took.report new.core) well.started takes.hears.core) well.heard well.well well.runs fis viewed

-- ---- while the device has no queued commands

module _ (n : ℕ) (c : ControllerState) (kept : IsController c) (plain : HasNoQueued n c) where
  -- a slot that is set up waits
  pub set_up_issue : (x : Context) → context_of c.core.slots n ≡ Some x
      → (i : Issue) × ((own_issue (slots_of n c.core.slots) x.slot ≡ Some i) × (is_waiting i ≡ true))
  set_up_issue x is =
      let there : IsContext n c.core.slots x = context_is n c.core x kept.slots is in
      let of = match_is (IsContextOf n x) (issue_at c.core.slots x.slot) there.1 in
      let i : Issue = of.0 in
      let queued : is_queued_issue i ≡ false = plain x.slot i of.1.0 of.1.1.of_dev in
      let set : context_of c.core.slots i.dev ≡ Some x = ap (context_of c.core.slots) of.1.1.of_dev ∙ is in
      let sent : i.sent ≡ true = set_up_sent x.slot there.0 c kept i of.1.0 queued x set refl in
      let waits : is_waiting i ≡ true = sent_waits i (issue_is x.slot there.0 c kept i of.1.0 queued) queued sent in
      (i, (subst (λ (j : ℕ). own_issue (slots_of j c.core.slots) x.slot ≡ Some i) of.1.1.of_dev (mine x.slot there.0 c kept i of.1.0 queued), waits))

  pub set_up_waits : (x : Context) → context_of c.core.slots n ≡ Some x → waits_in n c ≡ true
  set_up_waits x is = let it = set_up_issue x is in some_waits n x.slot c kept it.0 it.1.0 it.1.1

  -- none is queued
  pub none_queued : (s : ℕ) (i : Issue) → own_issue (slots_of n c.core.slots) s ≡ Some i → is_queued_issue i ≡ true → ⊥
  none_queued s i is queued =
      let it = own_in n s c.core.slots i is in
      let dev : i.dev ≡ n = owner n i (issue_at c.core.slots s) (sym (own_at n c.core.slots s it.0) ∙ is) in
      false≢true (sym (plain s i it.1 dev) ∙ queued)
