-- The bytes that a report tells of are of a slot in which something is issued.
use Rattle.std.proofs.Common.{◌≡◌, ℕ, ◌<◌, ◌-◌, Bool, true, false, cond, eqb, List, length, refl, sym, ap, subst, ◌∙◌, Option, Some, None}
use Rattle.std.specs.Prelude.{MatchOption, IfSome, is_some, not, nat_lt, if◌then◌else◌, Result, Ok, Err}
use Rattle.fis_view.specs.{Seen.seen, Table.field, declared.view.{Fis.Fis, FisFault.FisFault}}
use Rattle.fis_view.specs.Table as table
use Rattle.fis_view.specs.declared.view.Fis.TheVariants as view
use Rattle.port_errors.specs.declared.cause.DeviceCause.TheVariants as cause
use Rattle.slots.specs.{Commands.{answer_of, completed}, Data.{after_arrive, may_activate}, Setup.{dma_context, out_setup, pio_fault, pio_issue}}
use Rattle.slots.specs.{Setup.setup_fault, Slots.{DeviceSlots, Issue, context_of, issue_at, match_some, own_issue, sent_pio, slots_of}}
use Rattle.slots.specs.{Table.{IsContext, IsContextOf, IsTable}, declared.{answer.SetupError.SetupError, table.Context.Context}}
use Rattle.hba_fbs.specs.declared.{hearing.{Happening.Happening, Heard.Heard}, report.{TakeReport.TakeReport, Wrote.Wrote}, room.Room.Room}
use Rattle.hba_fbs.specs.declared.{room.Room.TheVariants.{Bytes, NoTable, Whole}, state.DeviceState.DeviceState, status.Block.Block}
use Rattle.hba_fbs.specs.{Deciding.{Decides, Passes, decided, heard_within, is_past}, Greeting.{Greets, greeted_state}, Hearing.{answered, block_of}}
use Rattle.hba_fbs.specs.Hearing.{bus_failed, faulty, heard_bytes, heard_d2h, heard_data, heard_data_of, heard_fis, heard_out, named, overflowed}
use Rattle.hba_fbs.specs.{Hearing.{quietly, set_up, tag_of}, Status.{after_reset, is_busy, is_error, with_bits, with_file}, Taking.heard_report}
use Rattle.hba_fbs.specs.{Taking.{ignored_report, wrote_by}, Views.{DeviceView, Port, view_of}}
use Rattle.hba_fbs.specs.declared.hearing.Happening.TheVariants as happening
use Rattle.ahci_controller.proofs.rules.Words.{Brings, BringsFor, IsOfIssue}

module _ (own : DeviceSlots) (state : DeviceState) (sound : Bool) (len : ℕ) where
  d2h : (status error : ℕ) (e b : Bool)
      → Brings own (cond e (faulty (with_file state status error) cause.TaskFile) (cond b (quietly (with_file state status error) happening.Nothing) (answered (answer_of own) (with_file state status error)))).happening
  d2h status error true b = tt
  d2h status error false true = tt
  d2h status error false false = tt

  register : (status error : ℕ) (resetting : Bool) → Brings own (cond resetting (quietly (after_reset state status error) happening.Nothing) (heard_d2h own state status error)).happening
  register status error true = tt
  register status error false = d2h status error (is_error status) (is_busy status)

  bits : (status error mask : ℕ) (e : Bool) → Brings own (cond e (faulty (with_bits state status error) cause.TaskFile) (named (completed mask own) (with_bits state status error) mask)).happening
  bits status error mask true = tt
  bits status error mask false = tt

  setup : (c : Context) (o : Option SetupError) → Brings own (set_up o state None (happening.SetUp c)).happening
  setup c None = tt
  setup c (Some e) = tt

  pio : (status error count : ℕ) (to_host : Bool) (block : Block) (e b : Bool) (o : Option SetupError) (r : Result Context SetupError)
      → Brings own (cond e (faulty (with_file state status error) cause.TaskFile) (cond b (set_up o (with_file state status error) (Some block) (happening.PioSetUp count to_host)) (heard_out (with_file state status error) block r))).happening
  pio status error count to_host block true b o r = tt
  pio status error count to_host block false true None r = tt
  pio status error count to_host block false true (Some e) r = tt
  pio status error count to_host block false false o (Ok c) = tt
  pio status error count to_host block false false o (Err e) = tt

  activate : (b : Bool) → Brings own (cond b (quietly state happening.Activated) (faulty state cause.Stray)).happening
  activate true = tt
  activate false = tt

  bytes : (after : DeviceSlots) (wrote : Wrote) (o : Option Block) (last : Bool) → BringsFor own wrote → Brings own (heard_bytes after state wrote o last).happening
  bytes after wrote None last x = x
  bytes after wrote (Some b) true x = x
  bytes after wrote (Some b) false x = x

  data_of : (c : Context) → own.context ≡ Some c → (host over s : Bool)
      → Brings own (cond (not host) (faulty state cause.Stray) (cond (not s) (bus_failed state) (cond over (overflowed state)
      (heard_bytes (after_arrive own len) state (record { slot = c.slot; offset = c.next; len = len }) state.block (eqb c.left len))))).happening
  data_of c now false over s = tt
  data_of c now true over false = tt
  data_of c now true true true = tt
  data_of c now true false true =
      bytes (after_arrive own len) (record { slot = c.slot; offset = c.next; len = len }) state.block (eqb c.left len) (record { context = c; now = now; slot = refl })

  data_fis : Brings own (heard_data own state sound len).happening
  data_fis = by_context own.context refl
    where
      by_context : (o : Option Context) → own.context ≡ o → Brings own (match_some o (faulty state cause.Stray) (heard_data_of own state sound len)).happening
      by_context None now = tt
      by_context (Some c) now = data_of c now c.to_host (nat_lt c.left len) sound

fis_brings : (own : DeviceSlots) (state : DeviceState) (sound : Bool) (fis : Fis) → Brings own (heard_fis own state sound fis).happening
unfolding heard_fis
fis_brings own state sound (view.RegD2H f) = register own state sound 0 (field table.D2h table.Status f) (field table.D2h table.Error f) state.resetting
fis_brings own state sound (view.SetBits f) = bits own state sound 0 (field table.Bits table.Status f) (field table.Bits table.Error f) (field table.Bits table.SActive f) (is_error (field table.Bits table.Status f))
fis_brings own state sound (view.DmaActivate f) = activate own state sound 0 (may_activate own.context)
fis_brings own state sound (view.DmaSetup f) =
    setup own state sound 0 (dma_context (tag_of f) (field table.Setup table.Offset f) (field table.Setup table.Count f) (eqb (field table.Setup table.D f) 1) (eqb (field table.Setup table.A f) 1))
    (setup_fault (own_issue own (tag_of f)) (field table.Setup table.Offset f) (field table.Setup table.Count f) (eqb (field table.Setup table.D f) 1))
fis_brings own state sound (view.PioSetup f) =
    pio own state sound 0 (field table.Pio table.Status f) (field table.Pio table.Error f) (field table.Pio table.Transfer f) (eqb (field table.Pio table.D f) 1) (block_of f) (is_error (field table.Pio table.Status f))
    (is_some (sent_pio own)) (pio_fault (pio_issue own) (field table.Pio table.Transfer f) (eqb (field table.Pio table.D f) 1)) (out_setup own (field table.Pio table.Transfer f) (eqb (field table.Pio table.D f) 1))
fis_brings own state sound (view.Payload f) = data_fis own state sound (length f - 4)
fis_brings own state sound other = tt

decided_brings : (dev : ℕ) (v : DeviceView) (room : Room) (fis : Option Fis) → Brings v.slots (decided dev v room fis).happening
unfolding heard_within
decided_brings dev v room None = tt
decided_brings dev v NoTable (Some fis) = fis_brings v.slots v.state false fis
decided_brings dev v Whole (Some fis) = fis_brings v.slots v.state true fis
decided_brings dev v (Bytes total) (Some fis) = by (is_past total v.slots.context fis)
  where
    by : (b : Bool) → Brings v.slots (if b then overflowed v.state else heard_fis v.slots v.state true fis).happening
    by true = tt
    by false = fis_brings v.slots v.state true fis

-- ---- reports

brought : (own : DeviceSlots) (h : Happening) → Brings own h → IfSome (wrote_by h) (BringsFor own)
brought own happening.Nothing x = tt
brought own (happening.Answered a) x = tt
brought own (happening.Named mask) x = tt
brought own (happening.SetUp c) x = tt
brought own (happening.PioSetUp count to_host) x = tt
brought own happening.Activated x = tt
brought own (happening.Carried wrote finishes) x = x

pub of_issue : (port : Port) (dev : ℕ) (wrote : Wrote) → IsTable port.slots → BringsFor (view_of dev port).slots wrote → IsOfIssue port wrote
of_issue port dev wrote ok b =
    let context : IsContext dev port.slots b.context = subst (λ (o : Option Context). MatchOption o (Unit {0}) (IsContext dev port.slots)) b.now (ok.contexts dev) in
    record { below = subst (λ (s : ℕ). s < 32) (sym b.slot) context.0; busy = subst (λ (s : ℕ). is_some (issue_at port.slots s) ≡ true) (sym b.slot) (there (issue_at port.slots b.context.slot) context.1) }
  where
    there : (o : Option Issue) → MatchOption o ⊥ (IsContextOf dev b.context) → is_some o ≡ true
    there None x = absurd x
    there (Some i) x = refl

of_issues : (port : Port) (dev : ℕ) (o : Option Wrote) → IsTable port.slots → IfSome o (BringsFor (view_of dev port).slots) → IfSome o (IsOfIssue port)
of_issues port dev None ok b = tt
of_issues port dev (Some wrote) ok b = of_issue port dev wrote ok b

pub decided_wrote : (old new : Port) (dev : ℕ) (room : Room) (fis : Option Fis) (report : TakeReport) → IsTable old.slots → Decides old dev room fis report new → IfSome report.wrote (IsOfIssue old)
unfolding heard_report
decided_wrote old new dev room fis report ok h =
    let h_now : Heard = decided dev (view_of dev old) room fis in
    subst (λ (o : Option Wrote). IfSome o (IsOfIssue old)) (sym (ap (λ (r : TakeReport). r.wrote) h.reports))
    (of_issues old dev (wrote_by h_now.happening) ok (brought (view_of dev old).slots h_now.happening (decided_brings dev (view_of dev old) room fis)))

pub passed_wrote : (old new : Port) (dev : ℕ) (report : TakeReport) → Passes dev old report new → report.wrote ≡ None
passed_wrote old new dev report h = ap (λ (r : TakeReport). r.wrote) h.reports

pub greeted_wrote : (old new : Port) (dev : ℕ) (o : Option (List ℕ)) (report : TakeReport) → Greets old dev o report new → report.wrote ≡ None
unfolding heard_report
greeted_wrote old new dev None report h = ap (λ (r : TakeReport). r.wrote) h.reports
greeted_wrote old new dev (Some f) report h = ap (λ (r : TakeReport). r.wrote) h.reports
