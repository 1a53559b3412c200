-- The bytes that a report tells of are of the device that owns their slot, and lie within what its command moves.
use Rattle.std.proofs.Common.{◌≡◌, ℕ, ◌+◌, ◌-◌, ◌<◌, ◌≤◌, ◌%◌, ◌&&◌, Bool, true, false, cond, eqb, List, length, refl, sym, ap, subst, ◌∙◌, arith}
use Rattle.std.proofs.{Common.{Option, Some, None}, lemmas.Bool.{and_parts, false≢true, leb-true, ltb-false}}
use Rattle.std.specs.Prelude.{◌==◌, ◌||◌, MatchOption, IfSome, is_some, not, nat_le, nat_lt, if◌then◌else◌, Result, Ok, Err}
use Rattle.fis_view.specs.{Frames.IsFrame, Seen.{kind_of, may_have, seen, view_as}, Table.{Kind, Data, field}, declared.view.Fis.Fis}
use Rattle.fis_view.specs.declared.view.FisFault.{FisFault, TheVariants.WrongLength}
use Rattle.fis_view.specs.Table as table
use Rattle.fis_view.specs.declared.view.Fis.TheVariants as view
use Rattle.guest_fetch.specs.{Commands.Fetched, Places.room_at}
use Rattle.hba_commands.specs.declared.command.Command.{Command}
use Rattle.port_errors.specs.declared.cause.DeviceCause.TheVariants as cause
use Rattle.slots.specs.{Commands.{answer_of, completed}, Data.{after_arrive, may_activate, receiving_slot}, Setup.{dma_context, out_setup, pio_fault}}
use Rattle.slots.specs.{Setup.{pio_issue, setup_fault}, Slots.{DeviceSlots, Issue, issue_at, match_some, own_issue, sent_pio}, Table.IsContext}
use Rattle.slots.specs.{Table.{IsContextOf, IsIssue}, declared.{answer.SetupError.SetupError, table.Context.Context}}
use Rattle.hba_fbs.specs.{Deciding.{Decides, Passes, decided, heard_within, is_past}, Greeting.{Greets, greeted_in}, Hearing.{answered, block_of}}
use Rattle.hba_fbs.specs.Hearing.{bus_failed, faulty, heard_bytes, heard_d2h, heard_data, heard_data_of, heard_fis, heard_out, is_admitted, named}
use Rattle.hba_fbs.specs.{Hearing.{overflowed, quietly, set_up, tag_of}, Status.{after_reset, is_busy, is_error, with_bits, with_file}}
use Rattle.hba_fbs.specs.{Taking.{admitted, heard_report, ignores, port_of, wrote_by}, Views.{DeviceView, HaveCommands, Port, last_command, view_of}}
use Rattle.hba_fbs.specs.declared.{hearing.{Happening.Happening, Heard.Heard}, report.{TakeReport.TakeReport, Wrote.Wrote}, room.Room.Room}
use Rattle.hba_fbs.specs.declared.{room.Room.TheVariants.{Bytes, NoTable, Whole}, state.DeviceState.DeviceState, status.Block.Block}
use Rattle.hba_fbs.specs.declared.hearing.Happening.TheVariants as happening
use Rattle.ahci_controller.specs.{Rules.IsOffered, States.{ControllerState, cursor, kept}, Taking.{CoreHearsIf, is_overflow, part_in, part_of}}
use Rattle.ahci_controller.specs.{Taking.{payload_of, room_for}, declared.taking.Took.Took}
use Rattle.controller_laws.specs.{Carrying.{DataIsOwn, DataIsWhole, IsOwnData, IsWholeData}, Events.{IsController, Takes}}

-- it is of the device's last setup, and as long as the payload
record BringsNext (own : DeviceSlots) (len : ℕ) (wrote : Wrote) : Type 0 where
  context : Context
  now : own.context ≡ Some context
  slot : wrote.slot ≡ context.slot
  offset : wrote.offset ≡ context.next
  is : wrote.len ≡ len
  few : len ≤ context.left

abbrev Brings : DeviceSlots → ℕ → Happening → Type 0
Brings own len (happening.Carried wrote finishes) = BringsNext own len wrote
Brings own len other = Unit {0}

module _ (own : DeviceSlots) (state : DeviceState) (len : ℕ) where
  d2h : (status error : ℕ) (e b : Bool)
      → Brings own len (cond e (faulty (with_file state status error) cause.TaskFile) (cond b (quietly (with_file state status error) happening.Nothing) (answered (answer_of own) (with_file state status error)))).happening
  d2h status error true b = tt
  d2h status error false true = tt
  d2h status error false false = tt

  register : (status error : ℕ) (resetting : Bool) → Brings own len (cond resetting (quietly (after_reset state status error) happening.Nothing) (heard_d2h own state status error)).happening
  register status error true = tt
  register status error false = d2h status error (is_error status) (is_busy status)

  bits : (status error mask : ℕ) (e : Bool) → Brings own len (cond e (faulty (with_bits state status error) cause.TaskFile) (named (completed mask own) (with_bits state status error) mask)).happening
  bits status error mask true = tt
  bits status error mask false = tt

  setup : (c : Context) (o : Option SetupError) → Brings own len (set_up o state None (happening.SetUp c)).happening
  setup c None = tt
  setup c (Some e) = tt

  pio : (status error count : ℕ) (to_host : Bool) (block : Block) (e b : Bool) (o : Option SetupError) (r : Result Context SetupError)
      → Brings own len (cond e (faulty (with_file state status error) cause.TaskFile) (cond b (set_up o (with_file state status error) (Some block) (happening.PioSetUp count to_host)) (heard_out (with_file state status error) block r))).happening
  pio status error count to_host block true b o r = tt
  pio status error count to_host block false true None r = tt
  pio status error count to_host block false true (Some e) r = tt
  pio status error count to_host block false false o (Ok c) = tt
  pio status error count to_host block false false o (Err e) = tt

  activate : (b : Bool) → Brings own len (cond b (quietly state happening.Activated) (faulty state cause.Stray)).happening
  activate true = tt
  activate false = tt

  bytes : (after : DeviceSlots) (wrote : Wrote) (o : Option Block) (last : Bool) → BringsNext own len wrote → Brings own len (heard_bytes after state wrote o last).happening
  bytes after wrote None last x = x
  bytes after wrote (Some b) true x = x
  bytes after wrote (Some b) false x = x

  data_of : (c : Context) → own.context ≡ Some c → (host over s : Bool) → nat_lt c.left len ≡ over
      → Brings own len (cond (not host) (faulty state cause.Stray) (cond (not s) (bus_failed state) (cond over (overflowed state)
      (heard_bytes (after_arrive own len) state (record { slot = c.slot; offset = c.next; len = len }) state.block (eqb c.left len))))).happening
  data_of c now false over s is = tt
  data_of c now true over false is = tt
  data_of c now true true true is = tt
  data_of c now true false true is =
      bytes (after_arrive own len) (record { slot = c.slot; offset = c.next; len = len }) state.block (eqb c.left len) (record { context = c; now = now; slot = refl; offset = refl; is = refl; few = ltb-false c.left len is })

  data_fis : (sound : Bool) → Brings own len (heard_data own state sound len).happening
  data_fis sound = by_context own.context refl
    where
      by_context : (o : Option Context) → own.context ≡ o → Brings own len (match_some o (faulty state cause.Stray) (heard_data_of own state sound len)).happening
      by_context None now = tt
      by_context (Some c) now = data_of c now c.to_host (nat_lt c.left len) sound refl

-- the length is that of the payload, where there is one
abbrev HasLength : Fis → ℕ → Type 0
HasLength (view.Payload f) len = length f - 4 ≡ len
HasLength other len = Unit {0}

fis_brings : (own : DeviceSlots) (state : DeviceState) (sound : Bool) (fis : Fis) (len : ℕ) → HasLength fis len → Brings own len (heard_fis own state sound fis).happening
unfolding heard_fis
fis_brings own state sound (view.RegD2H f) len h = register own state len (field table.D2h table.Status f) (field table.D2h table.Error f) state.resetting
fis_brings own state sound (view.SetBits f) len h = bits own state len (field table.Bits table.Status f) (field table.Bits table.Error f) (field table.Bits table.SActive f) (is_error (field table.Bits table.Status f))
fis_brings own state sound (view.DmaActivate f) len h = activate own state len (may_activate own.context)
fis_brings own state sound (view.DmaSetup f) len h =
    setup own state len (dma_context (tag_of f) (field table.Setup table.Offset f) (field table.Setup table.Count f) (eqb (field table.Setup table.D f) 1) (eqb (field table.Setup table.A f) 1))
    (setup_fault (own_issue own (tag_of f)) (field table.Setup table.Offset f) (field table.Setup table.Count f) (eqb (field table.Setup table.D f) 1))
fis_brings own state sound (view.PioSetup f) len h =
    pio own state len (field table.Pio table.Status f) (field table.Pio table.Error f) (field table.Pio table.Transfer f) (eqb (field table.Pio table.D f) 1) (block_of f) (is_error (field table.Pio table.Status f))
    (is_some (sent_pio own)) (pio_fault (pio_issue own) (field table.Pio table.Transfer f) (eqb (field table.Pio table.D f) 1)) (out_setup own (field table.Pio table.Transfer f) (eqb (field table.Pio table.D f) 1))
fis_brings own state sound (view.Payload f) len h = subst (λ (n : ℕ). Brings own n (heard_data own state sound (length f - 4)).happening) h (data_fis own state (length f - 4) sound)
fis_brings own state sound other len h = tt

abbrev HasLengthIf : Option Fis → ℕ → Type 0
HasLengthIf None len = Unit {0}
HasLengthIf (Some fis) len = HasLength fis len

decided_brings : (dev : ℕ) (v : DeviceView) (room : Room) (fis : Option Fis) (len : ℕ) → HasLengthIf fis len → Brings v.slots len (decided dev v room fis).happening
unfolding heard_within
decided_brings dev v room None len h = tt
decided_brings dev v NoTable (Some fis) len h = fis_brings v.slots v.state false fis len h
decided_brings dev v Whole (Some fis) len h = fis_brings v.slots v.state true fis len h
decided_brings dev v (Bytes total) (Some fis) len h = by (is_past total v.slots.context fis)
  where
    by : (b : Bool) → Brings v.slots len (if b then overflowed v.state else heard_fis v.slots v.state true fis).happening
    by true = tt
    by false = fis_brings v.slots v.state true fis len h

-- ---- the frame

-- a view of Data shows the frame
payload_by : (kind : Kind) (b : Bool) (f g : List ℕ) → may_have kind (length f) ≡ b → cond b (Ok (view_as kind f)) (Err WrongLength) ≡ Ok (view.Payload g) → g ≡ f
payload_by kind false f g e h = cc
payload_by Data true f g e h = cc
payload_by other true f g e h = cc

payload_is : (f g : List ℕ) → seen f ≡ Ok (view.Payload g) → g ≡ f
unfolding seen
payload_is f g h = payload_by (kind_of f) (may_have (kind_of f) (length f)) f g refl h

fis_length : (frame : List ℕ) (fis : Fis) → seen frame ≡ Ok fis → HasLength fis (length frame - 4)
fis_length frame (view.Payload f) is = ap (λ (g : List ℕ). length g - 4) (payload_is frame f is)
fis_length frame other is = tt

admitted_length : (dev : ℕ) (frame : List ℕ) (r : Result Fis FisFault) → seen frame ≡ r → HasLengthIf (admitted dev r) (length frame - 4)
admitted_length dev frame (Err fault) is = tt
admitted_length dev frame (Ok fis) is = by (is_admitted dev fis)
  where
    by : (b : Bool) → HasLengthIf (if b then Some fis else None) (length frame - 4)
    by true = fis_length frame fis is
    by false = tt

-- ---- the slot

brought : (own : DeviceSlots) (len : ℕ) (h : Happening) → Brings own len h → IfSome (wrote_by h) (BringsNext own len)
brought own len (happening.Carried wrote finishes) x = x
brought own len other x = tt

command_there : (issue : Option Issue) (command : Option Command) (f : Option Fetched) → is_some issue ≡ true → (command ≡ None → issue ≡ None) → IsOffered command f → is_some f ≡ true
command_there issue None f some have offered = absurd (false≢true (sym (ap is_some (have refl)) ∙ some))
command_there issue (Some command) None some have offered = absurd offered
command_there issue (Some command) (Some f) some have offered = refl

of_context : (c : ControllerState) (frame : List ℕ) (wrote : Wrote) (context : Context) → IsController c → (view_of (port_of frame) c.core).slots.context ≡ Some context → wrote.slot ≡ context.slot → 4 + wrote.len ≤ length frame
    → (own : IsOwnData c frame wrote) × (context.next + context.left ≤ own.issue.work.len)
of_context c frame wrote context k now slot few =
    let is : IsContext (port_of frame) c.core.slots context = subst (λ (o : Option Context). MatchOption o (Unit {0}) (IsContext (port_of frame) c.core.slots)) now (k.slots.contexts (port_of frame)) in
    by (issue_at c.core.slots context.slot) refl is.1
  where
    by : (o : Option Issue) → issue_at c.core.slots context.slot ≡ o → MatchOption o ⊥ (IsContextOf (port_of frame) context) → (own : IsOwnData c frame wrote) × (context.next + context.left ≤ own.issue.work.len)
    by None at x = absurd x
    by (Some i) at x =
        let here : issue_at c.core.slots wrote.slot ≡ Some i = ap (issue_at c.core.slots) slot ∙ at in (
          record {
            issue = i;
            is = here;
            own = x.of_dev;
            few = few;
            command = command_there (issue_at c.core.slots wrote.slot) (last_command c.core.commands wrote.slot) (kept c wrote.slot) (ap is_some here) (k.port.commands wrote.slot) (k.rules.kept wrote.slot);
          },
          x.fits,
        )

-- of a report
most_of : (o : Option Issue) (i : Issue) → o ≡ Some i → MatchOption o (Unit {0}) IsIssue → i.work.len ≤ 33554432
most_of o i is ok = (subst (λ (x : Option Issue). MatchOption x (Unit {0}) IsIssue) is ok).work.1

of_report : (c : ControllerState) (frame : List ℕ) (wrote : Wrote) → IsController c → 4 ≤ length frame → BringsNext (view_of (port_of frame) c.core).slots (length frame - 4) wrote → IsWholeData c frame wrote
of_report c frame wrote k long b =
    let len = b.is in
    let o = of_context c frame wrote b.context k b.now b.slot (omega (arith, long, len)) in
    let few = b.few in
    let offset = b.offset in
    let fits = o.1 in
    record {
      own = o.0;
      whole = omega (arith, long, len);
      inside = omega (arith, fits, few, offset, len);
      most = most_of (issue_at c.core.slots wrote.slot) o.0.issue o.0.is (k.slots.issues wrote.slot);
    }

of_contexts : (c : ControllerState) (frame : List ℕ) (o : Option Wrote) → IsController c → 4 ≤ length frame → IfSome o (BringsNext (view_of (port_of frame) c.core).slots (length frame - 4)) → IfSome o (IsWholeData c frame)
of_contexts c frame None k long b = tt
of_contexts c frame (Some wrote) k long b = of_report c frame wrote k long b

pub frame_short : (frame : List ℕ) → IsFrame frame → length frame ≤ 8196
frame_short frame framed =
    let both = and_parts (nat_le 4 (length frame) && nat_le (length frame) 8196) (eqb (length frame % 4) 0) framed in
    leb-true (length frame) 8196 (and_parts (nat_le 4 (length frame)) (nat_le (length frame) 8196) both.0).1

frame_long : (frame : List ℕ) → IsFrame frame → 4 ≤ length frame
frame_long frame framed =
    let both = and_parts (nat_le 4 (length frame) && nat_le (length frame) 8196) (eqb (length frame % 4) 0) framed in
    leb-true 4 (length frame) (and_parts (nat_le 4 (length frame)) (nat_le (length frame) 8196) both.0).0

decided_own : (c : ControllerState) (frame : List ℕ) (report : TakeReport) (new : Port) → IsController c → 4 ≤ length frame → Decides c.core (port_of frame) (room_for c (port_of frame)) (admitted (port_of frame) (seen frame)) report new → IfSome report.wrote (IsWholeData c frame)
unfolding heard_report
decided_own c frame report new k long h =
    let dev : ℕ = port_of frame in
    let fis : Option Fis = admitted dev (seen frame) in
    let heard : Heard = decided dev (view_of dev c.core) (room_for c dev) fis in
    subst (λ (o : Option Wrote). IfSome o (IsWholeData c frame)) (sym (ap (λ (r : TakeReport). r.wrote) h.reports))
    (of_contexts c frame (wrote_by heard.happening) k long (brought (view_of dev c.core).slots (length frame - 4) heard.happening (decided_brings dev (view_of dev c.core) (room_for c dev) fis (length frame - 4) (admitted_length dev frame (seen frame) refl))))

no_wrote : (c : ControllerState) (frame : List ℕ) (report : TakeReport) → report.wrote ≡ None → IfSome report.wrote (IsWholeData c frame)
no_wrote c frame report none = subst (λ (o : Option Wrote). IfSome o (IsWholeData c frame)) (sym none) tt

passed_wrote : (old new : Port) (dev : ℕ) (report : TakeReport) → Passes dev old report new → report.wrote ≡ None
passed_wrote old new dev report h = ap (λ (r : TakeReport). r.wrote) h.reports

greeted_wrote : (old new : Port) (dev : ℕ) (o : Option (List ℕ)) (report : TakeReport) → Greets old dev o report new → report.wrote ≡ None
unfolding heard_report
greeted_wrote old new dev None report h = ap (λ (r : TakeReport). r.wrote) h.reports
greeted_wrote old new dev (Some f) report h = ap (λ (r : TakeReport). r.wrote) h.reports

heard_own : (started ignored : Bool) (c : ControllerState) (frame : List ℕ) (report : TakeReport) (new : Port) → IsController c → 4 ≤ length frame → ignores (port_of frame) c.core frame ≡ ignored → CoreHearsIf started c frame report new → IfSome report.wrote (IsWholeData c frame)
heard_own true true c frame report new k long is h = no_wrote c frame report (passed_wrote c.core new (port_of frame) report (h.ignored is))
heard_own true false c frame report new k long is h = decided_own c frame report new k long (h.heard is)
heard_own false ignored c frame report new k long is h = no_wrote c frame report (greeted_wrote c.core new (port_of frame) _ report h)

-- ---- Data that go past their table

part_few : (f : Fetched) (slot offset len : ℕ) (b : Bool) (frame : List ℕ) (P : Wrote → Type 0) → ((w : Wrote) → w.slot ≡ slot → w.len ≤ len → P w) → IfSome (if b then None else Some (record { slot = slot; offset = offset; len = room_at f.table offset len })) P
part_few f slot offset len true frame P is = tt
part_few f slot offset len false frame P is = is (record { slot = slot; offset = offset; len = room_at f.table offset len }) refl (omega arith)

part_own : (c : ControllerState) (frame : List ℕ) (len : ℕ) (o : Option Context) → IsController c → (view_of (port_of frame) c.core).slots.context ≡ o → 4 + len ≤ length frame
    → IfSome (match_some (receiving_slot o) None (λ slot. match_some (kept c slot) None (λ command. part_in command slot (cursor c (port_of frame)) len))) (IsOwnData c frame)
part_own c frame len None k now few = tt
part_own c frame len (Some context) k now few = by_way context.to_host
  where
    of_command : (o : Option Fetched) → IfSome (match_some o None (λ command. part_in command context.slot (cursor c (port_of frame)) len)) (IsOwnData c frame)
    of_command None = tt
    of_command (Some f) =
        let offset : ℕ = cursor c (port_of frame) in
        part_few f context.slot offset len (room_at f.table offset len == 0 || room_at f.table offset len == len) frame (IsOwnData c frame)
        (λ w same small. (of_context c frame w context k now same (omega (arith, small, few))).0)

    by_way : (b : Bool) → IfSome (match_some (if b then Some context.slot else None) None (λ slot. match_some (kept c slot) None (λ command. part_in command slot (cursor c (port_of frame)) len))) (IsOwnData c frame)
    by_way true = of_command (kept c context.slot)
    by_way false = tt

payload_few : (frame : List ℕ) (r : Result Fis FisFault) → seen frame ≡ r → 4 ≤ length frame → 4 + payload_of r ≤ length frame
payload_few frame (Ok (view.Payload f)) is long = let same = fis_length frame (view.Payload f) is in omega (arith, same, long)
payload_few frame other is long = long

own_of : (c : ControllerState) (frame : List ℕ) (o : Option Wrote) → IfSome o (IsWholeData c frame) → IfSome o (IsOwnData c frame)
own_of c frame None h = tt
own_of c frame (Some w) h = h.own

brought_own : (over : Bool) (c : ControllerState) (frame : List ℕ) (wrote : Option Wrote) → IsController c → 4 ≤ length frame → IfSome wrote (IsWholeData c frame) → IfSome (if over then part_of c (port_of frame) (payload_of (seen frame)) else wrote) (IsOwnData c frame)
brought_own true c frame wrote k long h = part_own c frame (payload_of (seen frame)) (view_of (port_of frame) c.core).slots.context k refl (payload_few frame (seen frame) refl long)
brought_own false c frame wrote k long h = own_of c frame wrote h

report_own : (old new : ControllerState) (frame : List ℕ) (took : Took) → IsController old → Takes old frame took new → IfSome took.report.wrote (IsWholeData old frame)
report_own old new frame took k h =
    heard_own old.core.registers.started (ignores (port_of frame) old.core frame) old frame took.report new.core k (frame_long frame h.framed) refl h.hears.core

pub data_is_own : DataIsOwn
data_is_own old new frame took k h =
    subst (λ (o : Option Wrote). IfSome o (IsOwnData old frame)) (sym h.hears.brought_is) (brought_own (is_overflow took.report.fault) old frame took.report.wrote k (frame_long frame h.framed) (report_own old new frame took k h))

pub data_is_whole : DataIsWhole
data_is_whole old new frame took k h calm =
    subst (λ (o : Option Wrote). IfSome o (IsWholeData old frame)) (sym (h.hears.brought_is ∙ ap (λ (b : Bool). if b then part_of old (port_of frame) (payload_of (seen frame)) else took.report.wrote) calm)) (report_own old new frame took k h)
