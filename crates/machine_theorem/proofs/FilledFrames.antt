-- A FIS whose bytes the core writes has not gone past its table: what it brings are all of its bytes, and none that came before.
use Rattle.std.proofs.Common.{◌≡◌, ℕ, ◌+◌, ◌-◌, ◌<◌, ◌≤◌, ◌&&◌, Bool, true, false, List, length, Ok, refl, sym, ap, subst, ◌∙◌, arith, Option, Some}
use Rattle.std.proofs.{Common.None, lemmas.{Bool.{false≢true, ltb-false}, List.{Folds.list_any_at, FromFn.{get_or-range_with_len}}}}
use Rattle.std.proofs.lemmas.List.FromFn.{length-range_with_len}
use Rattle.std.specs.{Prelude.{◌==◌, not, nat_lt, if◌then◌else◌}, List.range_with_len}
use Rattle.fis_view.specs.{Seen.seen, declared.view.Fis.Fis}
use Rattle.fis_view.specs.declared.view.Fis.TheVariants as view
use Rattle.guest_fetch.specs.{Commands.Fetched, Places.reach_of}
use Rattle.port_errors.specs.declared.cause.DeviceCause.TheVariants as cause
use Rattle.slots.specs.{Bytes.{any_over, is_over}, Data.{after_arrive, receiving_slot}, Slots.{DeviceSlots, Issue, issue_at, match_some}}
use Rattle.slots.specs.{Table.{IsContext, IsContextOf, IsTable}, declared.table.Context.Context}
use Rattle.hba_fbs.specs.{Deciding.{Decides, Reaches, decided, goes_past, heard_within, is_past}, Hearing.{bus_failed, faulty, heard_bytes}}
use Rattle.hba_fbs.specs.{Hearing.{heard_data_of, heard_fis, overflowed}, Status.is_error, Taking.{admitted, device_cause, heard_report, ignores}}
use Rattle.hba_fbs.specs.{Taking.{port_of, wrote_by}, Views.{DeviceView, Port, view_of}, declared.{hearing.Heard.Heard, report.TakeReport.TakeReport}}
use Rattle.hba_fbs.specs.declared.{report.Wrote.Wrote, room.Room.{Room, TheVariants.{Bytes, NoTable, Whole}}, state.DeviceState.DeviceState}
use Rattle.hba_fbs.specs.declared.status.Block.{Block}
use Rattle.hba_fbs.specs.declared.hearing.Fault.TheVariants as fault
use Rattle.ahci_controller.specs.{States.{ControllerState, kept}, Taking.{CoreHearsIf, is_overflow, part_of, payload_of, room_for}}
use Rattle.ahci_controller.specs.declared.taking.Took.{Took}
use Rattle.controller_laws.specs.Events as call
use Rattle.controller_laws.specs.Events.{Takes}
use Rattle.machine_theorem.specs.Filled.{BringsNot}
use Rattle.machine_theorem.proofs.{IsData.{BringsNone, fis_none}, SetupCalls.greeted_none, SetupCores.{context_is, match_is}}

-- the bytes, so many, are the next ones of the setup of a device
pub record IsNext (own : DeviceSlots) (count : ℕ) (wrote : Wrote) : Type 0 where
  pub context : Context
  pub is : own.context ≡ Some context
  pub way : context.to_host ≡ true
  pub len : wrote.len ≡ count
  pub slot : wrote.slot ≡ context.slot
  pub from : wrote.offset ≡ context.next
  pub few : wrote.len ≤ context.left

pub record Fits (own : DeviceSlots) (count : ℕ) (over : Bool) (wrote : Wrote) : Type 0 where
  pub whole : over ≡ false
  pub next : IsNext own count wrote

abbrev AllFit : DeviceSlots → ℕ → Heard → Type 0
AllFit own count h = (wrote : Wrote) → wrote_by h.happening ≡ Some wrote → Fits own count (is_overflow (device_cause h.fault)) wrote

none_fit : (own : DeviceSlots) (count : ℕ) (h : Heard) → BringsNone h → AllFit own count h
none_fit own count h none wrote is = absurd (let both = sym none ∙ is in cc)

end_fits : (b : Bool) → is_overflow (device_cause (if b then Some (fault.Device cause.TaskFile) else None)) ≡ false
end_fits true = refl
end_fits false = refl

one_wrote : (own : DeviceSlots) (count : ℕ) (over : Bool) (v w : Wrote) → over ≡ false → IsNext own count v → Some v ≡ Some w → Fits own count over w
one_wrote own count over v w whole next is =
    record { whole = whole; next = subst (λ (x : Wrote). IsNext own count x) (ap (λ (o : Option Wrote). match_some o v (λ x. x)) is) next }

bytes_fit : (own after : DeviceSlots) (count : ℕ) (state : DeviceState) (w : Wrote) (o : Option Block) (last : Bool) → IsNext own count w
    → AllFit own count (heard_bytes after state w o last)
bytes_fit own after count state w None last next wrote is = one_wrote own count false w wrote refl next is
bytes_fit own after count state w (Some block) true next wrote is = one_wrote own count _ w wrote (end_fits (is_error block.ends)) next is
bytes_fit own after count state w (Some block) false next wrote is = one_wrote own count false w wrote refl next is

data_case : (own : DeviceSlots) (state : DeviceState) (c : Context) (count : ℕ) → own.context ≡ Some c → (way lost over last : Bool) → c.to_host ≡ way
    → nat_lt c.left count ≡ over
    → AllFit own count (if not way then faulty state cause.Stray else if lost then bus_failed state else if over then overflowed state
    else heard_bytes (after_arrive own count) state (record { slot = c.slot; offset = c.next; len = count }) state.block last)
data_case own state c count is false lost over last to less = none_fit own count (faulty state cause.Stray) refl
data_case own state c count is true true over last to less = none_fit own count (bus_failed state) refl
data_case own state c count is true false true last to less = none_fit own count (overflowed state) refl
data_case own state c count is true false false last to less =
    bytes_fit own (after_arrive own count) count state (record { slot = c.slot; offset = c.next; len = count }) state.block last
    (record { context = c; is = is; way = to; len = refl; slot = refl; from = refl; few = ltb-false c.left count less })

data_fit : (own : DeviceSlots) (state : DeviceState) (sound : Bool) (count : ℕ) (o : Option Context) → own.context ≡ o
    → AllFit own count (match_some o (faulty state cause.Stray) (heard_data_of own state sound count))
data_fit own state sound count None is = none_fit own count (faulty state cause.Stray) refl
data_fit own state sound count (Some c) is = data_case own state c count is c.to_host (not sound) (nat_lt c.left count) (c.left == count) refl refl

fis_fits : (own : DeviceSlots) (state : DeviceState) (sound : Bool) (fis : Fis) → AllFit own (payload_of (Ok fis)) (heard_fis own state sound fis)
unfolding heard_fis
fis_fits own state sound (view.Payload f) = data_fit own state sound (length f - 4) own.context refl
fis_fits own state sound other = none_fit own 0 (heard_fis own state sound other) (fis_none own state sound other refl)

within_case : (own : DeviceSlots) (state : DeviceState) (fis : Fis) (b : Bool)
    → AllFit own (payload_of (Ok fis)) (if b then overflowed state else heard_fis own state true fis)
within_case own state fis true = none_fit own (payload_of (Ok fis)) (overflowed state) refl
within_case own state fis false = fis_fits own state true fis

abbrev count_in : Option Fis → ℕ
count_in None = 0
count_in (Some fis) = payload_of (Ok fis)

decided_fits : (dev : ℕ) (v : DeviceView) (room : Room) (o : Option Fis) → AllFit v.slots (count_in o) (decided dev v room o)
unfolding heard_within
decided_fits dev v room None = none_fit v.slots 0 (decided dev v room None) refl
decided_fits dev v NoTable (Some fis) = fis_fits v.slots v.state false fis
decided_fits dev v (Bytes total) (Some fis) = within_case v.slots v.state fis (is_past total v.slots.context fis)
decided_fits dev v Whole (Some fis) = fis_fits v.slots v.state true fis

-- ---- they have room

abbrev HasRoom : Room → Heard → Type 0
HasRoom room h = (wrote : Wrote) → wrote_by h.happening ≡ Some wrote → Reaches room (wrote.offset + wrote.len)

none_room : (room : Room) (h : Heard) → BringsNone h → HasRoom room h
none_room room h none wrote is = absurd (let both = sym none ∙ is in cc)

unsound_case : (own : DeviceSlots) (state : DeviceState) (count : ℕ) (o : Option Context)
    → BringsNone (match_some o (faulty state cause.Stray) (heard_data_of own state false count))
unsound_case own state count None = refl
unsound_case own state count (Some c) = by c.to_host
  where
    by : (b : Bool) → BringsNone (if not b then faulty state cause.Stray else bus_failed state)
    by true = refl
    by false = refl

unsound : (own : DeviceSlots) (state : DeviceState) (fis : Fis) → BringsNone (heard_fis own state false fis)
unfolding heard_fis
unsound own state (view.Payload f) = unsound_case own state (length f - 4) own.context
unsound own state other = fis_none own state false other refl

past_case : (total next count : ℕ) (way : Bool) → way ≡ true → (way && nat_lt total (next + count)) ≡ false → next + count ≤ total
past_case total next count true way e = ltb-false total (next + count) e
past_case total next count false way e = absurd (false≢true way)

fis_room : (own : DeviceSlots) (state : DeviceState) (total : ℕ) (fis : Fis) → is_past total own.context fis ≡ false
    → HasRoom (Bytes total) (heard_fis own state true fis)
fis_room own state total (view.Payload f) e wrote is =
    let next = (fis_fits own state true (view.Payload f) wrote is).next in
    let c : Context = next.context in
    let fits = past_case total c.next (length f - 4) c.to_host next.way (ap (λ (o : Option Context). goes_past total o (length f - 4)) (sym next.is) ∙ e) in
    let from = next.from in
    let len = next.len in
    omega (arith, fits, from, len)
fis_room own state total other e wrote is = none_room (Bytes total) (heard_fis own state true other) (fis_none own state true other refl) wrote is

past_room : (own : DeviceSlots) (state : DeviceState) (total : ℕ) (fis : Fis) (b : Bool) → is_past total own.context fis ≡ b
    → HasRoom (Bytes total) (if b then overflowed state else heard_fis own state true fis)
past_room own state total fis true e = none_room (Bytes total) (overflowed state) refl
past_room own state total fis false e = fis_room own state total fis e

decided_room : (dev : ℕ) (v : DeviceView) (room : Room) (o : Option Fis) → HasRoom room (decided dev v room o)
unfolding heard_within
decided_room dev v room None = none_room room (decided dev v room None) refl
decided_room dev v NoTable (Some fis) = none_room NoTable (heard_fis v.slots v.state false fis) (unsound v.slots v.state fis)
decided_room dev v (Bytes total) (Some fis) = past_room v.slots v.state total fis (is_past total v.slots.context fis) refl
decided_room dev v Whole (Some fis) = λ wrote is. tt

-- ---- the report

-- what it says that was brought
pub record IsFine (own : DeviceSlots) (room : Room) (over : Bool) (wrote : Wrote) : Type 0 where
  pub count : ℕ
  pub fits : Fits own count over wrote
  pub room_is : Reaches room (wrote.offset + wrote.len)

report_fits : (old new : Port) (dev : ℕ) (room : Room) (o : Option Fis) (report : TakeReport) → Decides old dev room o report new → (wrote : Wrote)
    → report.wrote ≡ Some wrote → IsFine (view_of dev old).slots room (is_overflow report.fault) wrote
unfolding heard_report
report_fits old new dev room o report h wrote is =
    let says = ap (λ (r : TakeReport). r.wrote) (sym h.reports) ∙ is in
    record {
      count = count_in o;
      fits = subst (λ (b : Bool). Fits (view_of dev old).slots (count_in o) b wrote) (ap (λ (r : TakeReport). is_overflow r.fault) (sym h.reports))
          (decided_fits dev (view_of dev old) room o wrote says);
      room_is = decided_room dev (view_of dev old) room o wrote says;
    }

hears_fit : (started ignored : Bool) (c : ControllerState) (frame : List ℕ) (report : TakeReport) (new : Port) → ignores (port_of frame) c.core frame ≡ ignored
    → CoreHearsIf started c frame report new → (wrote : Wrote) → report.wrote ≡ Some wrote
    → IsFine (view_of (port_of frame) c.core).slots (room_for c (port_of frame)) (is_overflow report.fault) wrote
hears_fit true true c frame report new e h wrote is = absurd (let both = sym is ∙ ap (λ (r : TakeReport). r.wrote) (h.ignored e).reports in cc)
hears_fit true false c frame report new e h wrote is =
    report_fits c.core new (port_of frame) (room_for c (port_of frame)) (admitted (port_of frame) (seen frame)) report (h.heard e) wrote is
hears_fit false ignored c frame report new e h wrote is = absurd (let both = sym is ∙ greeted_none c.core new (port_of frame) _ report h in cc)

-- what the core writes are all bytes of the FIS, and the next ones of a setup
pub wrote_fits : (old new : ControllerState) (frame : List ℕ) (took : Took) → Takes old frame took new → (wrote : Wrote) → took.report.wrote ≡ Some wrote
    → IsFine (view_of (port_of frame) old.core).slots (room_for old (port_of frame)) (is_overflow took.report.fault) wrote
wrote_fits old new frame took h = hears_fit old.core.registers.started (ignores (port_of frame) old.core frame) old frame took.report new.core refl h.hears.core

abbrev of_slot : ControllerState → ℕ → Room
of_slot c slot = match_some (kept c slot) (Bytes 0) (λ f. Bytes (reach_of f.table))

-- and they have places in the table of their slot
pub wrote_reaches : (old new : ControllerState) (frame : List ℕ) (took : Took) → Takes old frame took new → (wrote : Wrote) → took.report.wrote ≡ Some wrote
    → (command : Fetched) → kept old wrote.slot ≡ Some command → wrote.offset + wrote.len ≤ reach_of command.table
wrote_reaches old new frame took h wrote is command has =
    let fine = wrote_fits old new frame took h wrote is in
    let c : Context = fine.fits.next.context in
    let room : room_for old (port_of frame) ≡ Bytes (reach_of command.table) =
    ap (λ (o : Option Context). match_some (receiving_slot o) Whole (of_slot old)) fine.fits.next.is
    ∙ ap (λ (b : Bool). match_some (if b then Some c.slot else None) Whole (of_slot old)) fine.fits.next.way
    ∙ ap (λ (o : Option Fetched). match_some o (Bytes 0) (λ f. Bytes (reach_of f.table))) (ap (kept old) (sym fine.fits.next.slot) ∙ has) in
    subst (λ (r : Room). Reaches r (wrote.offset + wrote.len)) room fine.room_is

-- that is what the FIS brings
pub brought_is : (old new : ControllerState) (frame : List ℕ) (took : Took) → Takes old frame took new → is_overflow took.report.fault ≡ false
    → took.brought ≡ took.report.wrote
brought_is old new frame took h whole =
    h.hears.brought_is ∙ ap (λ (b : Bool). if b then part_of old (port_of frame) (payload_of (seen frame)) else took.report.wrote) whole

pub brings_it : (old new : ControllerState) (frame : List ℕ) (took : Took) → Takes old frame took new → (wrote : Wrote) → took.report.wrote ≡ Some wrote
    → took.brought ≡ Some wrote
brings_it old new frame took h wrote is = brought_is old new frame took h (wrote_fits old new frame took h wrote is).fits.whole ∙ is

-- ---- no byte is brought twice

none_over : (over : List Bool) (from len k : ℕ) → any_over over from len ≡ false → from ≤ k → k < from + len → is_over over k ≡ true → ⊥
unfolding any_over
none_over over from len k none low high is =
    let long = length-range_with_len from len in
    let at : from + (k - from) ≡ k = omega (arith, low) in
    false≢true (sym none ∙ list_any_at (is_over over) (range_with_len from len) (k - from) 0 (omega (arith, long, low, high))
    (ap (is_over over) (get_or-range_with_len from len (k - from) 0 (omega (arith, low, high)) ∙ at) ∙ is))

-- what stands in a slot has come already: so the FIS does not bring it
pub brings_not : (old new : ControllerState) → IsTable old.core.slots → (slot k : ℕ) (frame : List ℕ) (took : Took) → Takes old frame took new → (i : Issue)
    → issue_at old.core.slots slot ≡ Some i → is_over i.over k ≡ true → BringsNot slot k (call.Took frame took)
brings_not old new ok slot k frame took h i is over whole wrote brought named low high =
    let fits = (wrote_fits old new frame took h wrote (sym (brought_is old new frame took h whole) ∙ brought)).fits in
    let c = fits.next.context in
    let there : IsContext (port_of frame) old.core.slots c = context_is (port_of frame) old.core c ok fits.next.is in
    let of = match_is (IsContextOf (port_of frame) c) (issue_at old.core.slots c.slot) there.1 in
    let same : of.0 ≡ i =
    ap (λ (o : Option Issue). match_some o i (λ x. x)) (sym of.1.0 ∙ ap (issue_at old.core.slots) (sym fits.next.slot ∙ named) ∙ is) in
    let fresh : any_over i.over c.next c.left ≡ false = subst (λ (x : Issue). any_over x.over c.next c.left ≡ false) same of.1.1.fresh in
    let from = fits.next.from in
    let few = fits.next.few in
    none_over i.over c.next c.left k fresh (omega (arith, low, from)) (omega (arith, high, from, few)) over
