-- For `core_causes_stay` and `causes_stay`. Which events leave the cause of a fault as it is.
use Rattle.std.proofs.Common.{◌≡◌, ◌≢◌, ℕ, ◌<◌, Bool, true, false, ◌||◌, List, [], ◌∷◌, refl, sym, ap, ◌∙◌, inl, inr, Option, Some, None}
use Rattle.std.proofs.lemmas.Bool.{cases_Bool, cases_eq, eqb-false, eqb-true, false≢true, or_parts, true≢false}
use Rattle.std.specs.{Prelude.{◌==◌, ◌&&◌, if◌then◌else◌, is_none, is_some, not, unwrap_or}, Option.option_map_or}
use Rattle.port_errors.specs.{Errors.{Errors, after_clear, cleared_device, no_errors, without}, declared.cause.{DeviceCause.DeviceCause, Stop.Stop}}
use Rattle.port_errors.specs.declared.cause.PortCause.TheVariants.{Bus}
use Rattle.port_errors.specs.declared.cause.Stop.TheVariants as stop
use Rattle.slots.specs.Slots.{has_bit}
use Rattle.hba_fbs.specs.declared.{register.Register.{Register, TheVariants.{Ci, Cmd, Fbs}}, report.TakeReport.TakeReport, room.Room.Room}
use Rattle.hba_fbs.specs.{declared.turn.Turn.{Turn, TheVariants.{Feeds, Orders, Rests}}, Bits.dec, Choosing.Chooses, Greeting.Greets, Offering.Offer}
use Rattle.hba_fbs.specs.{Offering.{aimed_by, view_by, view_issued_by}, Registers.falls, Sending.{Outgoing, Unreadable, outgoing}}
use Rattle.hba_fbs.specs.{Stopping.{fallen_view, view_commanded}, Taking.{ignores, port_of}, Turning.{Turns, turn_of}, Views.{DeviceView, Port}}
use Rattle.hba_fbs.specs.{Views.{stopped_view, view_of}, Writing.{cleared_by, errors_after, is_device}}
use Rattle.hba_laws.specs.Causes.{DeviceCausesStay, OthersFaultNone, PortCausesStay, clears, clears_port, comes_from}
use Rattle.hba_laws.specs.CoreCauses.{CoreDeviceCausesStay, CoreOthersFaultNone, CorePortCausesStay, clears_all, clears_by, clears_one, is_from}
use Rattle.hba_laws.specs.Cores.{Chose, Commanded, CoreEvent, DoesBy, Failed, Flushed, Gave, Greeted, Hearkens, Hung, Overrode, Placed, StepsBy, Took}
use Rattle.hba_laws.specs.{Cores.{Wrote, core_event, gave_event}, Hosts.{Does, Host, HostEvent}, Isolation.lowers_st}
use Rattle.hba_laws.specs.Hosts as host
use Rattle.hba_laws.proofs.cores.CoreHostLemmas.{hosts_are_cores}

abbrev fault_of : ℕ → Port → Option DeviceCause
fault_of n port = (view_of n port).fault

same_fault : (n : ℕ) (old new : Port) → new ≡ old → fault_of n new ≡ fault_of n old
same_fault n old new is = ap (λ (p : Port). fault_of n p) is

fault_in : (v w : DeviceView) → v ≡ w → v.fault ≡ w.fault
fault_in v w is = ap (λ (x : DeviceView). x.fault) is

-- ---- a FIS is taken

took_apart : (n : ℕ) (old new : Port) (frame : List ℕ) (room : Room) (report : TakeReport) → Hearkens old frame room report new → port_of frame ≢ n → fault_of n new ≡ fault_of n old
took_apart n old new frame room report does apart = elim (cases_Bool (ignores (port_of frame) old frame)) [
  | inl t ↦ same_fault n old new (does.ignored t).port
  | inr f ↦ fault_in (view_of n new) (view_of n old) ((does.heard f).others n (λ e. apart (sym e)))
]

-- a faulty device is not heard
faulty_ignored : (over running resets : Bool) (o : Option DeviceCause) (cause : DeviceCause) → o ≡ Some cause → (over || (not running || is_some o || resets)) ≡ true
faulty_ignored true running resets o cause is = refl
faulty_ignored false false resets o cause is = refl
faulty_ignored false true resets None cause is = cc
faulty_ignored false true resets (Some c) cause is = refl

took_own : (n : ℕ) (cause : DeviceCause) (old new : Port) (frame : List ℕ) (room : Room) (report : TakeReport) → Hearkens old frame room report new → port_of frame ≡ n → fault_of n old ≡ Some cause
    → fault_of n new ≡ fault_of n old
took_own n cause old new frame room report does from is =
    same_fault n old new (does.ignored (faulty_ignored _ _ _ (fault_of (port_of frame) old) cause (ap (λ (k : ℕ). fault_of k old) from ∙ is))).port

-- ---- a register is written

chosen_fault : (b : Bool) (v w : DeviceView) → v.fault ≡ w.fault → (if b then v else w).fault ≡ w.fault
chosen_fault true v w same = same
chosen_fault false v w same = refl

unless_chosen : (b : Bool) (v w : DeviceView) → b ≡ false → (if b then v else w).fault ≡ w.fault
unless_chosen true v w off = absurd (true≢false off)
unless_chosen false v w off = refl

written_fault : (n : ℕ) (register : Register) (port : Port) (value : ℕ) (offer : Offer) → clears_one n port register value ≡ false → lowers_st register port.registers value ≡ false
    → (view_by register port offer value n).fault ≡ fault_of n port
unfolding view_by
written_fault n Cmd port value offer device lowers = unless_chosen (falls port.registers value) (stopped_view (view_of n port)) (view_of n port) lowers
written_fault n Ci port value offer device lowers =
    chosen_fault (n == aimed_by port.registers offer value) (view_issued_by port.registers offer value (view_of n port)) (view_of n port) refl
written_fault n Fbs port value offer device lowers =
    unless_chosen (is_device n (cleared_by port.errors value)) (stopped_view (view_of n port)) (view_of n port) device
written_fault n register port value offer device lowers = refl

-- ---- a frame goes out

sent_fault : (n dev : ℕ) (old new : Port) (view : DeviceView) → view_of dev new ≡ view → view.fault ≡ fault_of dev old → ((other : ℕ) → other ≢ dev → view_of other new ≡ view_of other old)
    → fault_of n new ≡ fault_of n old
sent_fault n dev old new view own same others = elim (cases_eq n dev) [
  | inl e ↦
      ap (λ (k : ℕ). fault_of k new) e ∙ fault_in (view_of dev new) view own ∙ same ∙ sym (ap (λ (k : ℕ). fault_of k old) e)
  | inr apart ↦ fault_in (view_of n new) (view_of n old) (others n apart)
]

turned_fault : (n : ℕ) (t : Turn) (old new : Port) → Turns t old new → fault_of n new ≡ fault_of n old
turned_fault n Rests old new does = same_fault n old new does
turned_fault n (Feeds dev slot offset len) old new does = sent_fault n dev old new _ does.own refl does.others
turned_fault n (Orders dev slot command) old new does = sent_fault n dev old new _ does.own refl does.others

chosen_fault_of : (n : ℕ) (t : Turn) (old new : Port) → Chooses t old new → fault_of n new ≡ fault_of n old
chosen_fault_of n Rests old new does = same_fault n old new does
chosen_fault_of n (Feeds dev slot offset len) old new does = sent_fault n dev old new _ does.own refl does.others
chosen_fault_of n (Orders dev slot command) old new does = sent_fault n dev old new _ does.own refl does.others

-- a port that is stopped takes a FIS
greeted_fault : (n dev : ℕ) (o : Option (List ℕ)) (report : TakeReport) (old new : Port) → Greets old dev o report new → fault_of n new ≡ fault_of n old
greeted_fault n dev None report old new does = same_fault n old new does.port
greeted_fault n dev (Some f) report old new does = sent_fault n dev old new _ does.own refl does.others

-- ---- events

event_fault : (n : ℕ) → n < 16 → (old new : Port) (event : CoreEvent) → DoesBy old event new → is_from n event ≡ false → clears_by n old event ≡ false → fault_of n new ≡ fault_of n old
event_fault n lt old new (Took frame room report) does from none = took_apart n old new frame room report does (eqb-false (port_of frame) n from)
event_fault n lt old new (Wrote register value offer tables) does from none =
    let neither = or_parts (clears_one n old register value) (lowers_st register old.registers value) none in
    fault_in (view_of n new) (view_by register old offer value n) (does.1.views n lt) ∙ written_fault n register old value offer neither.0 neither.1
event_fault n lt old new (Flushed dev) does from none =
    fault_in (view_of n new) (view_of n old) (does.others n (λ e. eqb-false dev n none (sym e)))
event_fault n lt old new (Gave bytes) does from none = turned_fault n (turn_of old) old new does.0
event_fault n lt old new Failed does from none = ap (λ (p : Port). fault_of n p) does
event_fault n lt old new (Placed dev slots offer tables) does from none = sent_fault n dev old new _ does.2.own refl does.2.others
event_fault n lt old new (Chose turn bytes) does from none = chosen_fault_of n turn old new does.1
event_fault n lt old new (Greeted frame report) does from none = greeted_fault n (port_of frame) _ report old new does.1
event_fault n lt old new (Commanded value) does from none =
    fault_in (view_of n new) (view_commanded old value n) (does.1.views n lt) ∙ unless_chosen (falls old.registers value) (fallen_view (view_of n old)) (view_of n old) none
event_fault n lt old new (Overrode dev) does from none = sent_fault n dev old new _ does.own refl does.others
event_fault n lt old new (Hung dev line) does from none = fault_in (view_of n new) (view_of n old) (does.others n (λ e. eqb-false dev n none (sym e)))
event_fault n lt old new other does from none = absurd (true≢false none)

event_keeps : (n : ℕ) → n < 16 → (cause : DeviceCause) (old new : Port) (event : CoreEvent) → DoesBy old event new → clears_by n old event ≡ false → fault_of n old ≡ Some cause
    → fault_of n new ≡ Some cause
event_keeps n lt cause old new event does none is = elim (cases_Bool (is_from n event)) [
  | inl own ↦ own_event event does own ∙ is
  | inr apart ↦ event_fault n lt old new event does apart none ∙ is
]
  where
    own_event : (e : CoreEvent) → DoesBy old e new → is_from n e ≡ true → fault_of n new ≡ fault_of n old
    own_event (Took frame room report) d own = took_own n cause old new frame room report d (eqb-true (port_of frame) n own) is
    own_event other d own = absurd (false≢true own)

-- ---- runs

pub core_device_causes_stay : CoreDeviceCausesStay
core_device_causes_stay n lt cause old new [] run none is = same_fault n old new run ∙ is
core_device_causes_stay n lt cause old new (event ∷ events) run none is =
    core_device_causes_stay n lt cause run.0 new events run.2 none.1 (event_keeps n lt cause old run.0 event run.1 none.0 is)

pub core_others_fault_none : CoreOthersFaultNone
core_others_fault_none n lt old new [] run none = same_fault n old new run
core_others_fault_none n lt old new (event ∷ events) run none =
    let neither = or_parts (is_from n event) (clears_by n old event) none.0 in
    core_others_fault_none n lt run.0 new events run.2 none.1 ∙ event_fault n lt old run.0 event run.1 neither.0 neither.1

-- ---- the port

abbrev stopped_by : Port → Option Stop
stopped_by port = port.errors.port

stopped_ignored : (over started marked resets : Bool) (o : Option Stop) (cause : Stop) → o ≡ Some cause → (over || (not (started && is_none o) || marked || resets)) ≡ true
stopped_ignored true started marked resets o cause is = refl
stopped_ignored false false marked resets o cause is = refl
stopped_ignored false true marked resets None cause is = cc
stopped_ignored false true marked resets (Some c) cause is = refl

cleared_port : (errors : Errors) → (after_clear errors).port ≡ errors.port
cleared_port errors = by_device (cleared_device errors)
  where
    by_device : (o : Option ℕ) → (option_map_or (without errors) o errors).port ≡ errors.port
    by_device None = refl
    by_device (Some dev) = refl

unless_stopped : (b : Bool) (e f : Errors) → b ≡ false → (if b then e else f).port ≡ f.port
unless_stopped true e f off = absurd (true≢false off)
unless_stopped false e f off = refl

either_port : (b : Bool) (e f : Errors) → e.port ≡ f.port → (if b then e else f).port ≡ f.port
either_port true e f same = same
either_port false e f same = refl

written_port : (register : Register) (port : Port) (value : ℕ) → lowers_st register port.registers value ≡ false → (errors_after register port value).port ≡ port.errors.port
unfolding errors_after
written_port Cmd port value none = unless_stopped (falls port.registers value) no_errors port.errors none
written_port Fbs port value none = either_port (has_bit value dec) (after_clear port.errors) port.errors (cleared_port port.errors)
written_port register port value none = refl

port_in : (e f : Errors) → e ≡ f → e.port ≡ f.port
port_in e f is = ap (λ (x : Errors). x.port) is

turned_port : (t : Turn) (cause : Stop) (old new : Port) → Turns t old new → stopped_by old ≡ Some cause → stopped_by new ≡ Some cause
turned_port Rests cause old new does is = ap (λ (p : Port). stopped_by p) does ∙ is
turned_port other cause old new does is = port_in new.errors old.errors does.errors ∙ is

chosen_port : (t : Turn) (cause : Stop) (old new : Port) → Chooses t old new → stopped_by old ≡ Some cause → stopped_by new ≡ Some cause
chosen_port Rests cause old new does is = ap (λ (p : Port). stopped_by p) does ∙ is
chosen_port other cause old new does is = port_in new.errors old.errors does.errors ∙ is

greeted_port : (dev : ℕ) (o : Option (List ℕ)) (report : TakeReport) (cause : Stop) (old new : Port) → Greets old dev o report new → stopped_by old ≡ Some cause → stopped_by new ≡ Some cause
greeted_port dev None report cause old new does is = ap (λ (p : Port). stopped_by p) does.port ∙ is
greeted_port dev (Some f) report cause old new does is = port_in new.errors old.errors does.errors ∙ is

event_stops : (cause : Stop) (old new : Port) (event : CoreEvent) → DoesBy old event new → clears_all old event ≡ false → stopped_by old ≡ Some cause → stopped_by new ≡ Some cause
event_stops cause old new (Took frame room report) does none is =
    ap (λ (p : Port). stopped_by p) (does.ignored (stopped_ignored _ old.registers.started _ _ old.errors.port cause is)).port ∙ is
event_stops cause old new (Wrote register value offer tables) does none is =
    port_in new.errors (errors_after register old value) does.1.errors ∙ written_port register old value none ∙ is
event_stops cause old new (Flushed dev) does none is = port_in new.errors (without old.errors dev) does.errors ∙ is
event_stops cause old new (Gave bytes) does none is = turned_port (turn_of old) cause old new does.0 is
event_stops cause old new Failed does none is = ap (λ (p : Port). stopped_by p) does ∙ ap (λ (o : Option Stop). Some (unwrap_or o (stop.Port Bus))) is
event_stops cause old new (Placed dev slots offer tables) does none is = port_in new.errors old.errors does.2.errors ∙ is
event_stops cause old new (Chose turn bytes) does none is = chosen_port turn cause old new does.1 is
event_stops cause old new (Greeted frame report) does none is = greeted_port (port_of frame) _ report cause old new does.1 is
event_stops cause old new (Commanded value) does none is = port_in new.errors (errors_after Cmd old value) does.1.errors ∙ written_port Cmd old value none ∙ is
event_stops cause old new (Overrode dev) does none is = port_in new.errors old.errors does.errors ∙ is
event_stops cause old new (Hung dev line) does none is = port_in new.errors (without old.errors dev) does.errors ∙ is
event_stops cause old new other does none is = absurd (true≢false none)

pub core_port_causes_stay : CorePortCausesStay
core_port_causes_stay cause old new [] run none is = ap (λ (p : Port). stopped_by p) run ∙ is
core_port_causes_stay cause old new (event ∷ events) run none is =
    core_port_causes_stay cause run.0 new events run.2 none.1 (event_stops cause old run.0 event run.1 none.0 is)

-- ---- hosts

-- An event of the core that is as this one of a host keeps this; so does none.
by_core : (old new : Host) (event : HostEvent) → Does old event new → (Keeps : Type 0) → ((e : CoreEvent) → core_event old event ≡ Some e → DoesBy old.port e new.port → Keeps) → (new.port ≡ old.port → Keeps) → Keeps
by_core old new event does Keeps goes stays = by_event (core_event old event) refl (hosts_are_cores old new event does)
  where
    by_event : (o : Option CoreEvent) → core_event old event ≡ o → StepsBy old.port o new.port → Keeps
    by_event None is same = stays same
    by_event (Some e) is steps = goes e is steps

-- what goes out is no FIS of a device, and clears nothing
gave_keeps : (test : CoreEvent → Bool) (o : Outgoing) (bytes : List ℕ) → test (Gave bytes) ≡ false → test Failed ≡ false → test (gave_event o bytes) ≡ false
gave_keeps test (Unreadable dev) bytes gave failed = failed
gave_keeps test other bytes gave failed = gave

-- what an event of the core is, it is of the host
from_is : (n : ℕ) (old : Host) (event : HostEvent) (e : CoreEvent) → core_event old event ≡ Some e → is_from n e ≡ comes_from n event
from_is n old (host.Took frame report) e is = sym (ap (λ (o : Option CoreEvent). option_map_or (is_from n) o false) is)
from_is n old (host.Wrote register value) e is = sym (ap (λ (o : Option CoreEvent). option_map_or (is_from n) o false) is)
from_is n old (host.Flushed dev) e is = sym (ap (λ (o : Option CoreEvent). option_map_or (is_from n) o false) is)
from_is n old (host.Gave frame) e is = sym (ap (λ (o : Option CoreEvent). option_map_or (is_from n) o false) is) ∙ gave_keeps (is_from n) (outgoing old.port old.memory) _ refl refl
from_is n old other e is = cc

device_is : (n : ℕ) (register : Register) (old : Host) (value : ℕ) → clears n old (host.Wrote register value) ≡ (clears_one n old.port register value || lowers_st register old.port.registers value)
device_is n Fbs old value = refl
device_is n register old value = refl

clears_is : (n : ℕ) (old : Host) (event : HostEvent) (e : CoreEvent) → core_event old event ≡ Some e → clears_by n old.port e ≡ clears n old event
clears_is n old (host.Took frame report) e is = sym (ap (λ (o : Option CoreEvent). option_map_or (clears_by n old.port) o false) is)
clears_is n old (host.Wrote register value) e is = sym (ap (λ (o : Option CoreEvent). option_map_or (clears_by n old.port) o false) is) ∙ sym (device_is n register old value)
clears_is n old (host.Flushed dev) e is = sym (ap (λ (o : Option CoreEvent). option_map_or (clears_by n old.port) o false) is)
clears_is n old (host.Gave frame) e is = sym (ap (λ (o : Option CoreEvent). option_map_or (clears_by n old.port) o false) is) ∙ gave_keeps (clears_by n old.port) (outgoing old.port old.memory) _ refl refl
clears_is n old other e is = cc

all_is : (old : Host) (event : HostEvent) (e : CoreEvent) → core_event old event ≡ Some e → clears_all old.port e ≡ clears_port old event
all_is old (host.Took frame report) e is = sym (ap (λ (o : Option CoreEvent). option_map_or (clears_all old.port) o false) is)
all_is old (host.Wrote register value) e is = sym (ap (λ (o : Option CoreEvent). option_map_or (clears_all old.port) o false) is)
all_is old (host.Flushed dev) e is = sym (ap (λ (o : Option CoreEvent). option_map_or (clears_all old.port) o false) is)
all_is old (host.Gave frame) e is = sym (ap (λ (o : Option CoreEvent). option_map_or (clears_all old.port) o false) is) ∙ gave_keeps (clears_all old.port) (outgoing old.port old.memory) _ refl refl
all_is old other e is = cc

pub device_causes_stay : DeviceCausesStay
device_causes_stay n lt cause old new [] run none is = same_fault n old.port new.port (ap (λ (h : Host). h.port) run) ∙ is
device_causes_stay n lt cause old new (event ∷ events) run none is =
    device_causes_stay n lt cause run.0 new events run.2 none.1
    (by_core old run.0 event run.1 (fault_of n run.0.port ≡ Some cause) (λ e at does. event_keeps n lt cause old.port run.0.port e does (clears_is n old event e at ∙ none.0) is) (λ same. same_fault n old.port run.0.port same ∙ is))

pub others_fault_none : OthersFaultNone
others_fault_none n lt old new [] run none = same_fault n old.port new.port (ap (λ (h : Host). h.port) run)
others_fault_none n lt old new (event ∷ events) run none =
    let neither = or_parts (comes_from n event) (clears n old event) none.0 in
    others_fault_none n lt run.0 new events run.2 none.1
    ∙ by_core old run.0 event run.1 (fault_of n run.0.port ≡ fault_of n old.port)
    (λ e at does. event_fault n lt old.port run.0.port e does (from_is n old event e at ∙ neither.0) (clears_is n old event e at ∙ neither.1)) (same_fault n old.port run.0.port)

pub port_causes_stay : PortCausesStay
port_causes_stay cause old new [] run none is = ap (λ (h : Host). stopped_by h.port) run ∙ is
port_causes_stay cause old new (event ∷ events) run none is =
    port_causes_stay cause run.0 new events run.2 none.1
    (by_core old run.0 event run.1 (stopped_by run.0.port ≡ Some cause) (λ e at does. event_stops cause old.port run.0.port e does (all_is old event e at ∙ none.0) is) (λ same. ap (λ (p : Port). stopped_by p) same ∙ is))
