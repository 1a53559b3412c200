-- For the field `own_port` of `laws`. What stands on the host's link has the PM Port of its stamp, so the device of
-- what is taken is the one at that port. What rises from a port is marked with the port, and what the control port says
-- has PM Port Fh.
use Rattle.std.proofs.Common.{◌≡◌, ℕ, suc, ◌+◌, ◌*◌, ◌/◌, ◌<◌, ◌≤◌, ◌==◌, Bool, true, false, List, [], ◌∷◌, ◌++◌, length, All, Option, Some, None}
use Rattle.std.proofs.{Common.{Result, Ok, Err, refl, sym, ap, ◌∙◌, subst, arith}, lemmas.{List.length-set, List.Elements.{All-nil, All-cons}}}
use Rattle.std.proofs.lemmas.{List.Elements.{All-append}, Option.same_Some}
use Rattle.std.specs.Prelude.{slice_index, is_none, if◌then◌else◌, MatchOption, MatchBool}
use Rattle.fis_view.specs.{Built.{IsBuilt, cut, d2h_given, set_bits_given}, Frames.{Stamped, IsFrame, marked}, Table.{Kind, Name, PmPort, D2h, Bits}}
use Rattle.fis_view.specs.{Table.places, declared.{build.D2hFields.D2hFields, frame.Stamp.Stamp}}
use Rattle.fis_view.proofs.Door.{frame_bounds, port_bits, port_field, port_written}
use Rattle.pm_registers.specs.{RegisterMap.{RegisterMap, after_notice}, declared.words.RegisterError.{RegisterError, TheVariants.NoPort}}
use Rattle.pm_registers.specs.declared.words.RegisterError.TheVariants.{NoRegister}
use Rattle.pm_control.specs.Answers.{IsAnswer, IsNotice, answer_of, answer_to, answer_to_request, notice_fields, read_answer, write_answer}
use Rattle.pm_control.specs.{Requests.request_in, declared.request.Request.{Request, TheVariants.{Read, Write, Unknown, Reset, EndReset}}}
use Rattle.pm_ports.specs.Port.{with_up, came_refusal as port_came_refusal, gone_refusal as port_gone_refusal}
use Rattle.multiplier.specs.{Arbiter.control_port, Rules.{ControlGives, FromHostRule, NextUpRule, PlaceGives, PortGives, ToControl, ToDevice}}
use Rattle.multiplier.specs.{Rules.{ToNobody, ToPort, held_source, may_go_back, with_device as connected, without_device}, State.PmState}
use Rattle.multiplier.specs.State.{control_stamp, counted, held, next_place, passes_to, pm_port, port_at, ready, rising, with_port}
use Rattle.multiplier.specs.declared.multiplier.Passed.{Passed}
use Rattle.multiplier.specs.declared.given.Source.TheVariants as source
use Rattle.multiplier.specs.declared.multiplier.Passed.TheVariants as passed
use Rattle.multiplier.proofs.Door.{served_below}
use Rattle.hba_fbs.specs.{Taking.{Hears, heard_report, ignores, port_of}, Views.Port, declared.report.TakeReport.TakeReport}
use Rattle.host_memory.specs.Memory.{Memory}
use Rattle.hba_driver.specs.{HostTurns.{Host, Tooks}, declared.request.Request.Request as Asked}
use Rattle.pm_world.specs.{Attached.Attached as Device, Places.{Places, Place, Queue, new_world, new_world_in}, Rules.{Outcome, Rule, Run, OnDevice}}
use Rattle.pm_world.specs.Rules.{OnDeviceAndMultiplier, CameActs, GoneActs, DiskSendActs, InjectActs, DiskTakeActs, CameRule, GoneRule, DiskSendRule}
use Rattle.pm_world.specs.Rules.{InjectRule, DiskTakeRule, PmPresenceRule, PmFromDeviceRule, PmDownRule, PmFromHostRule, PmUpRule, HostTakeRule}
use Rattle.pm_world.specs.{Rules.{HostPushRule, TickRule, SubmitRule, PollRule, PutRule, recorded}, Turns.{AreOfTheirPorts, IsOfItsPort}}
use Rattle.pm_world.specs.declared.{link.Change.Change, step.{Config.Config, Step.Step, Answer.Answer}}
use Rattle.pm_world.specs.declared.link.Change.TheVariants as change
use Rattle.pm_world.specs.declared.step.Step.TheVariants as step
use Rattle.pm_world.specs.declared.step.Answer.TheVariants as answer
use Rattle.pm_world.proofs.steps.Steps.{at_device, at_both}

-- ---- a frame

-- the frame has the PM Port of its stamp
pub record HasPortMark (f : Stamped) : Type 0 where
  pub pm_port : IsFrame f.bytes → port_of f.bytes ≡ f.stamp.port

marked_port : (was : List ℕ) (port : ℕ) → port < 16 → IsFrame (marked was port) → port_of (marked was port) ≡ port
marked_port was port low frame =
    let long = (frame_bounds (marked was port) frame).0 in
    let same : length (marked was port) ≡ length was = length-set was 1 (slice_index was 1 / 16 * 16 + port) in
    port_written was (slice_index was 1 / 16 * 16 + port) port (omega (arith, long, same)) (omega arith)

rising_risen : (n : ℕ) (was : Stamped) → n < 16 → HasPortMark (rising n was)
rising_risen n was low = record { pm_port = λ frame. marked_port was.bytes n low frame }

-- a frame that is built has the PM Port that was given
built_port : (kind : Kind) (given : Name → ℕ) (f : List ℕ) → IsBuilt kind given f → port_of f ≡ cut (places kind PmPort) (given PmPort)
built_port kind given f built = sym (port_field kind f ∙ port_bits f) ∙ built.fields PmPort

d2h_cut : cut (places D2h PmPort) 15 ≡ 15
unfolding cut places
d2h_cut = refl

bits_cut : cut (places Bits PmPort) 15 ≡ 15
unfolding cut places
bits_cut = refl

-- ---- the control port

-- these fields have PM Port Fh
abbrev FromControl : Option D2hFields → Type 0
FromControl None = Prim.Unit {0}
FromControl (Some fields) = fields.pm_port ≡ 15

read_control : (r : Result ℕ RegisterError) → (read_answer r).pm_port ≡ 15
read_control (Ok value) = refl
read_control (Err NoPort) = refl
read_control (Err NoRegister) = refl

write_control : (r : Result ℕ RegisterError) → (write_answer r).pm_port ≡ 15
write_control (Ok value) = refl
write_control (Err NoPort) = refl
write_control (Err NoRegister) = refl

answer_control : (mark : Bool) (m : RegisterMap) (request : Request) → FromControl (answer_of mark m request)
answer_control mark m (Read at) = read_control _
answer_control mark m (Write at value) = write_control _
answer_control mark m Unknown = refl
answer_control mark m Reset = tt
answer_control true m EndReset = refl
answer_control false m EndReset = tt

request_control : (mark : Bool) (m : RegisterMap) (request : Option Request) → FromControl (answer_to_request mark m request)
request_control mark m None = tt
request_control mark m (Some request) = answer_control mark m request

-- what the control port answers
said : (fields : Option D2hFields) (stamp : Stamp) (made : Option Stamped) → FromControl fields → stamp.port ≡ 15 → IsAnswer fields stamp made
    → (frame : Stamped) → made ≡ Some frame → HasPortMark frame
said None stamp None control port is frame e = absurd cc
said None stamp (Some other) control port is frame e = absurd is
said (Some fields) stamp None control port is frame e = absurd is
said (Some fields) stamp (Some other) control port is frame e =
    let same : other ≡ frame = same_Some other frame e in
    let here : port_of other.bytes ≡ 15 = built_port D2h (d2h_given fields) other.bytes is.0 ∙ ap (cut (places D2h PmPort)) control ∙ d2h_cut in
    let there : other.stamp.port ≡ 15 = ap (λ (s : Stamp). s.port) is.1 ∙ port in
    subst HasPortMark same (record { pm_port = λ framed. here ∙ sym there })

-- what it tells of its own accord
noticed : (stamp : Stamp) (frame : Stamped) → stamp.port ≡ 15 → IsNotice true stamp (Some frame) → HasPortMark frame
noticed stamp frame port is =
    let here : port_of frame.bytes ≡ 15 = built_port Bits (set_bits_given notice_fields) frame.bytes is.0 ∙ bits_cut in
    let there : frame.stamp.port ≡ 15 = ap (λ (s : Stamp). s.port) is.1 ∙ port in
    record { pm_port = λ framed. here ∙ sym there }

-- ---- the multiplier

-- the answer that waits has the PM Port of its stamp, and a place of the circle was served last
pub record IsRising (pm : PmState) : Type 0 where
  pub served_low : pm.served ≤ 15
  pub answer : (frame : Stamped) → pm.answer ≡ Some frame → HasPortMark frame

same_rising : (old new : PmState) → new.served ≡ old.served → new.answer ≡ old.answer → IsRising old → IsRising new
same_rising old new served same is = record { served_low = rw served is.served_low; answer = λ frame e. is.answer frame (sym same ∙ e) }

none_rising : (new : PmState) → new.served ≤ 15 → new.answer ≡ None → IsRising new
none_rising new low none = record { served_low = low; answer = λ frame e. let wrong : None ≡ Some frame = sym none ∙ e in absurd (cc) }

equal_rising : (old new : PmState) → new ≡ old → IsRising old → IsRising new
equal_rising old new e is = subst IsRising (sym e) is

recorded_rising : (pm : PmState) (n : ℕ) (c : Change) → IsRising pm → IsRising (recorded pm n c)
recorded_rising pm n (change.Came conn) is = by_test (is_none (port_came_refusal (port_at pm n) conn))
  where
    by_test : (b : Bool) → IsRising (if b then connected pm n conn else pm)
    by_test true = same_rising pm (connected pm n conn) refl refl is
    by_test false = is
recorded_rising pm n (change.Gone conn) is = by_test (is_none (port_gone_refusal (port_at pm n) conn))
  where
    by_test : (b : Bool) → IsRising (if b then without_device pm n conn else pm)
    by_test true = same_rising pm (without_device pm n conn) refl refl is
    by_test false = is

control_rising : (old new : PmState) (frame : Stamped) (way : Passed) → IsRising old → ToControl old frame (Ok way) new → IsRising new
control_rising old new frame passed.Control is acts =
    let served : new.served ≡ old.served = ap (λ (pm : PmState). pm.served) acts.2 in
    record {
      served_low = rw served is.served_low;
      answer = said (answer_to old.resetting old.registers frame.bytes) (control_stamp old) new.answer (request_control old.resetting old.registers (request_in frame.bytes)) refl acts.1;
    }
control_rising old new frame _ is acts = absurd acts

device_rising : (old new : PmState) (n conn : ℕ) (frame : Stamped) (way : Passed) → IsRising old → ToDevice old n conn frame (Ok way) new → IsRising new
device_rising old new n conn frame (passed.Down m) is acts =
    same_rising old new (ap (λ (pm : PmState). pm.served) acts.2) (ap (λ (pm : PmState). pm.answer) acts.2) is
device_rising old new n conn frame _ is acts = absurd acts

nobody_rising : (old new : PmState) (way : Passed) → IsRising old → ToNobody old (Ok way) new → IsRising new
nobody_rising old new passed.Dropped is acts = same_rising old new (ap (λ (pm : PmState). pm.served) acts) (ap (λ (pm : PmState). pm.answer) acts) is
nobody_rising old new _ is acts = absurd acts

heard_rising : (old new : PmState) (frame : Stamped) (way : Passed) → IsRising old → FromHostRule old frame (Ok way) new → IsRising new
heard_rising old new frame way is rule = by_port (pm_port frame == control_port) rule
  where
    by_conn : (o : Option ℕ) → MatchOption o (ToNobody old (Ok way) new) (λ conn. ToDevice old (pm_port frame) conn frame (Ok way) new) → IsRising new
    by_conn None acts = nobody_rising old new way is acts
    by_conn (Some conn) acts = device_rising old new (pm_port frame) conn frame way is acts

    by_port : (b : Bool) → MatchBool b (ToControl old frame (Ok way) new) (ToPort old frame (Ok way) new) → IsRising new
    by_port true acts = control_rising old new frame way is acts
    by_port false acts = by_conn (passes_to old (pm_port frame)) acts

-- what the next place gives
pub record Gave (frame : Stamped) (pm : PmState) : Type 0 where
  pub risen : HasPortMark frame
  pub rising : IsRising pm

port_gave : (old new : PmState) (n : ℕ) (frame : Stamped) → n < 16 → IsRising old → PortGives old n frame new → Gave frame new
port_gave old new n frame low is gives = by_held (held old n) gives
  where
    by_held : (o : Option Stamped) → MatchOption o ⊥ (λ was. (was.stamp.port ≡ n) × (frame ≡ rising n was) × (new ≡ record (with_port old n (with_up (port_at old n) None)) { served = n; given = may_go_back old (held_source was) frame })) → Gave frame new
    by_held None acts = absurd acts
    by_held (Some was) acts = record {
      risen = subst HasPortMark (sym acts.1) (rising_risen n was low);
      rising = record { served_low = rw (ap (λ (pm : PmState). pm.served) acts.2) (omega (arith, low)); answer = λ f e. is.answer f (sym (ap (λ (pm : PmState). pm.answer) acts.2) ∙ e) };
    }

control_gave : (old new : PmState) (frame : Stamped) → IsRising old → ControlGives old frame new → Gave frame new
control_gave old new frame is gives = by_due old.registers.due gives
  where
    by_due : (b : Bool) → MatchBool b
        (IsNotice true (control_stamp old) (Some frame) × (new ≡ record old { registers = after_notice old.registers; number = counted old.number; served = control_port; given = may_go_back old source.Notice frame }))
        ((old.answer ≡ Some frame) × (new ≡ record old { answer = None; served = control_port; given = may_go_back old source.Answer frame })) → Gave frame new
    by_due true acts = record {
      risen = noticed (control_stamp old) frame refl acts.0;
      rising = record { served_low = rw (ap (λ (pm : PmState). pm.served) acts.1) (omega arith); answer = λ f e. is.answer f (sym (ap (λ (pm : PmState). pm.answer) acts.1) ∙ e) };
    }
    by_due false acts = record {
      risen = is.answer frame acts.0;
      rising = none_rising new (rw (ap (λ (pm : PmState). pm.served) acts.1) (omega arith)) (ap (λ (pm : PmState). pm.answer) acts.1);
    }

next_gave : (old new : PmState) (frame : Stamped) → IsRising old → NextUpRule old (Ok (Some frame)) new → Gave frame new
next_gave old new frame is rule = by_place (next_place old) refl rule
  where
    by_control : (n : ℕ) (b : Bool) → n < 16 → MatchBool b (ControlGives old frame new) (PortGives old n frame new) → Gave frame new
    by_control n true low acts = control_gave old new frame is acts
    by_control n false low acts = port_gave old new n frame low is acts

    by_place : (o : Option ℕ) → next_place old ≡ o → MatchOption o ⊥ (λ place. PlaceGives old place frame new) → Gave frame new
    by_place None e acts = absurd acts
    by_place (Some n) e acts = by_control n (n == control_port) (served_below (ready old) old.served n is.served_low e) acts

-- ---- each step

-- each frame on the host's link has the PM Port of its stamp, and so has the answer that waits
pub record AllHavePortMarks (pm : PmState) (upward : List Stamped) : Type 0 where
  pub rising : IsRising pm
  pub frames : All HasPortMark upward

all_first : (f : Stamped) (fs : List Stamped) → All HasPortMark (f ∷ fs) → HasPortMark f
all_first f fs h = h 0 f (omega arith)

all_rest : (f : Stamped) (fs : List Stamped) → All HasPortMark (f ∷ fs) → All HasPortMark fs
all_rest f fs h i d lt = h (suc i) d (omega arith)

came_tells : (n : ℕ) (old : Place) (a : Answer) (new : Place) → CameActs n old a new → IsOfItsPort a
came_tells n old (answer.Took port conn number bytes report) new acts = absurd acts
came_tells n old _ new acts = tt

gone_tells : (n : ℕ) (old : Place) (a : Answer) (new : Place) → GoneActs n old a new → IsOfItsPort a
gone_tells n old (answer.Took port conn number bytes report) new acts = absurd acts
gone_tells n old _ new acts = tt

sends_tells : (n : ℕ) (old : Place) (a : Answer) (new : Place) → DiskSendActs n old a new → IsOfItsPort a
sends_tells n old (answer.Took port conn number bytes report) new acts = absurd acts
sends_tells n old _ new acts = tt

inject_tells : (n : ℕ) (given : List ℕ) (old : Place) (a : Answer) (new : Place) → InjectActs n given old a new → IsOfItsPort a
inject_tells n given old (answer.Took port conn number bytes report) new acts = absurd acts
inject_tells n given old _ new acts = tt

disk_take_tells : (n : ℕ) (old : Place) (a : Answer) (new : Place) → DiskTakeActs n old a new → IsOfItsPort a
disk_take_tells n old (answer.Took port conn number bytes report) new acts = absurd acts
disk_take_tells n old _ new acts = tt

push_tells : (host : Host) (link : Queue) (a : Answer) (after : Host) (new : Queue) → HostPushRule host link (Ok a) after new → IsOfItsPort a
push_tells host link (answer.Took port conn number bytes report) after new acts = absurd acts
push_tells host link _ after new acts = tt

tick_tells : (old : Host) (a : Answer) (new : Host) → TickRule old (Ok a) new → IsOfItsPort a
tick_tells old (answer.Took port conn number bytes report) new acts = absurd acts
tick_tells old _ new acts = tt

submit_tells : (dev : ℕ) (request : Asked) (old : Host) (a : Answer) (new : Host) → SubmitRule dev request old (Ok a) new → IsOfItsPort a
submit_tells dev request old (answer.Took port conn number bytes report) new acts = absurd acts
submit_tells dev request old _ new acts = tt

poll_tells : (old : Host) (a : Answer) (new : Host) → PollRule old (Ok a) new → IsOfItsPort a
poll_tells old (answer.Took port conn number bytes report) new acts = absurd acts
poll_tells old _ new acts = tt

put_tells : (at : ℕ) (bytes : List ℕ) (old : Host) (a : Answer) (new : Host) → PutRule at bytes old (Ok a) new → IsOfItsPort a
put_tells at bytes old (answer.Took port conn number given report) new acts = absurd acts
put_tells at bytes old _ new acts = tt

-- what an answer tells is of its port, and the multiplier is as it should be
record Tells (a : Answer) (pm : PmState) : Type 0 where
  tells : IsOfItsPort a
  rising : IsRising pm

presence_tells : (n : ℕ) (old : Place) (pm : PmState) (a : Answer) (new : Place) (after : PmState) → IsRising pm → PmPresenceRule n old pm (Ok a) new after → Tells a after
presence_tells n old pm answer.Idle new after is acts = record { tells = tt; rising = equal_rising pm after acts.2 is }
presence_tells n old pm (answer.Presence p) new after is acts = record { tells = tt; rising = equal_rising (recorded pm n acts.2.0) after acts.2.2 (recorded_rising pm n acts.2.0 is) }
presence_tells n old pm _ new after is acts = absurd acts

from_device_tells : (n : ℕ) (old : Place) (pm : PmState) (a : Answer) (new : Place) (after : PmState) → IsRising pm → PmFromDeviceRule n old pm (Ok a) new after → Tells a after
from_device_tells n old pm answer.Idle new after is acts = record { tells = tt; rising = equal_rising pm after acts.2 is }
from_device_tells n old pm answer.Blocked new after is acts = record { tells = tt; rising = equal_rising pm after acts.3 is }
from_device_tells n old pm (answer.Offered p true) new after is acts = record { tells = tt; rising = equal_rising pm after acts.2.2.1 is }
from_device_tells n old pm (answer.Offered p false) new after is acts =
    let e = acts.2.2.2 in
    record { tells = tt; rising = same_rising pm after (ap (λ (q : PmState). q.served) e) (ap (λ (q : PmState). q.answer) e) is }
from_device_tells n old pm _ new after is acts = absurd acts

down_tells : (n : ℕ) (old : Place) (pm : PmState) (a : Answer) (new : Place) (after : PmState) → IsRising pm → PmDownRule n old pm (Ok a) new after → Tells a after
down_tells n old pm answer.Idle new after is acts = record { tells = tt; rising = equal_rising pm after acts.3 is }
down_tells n old pm answer.Blocked new after is acts = record { tells = tt; rising = equal_rising pm after acts.2 is }
down_tells n old pm (answer.Down p) new after is acts =
    let e = acts.2.1.1 in
    record { tells = tt; rising = same_rising pm after (ap (λ (q : PmState). q.served) e) (ap (λ (q : PmState). q.answer) e) is }
down_tells n old pm _ new after is acts = absurd acts

from_host_tells : (old : Queue) (pm : PmState) (a : Answer) (new : Queue) (after : PmState) → IsRising pm → PmFromHostRule old pm (Ok a) new after → Tells a after
from_host_tells old pm answer.Idle new after is acts = record { tells = tt; rising = equal_rising pm after acts.2 is }
from_host_tells old pm answer.Blocked new after is acts = record { tells = tt; rising = equal_rising pm after acts.2 is }
from_host_tells old pm (answer.Passed way) new after is acts = record { tells = tt; rising = heard_rising pm after acts.0.0 way is acts.0.2 }
from_host_tells old pm _ new after is acts = absurd acts

-- what an answer tells is of its port, and all that stands on the host's link still has the PM Port of its stamp
pub record Rises (a : Answer) (new : Places) : Type 0 where
  pub tells : IsOfItsPort a
  pub risen : AllHavePortMarks new.multiplier new.upward.frames

as_before : (old new : Places) (a : Answer) → AllHavePortMarks old.multiplier old.upward.frames → IsOfItsPort a → IsRising new.multiplier → new.upward ≡ old.upward → Rises a new
as_before old new a risen tells rising upward =
    record { tells = tells; risen = record { rising = rising; frames = subst (λ (link : Queue). All HasPortMark link.frames) (sym upward) risen.frames } }

up_rises : (pm : PmState) (link : Queue) (a : Answer) (after : PmState) (new : Queue) → AllHavePortMarks pm link.frames → PmUpRule pm link (Ok a) after new → IsOfItsPort a × AllHavePortMarks after new.frames
up_rises pm link answer.Idle after new risen acts = (tt, rw (acts.2, acts.3) risen)
up_rises pm link answer.Blocked after new risen acts = (tt, rw (acts.1, acts.2) risen)
up_rises pm link (answer.Up n) after new risen acts =
    let frame = acts.1.0 in
    let gave = next_gave pm after frame risen.rising acts.1.2 in
    let frames : new.frames ≡ link.frames ++ frame ∷ [] = ap (λ (q : Queue). q.frames) acts.1.3 in (
      tt,
      record {
        rising = gave.rising;
        frames = subst (All HasPortMark) (sym frames) (All-append HasPortMark link.frames (frame ∷ []) risen.frames (All-cons HasPortMark frame [] gave.risen (All-nil HasPortMark)));
      },
    )
up_rises pm link _ after new risen acts = absurd acts

-- a report is of the device at the frame's PM Port
heard_dev : (frame : List ℕ) (old : Port) (before : Memory) (report : TakeReport) (new : Port) (after : Memory) → Hears (port_of frame) old before frame report new after → report.dev ≡ port_of frame
unfolding heard_report
heard_dev frame old before report new after hears = ap (λ (r : TakeReport). r.dev) hears.reports

reported : (old : Host) (frame : List ℕ) (report : TakeReport) (new : Host) → Tooks old frame report new → report.dev ≡ port_of frame
reported old frame report new tooks = by_test (ignores (port_of frame) old.port frame) refl
  where
    by_test : (b : Bool) → ignores (port_of frame) old.port frame ≡ b → report.dev ≡ port_of frame
    by_test true e = ap (λ (r : TakeReport). r.dev) (tooks.ignored e).reports
    by_test false e = heard_dev frame old.port old.memory report new.port new.memory (tooks.heard e)

take_rises : (pm : PmState) (link : Queue) (host : Host) (a : Answer) (new : Queue) (after : Host) → AllHavePortMarks pm link.frames → HostTakeRule link host (Ok a) new after → IsOfItsPort a × AllHavePortMarks pm new.frames
take_rises pm link host answer.Idle new after risen acts = (tt, rw acts.1 risen)
take_rises pm link host (answer.Took port conn number bytes report) new after risen acts =
    let frame = acts.0.0 in
    let all : All HasPortMark (frame ∷ new.frames) = subst (All HasPortMark) acts.0.1 risen.frames in
    let told = acts.0.2 in
    let framed : IsFrame frame.bytes = subst IsFrame (sym told.bytes_are) acts.2.framed in
    let here : port_of bytes ≡ port = ap port_of (sym told.bytes_are) ∙ (all_first frame new.frames all).pm_port framed ∙ told.port_is in
    let dev : report.dev ≡ port_of bytes = reported host bytes report after acts.2 in
    ((here, dev ∙ here), record { rising = risen.rising; frames = all_rest frame new.frames all })
take_rises pm link host _ new after risen acts = absurd acts

on_device : (old : Places) (n : ℕ) (a : Answer) (new : Places) (R : Place → Outcome → Place → Type 0) → AllHavePortMarks old.multiplier old.upward.frames
    → ((place after : Place) → R place (Ok a) after → IsOfItsPort a) → OnDevice old n (Ok a) new R → Rises a new
on_device old n a new R risen tells h =
    let p = at_device old n a new R h in
    as_before old new a risen (tells p.place p.after p.rule) (equal_rising old.multiplier new.multiplier (ap (λ (w : Places). w.multiplier) p.new_is) risen.rising) (ap (λ (w : Places). w.upward) p.new_is)

on_both : (old : Places) (n : ℕ) (a : Answer) (new : Places) (R : Place → PmState → Outcome → Place → PmState → Type 0) → AllHavePortMarks old.multiplier old.upward.frames
    → ((place after : Place) (left : PmState) → R place old.multiplier (Ok a) after left → Tells a left) → OnDeviceAndMultiplier old n (Ok a) new R → Rises a new
on_both old n a new R risen tells h =
    let p = at_both old n a new R h in
    let t = tells p.place p.after p.left p.rule in
    as_before old new a risen t.tells (equal_rising p.left new.multiplier (ap (λ (w : Places). w.multiplier) p.new_is) t.rising) (ap (λ (w : Places). w.upward) p.new_is)

on_host : (old new : Places) (a : Answer) → AllHavePortMarks old.multiplier old.upward.frames → IsOfItsPort a → new.multiplier ≡ old.multiplier → new.upward ≡ old.upward → Rises a new
on_host old new a risen tells same upward = as_before old new a risen tells (equal_rising old.multiplier new.multiplier same risen.rising) upward

pub rule_marks : (old : Places) (s : Step) (a : Answer) (new : Places) → AllHavePortMarks old.multiplier old.upward.frames → Rule old s (Ok a) new → Rises a new
rule_marks old (step.Came n) a new risen rule = on_device old n a new (CameRule n) risen (λ place after r. came_tells n place a after r.1) rule
rule_marks old (step.Gone n) a new risen rule = on_device old n a new (GoneRule n) risen (λ place after r. gone_tells n place a after r.1) rule
rule_marks old (step.DiskSend n) a new risen rule = on_device old n a new (DiskSendRule n) risen (λ place after r. sends_tells n place a after r.1) rule
rule_marks old (step.Inject n bytes) a new risen rule = on_device old n a new (InjectRule n bytes) risen (λ place after r. inject_tells n bytes place a after r.1) rule
rule_marks old (step.DiskTake n) a new risen rule = on_device old n a new (DiskTakeRule n) risen (λ place after r. disk_take_tells n place a after r) rule
rule_marks old (step.PmPresence n) a new risen rule = on_both old n a new (PmPresenceRule n) risen (λ place after left r. presence_tells n place old.multiplier a after left risen.rising r) rule
rule_marks old (step.PmFromDevice n) a new risen rule = on_both old n a new (PmFromDeviceRule n) risen (λ place after left r. from_device_tells n place old.multiplier a after left risen.rising r) rule
rule_marks old (step.PmDown n) a new risen rule = on_both old n a new (PmDownRule n) risen (λ place after left r. down_tells n place old.multiplier a after left risen.rising r) rule
rule_marks old step.PmFromHost a new risen rule =
    let t = from_host_tells old.downward old.multiplier a new.downward new.multiplier risen.rising rule.0 in
    as_before old new a risen t.tells t.rising (ap (λ (w : Places). w.upward) rule.1)
rule_marks old step.PmUp a new risen rule =
    let r = up_rises old.multiplier old.upward a new.multiplier new.upward risen rule.0 in
    record { tells = r.0; risen = r.1 }
rule_marks old step.HostTake a new risen rule =
    let r = take_rises old.multiplier old.upward old.host a new.upward new.host risen rule.0 in
    let same : new.multiplier ≡ old.multiplier = ap (λ (w : Places). w.multiplier) rule.1 in
    record { tells = r.0; risen = subst (λ (pm : PmState). AllHavePortMarks pm new.upward.frames) (sym same) r.1 }
rule_marks old step.HostPush a new risen rule = on_host old new a risen (push_tells old.host old.downward a new.host new.downward rule.0) (ap (λ (w : Places). w.multiplier) rule.1) (ap (λ (w : Places). w.upward) rule.1)
rule_marks old step.Tick a new risen rule = on_host old new a risen (tick_tells old.host a new.host rule.0) (ap (λ (w : Places). w.multiplier) rule.1) (ap (λ (w : Places). w.upward) rule.1)
rule_marks old (step.Submit dev request) a new risen rule = on_host old new a risen (submit_tells dev request old.host a new.host rule.0) (ap (λ (w : Places). w.multiplier) rule.1) (ap (λ (w : Places). w.upward) rule.1)
rule_marks old step.Poll a new risen rule = on_host old new a risen (poll_tells old.host a new.host rule.0) (ap (λ (w : Places). w.multiplier) rule.1) (ap (λ (w : Places). w.upward) rule.1)
rule_marks old (step.Put at bytes) a new risen rule = on_host old new a risen (put_tells at bytes old.host a new.host rule.0) (ap (λ (w : Places). w.multiplier) rule.1) (ap (λ (w : Places). w.upward) rule.1)

-- ---- a whole run

pub run_marks : (old : Places) (steps : List Step) (answers : List Answer) (new : Places) → AllHavePortMarks old.multiplier old.upward.frames → Run old steps answers new → All IsOfItsPort answers × AllHavePortMarks new.multiplier new.upward.frames
run_marks old [] [] new risen run = (All-nil IsOfItsPort, rw run risen)
run_marks old (s ∷ steps) (a ∷ answers) new risen run =
    let first = rule_marks old s a run.0 risen run.1 in
    let rest = run_marks run.0 steps answers new first.risen run.2 in
    (All-cons IsOfItsPort a answers first.tells rest.0, rest.1)
run_marks old [] (a ∷ answers) new risen run = absurd run
run_marks old (s ∷ steps) [] new risen run = absurd run

pub opening_marks : (config : Config) (units : List Device) → AllHavePortMarks (new_world config units).multiplier (new_world config units).upward.frames
opening_marks config units = record { rising = none_rising (new_world config units).multiplier (omega arith) refl; frames = All-nil HasPortMark }

pub own_port : (old : Places) (steps : List Step) (answers : List Answer) (new : Places) → Run old steps answers new → AreOfTheirPorts old answers
own_port old steps answers new run mode config units right before told made =
    (run_marks old steps answers new (run_marks (new_world_in mode config units) before told old (opening_marks config units) made).1 run).0
