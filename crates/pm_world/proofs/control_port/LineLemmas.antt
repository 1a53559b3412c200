-- For `one_order_at_a_time`. Each step of a world keeps what is on its way between its host and its control port.
use Rattle.std.proofs.Common.{◌≡◌, ◌≢◌, ℕ, ◌<◌, ◌==◌, ◌&&◌, Bool, true, false, if◌then◌else◌, All, List, [], ◌∷◌, ◌++◌, Option, Some, None, Ok}
use Rattle.std.proofs.{Common.{length, refl, sym, ◌∙◌, ap, subst, inl, inr, arith}, lemmas.Bool.{cases_Bool, cases_eq, eq-eqb, eqb-true, eqb-false}}
use Rattle.std.proofs.lemmas.Bool.{false≢true, ne_eqb}
use Rattle.std.specs.Prelude.{is_none, MatchOption, MatchBool}
use Rattle.fis_view.specs.{Frames.Stamped, Seen.seen}
use Rattle.fis_view.specs.declared.view.Fis.TheVariants as view
use Rattle.host_memory.specs.Memory.{zeroed}
use Rattle.hba_fbs.specs.{declared.report.TakeReport.TakeReport, Taking.port_of}
use Rattle.pm_ports.specs.Port.{came_refusal, gone_refusal}
use Rattle.pm_control.specs.{Answers.{IsAnswer, answer_to_request}, Requests.request_in}
use Rattle.multiplier.specs.{Arbiter.control_port, Rules.{FromHostRule, ToControl, ToDevice, ToNobody, ToPort, with_device as connected}}
use Rattle.multiplier.specs.{Rules.without_device, State.{PmState, control_stamp, passes_to, pm_port, port_at}, declared.multiplier.Passed.Passed}
use Rattle.multiplier.specs.Between.{Answer as Answers, FromPort, Gives, Notice}
use Rattle.multiplier.specs.declared.multiplier.Passed.TheVariants as passed
use Rattle.multiplier.proofs.Door.{gives}
use Rattle.hba_driver.specs.{declared.mode.Mode.TheVariants.Switching, HostTurns.{Does, Host, HostTurn, Ticks, Took, Pushed, Ticked, Submitted}}
use Rattle.hba_driver.specs.{HostTurns.{Polled, Put}, declared.request.Request.Request as Asked, Slot31.{Asks, Follows31, IsAt31, IsNext31}}
use Rattle.hba_driver.specs.Slot31.{IsNotice31, MayBe31, MayCome31, Pushes31, Resets, Rests, Signs, Stage31, TakesOn, TicksOn, Turns31, Waits}
use Rattle.hba_driver.specs.{Slot31.{is_quiet, orders_clear}, Between.{AreOfTheir, IsGoing}}
use Rattle.hba_driver.proofs.Door.{begins_srst, control_in31, ends_srst, going_opens, going_turn, none_issued, opens31, turn31, turn_addressed}
use Rattle.hba_driver.proofs.Door.{turn_their, zeroed_right}
use Rattle.pm_world.specs.{Attached.Attached, Places.{IsOrderly, Place, Places, Queue, is_config, new_world, with_host}, Rules.CameRule}
use Rattle.pm_world.specs.Rules.{DiskSendRule, DiskTakeRule, GoneRule, HostPushRule, HostTakeRule, InjectRule, OnDevice, OnDeviceAndMultiplier}
use Rattle.pm_world.specs.Rules.{Outcome, PmDownRule, PmFromDeviceRule, PmFromHostRule, PmPresenceRule, PmUpRule, PollRule, PutRule, Rule, Run}
use Rattle.pm_world.specs.{Rules.{SubmitRule, TickRule, recorded}, declared.{link.Change.Change, step.{Config.Config, Step.Step, Answer.Answer}}}
use Rattle.pm_world.specs.Line.{AreNotices, IsClean, IsEnd, IsLine, IsReset, OnLine, OneOrderAtATime, is_register, is_reply}
use Rattle.pm_world.specs.declared.link.Change.TheVariants as change
use Rattle.pm_world.specs.declared.step.Step.TheVariants as step
use Rattle.pm_world.specs.declared.step.Answer.TheVariants as answer
use Rattle.pm_world.proofs.{turns.Delivery.sized, steps.Orderly.{opening_orderly, orderly_after}, upward.PortMarks.{AllHavePortMarks, HasPortMark}}
use Rattle.pm_world.proofs.{upward.PortMarks.{opening_marks, run_marks}, steps.Steps.{at_both, at_device}, control_port.ListLemmas.IsAwaited}
use Rattle.pm_world.proofs.control_port.ListLemmas.{line_app, line_asks, line_begins, line_ends, line_goes, line_passes, line_reply, line_rises}
use Rattle.pm_world.proofs.control_port.ListLemmas.{line_quiet, line_takes, line_up, line_waits, idle_quiet, notices_app, quiet_line}
use Rattle.pm_world.proofs.control_port.SaidLemmas.{answers, asks_end, asks_reset, end_signs, notice_is, reset_silent}

-- ---- a world on its way

pub record IsNow (now : Places) : Type 0 where
  pub going : IsGoing now.host
  pub their : AreOfTheir now.host.port
  pub risen : AllHavePortMarks now.multiplier now.upward.frames
  pub orderly : IsOrderly now
  pub stage : Stage31
  pub is : IsLine stage now

-- the host and what is on its way are as they were
pub record IsKept (old new : Places) : Type 0 where
  pub host : new.host ≡ old.host
  pub down : new.downward ≡ old.downward
  pub waits : new.multiplier.answer ≡ old.multiplier.answer
  pub up : new.upward ≡ old.upward

pub kept_line : (stage : Stage31) (old new : Places) → IsKept old new → IsLine stage old → IsLine stage new
kept_line stage old new k is = record {
  at = subst (IsAt31 stage) (sym k.host) is.at;
  line =
      subst (λ (q : Queue). OnLine stage new.downward.frames new.multiplier.answer q.frames) (sym k.up)
      (subst (λ (o : Option Stamped). OnLine stage new.downward.frames o old.upward.frames) (sym k.waits)
      (subst (λ (q : Queue). OnLine stage q.frames old.multiplier.answer old.upward.frames) (sym k.down) is.line));
  notices = subst (λ (q : Queue). AreNotices q.frames) (sym k.up) is.notices;
}

kept_now : (old new : Places) → IsKept old new → AllHavePortMarks new.multiplier new.upward.frames → IsOrderly new → IsNow old → IsNow new
kept_now old new k risen orderly now = record {
  going = subst IsGoing (sym k.host) now.going;
  their = subst (λ (h : Host). AreOfTheir h.port) (sym k.host) now.their;
  risen = risen;
  orderly = orderly;
  stage = now.stage;
  is = kept_line now.stage old new k now.is;
}

-- ---- steps of the multiplier

recorded_waits : (pm : PmState) (n : ℕ) (c : Change) → (recorded pm n c).answer ≡ pm.answer
recorded_waits pm n (change.Came conn) = by_test (is_none (came_refusal (port_at pm n) conn))
  where
    by_test : (b : Bool) → (if b then connected pm n conn else pm).answer ≡ pm.answer
    by_test true = refl
    by_test false = refl
recorded_waits pm n (change.Gone conn) = by_test (is_none (gone_refusal (port_at pm n) conn))
  where
    by_test : (b : Bool) → (if b then without_device pm n conn else pm).answer ≡ pm.answer
    by_test true = refl
    by_test false = refl

same_waits : (old new : PmState) → new ≡ old → new.answer ≡ old.answer
same_waits old new same = ap (λ (pm : PmState). pm.answer) same

pub presence_waits : (n : ℕ) (place : Place) (pm : PmState) (a : Answer) (after : Place) (left : PmState) → PmPresenceRule n place pm (Ok a) after left → left.answer ≡ pm.answer
presence_waits n place pm answer.Idle after left acts = same_waits pm left acts.2
presence_waits n place pm (answer.Presence p) after left acts = same_waits (recorded pm n acts.2.0) left acts.2.2 ∙ recorded_waits pm n acts.2.0
presence_waits n place pm _ after left acts = absurd acts

pub from_device_waits : (n : ℕ) (place : Place) (pm : PmState) (a : Answer) (after : Place) (left : PmState) → PmFromDeviceRule n place pm (Ok a) after left → left.answer ≡ pm.answer
from_device_waits n place pm answer.Idle after left acts = same_waits pm left acts.2
from_device_waits n place pm answer.Blocked after left acts = same_waits pm left acts.3
from_device_waits n place pm (answer.Offered p true) after left acts = same_waits pm left acts.2.2.1
from_device_waits n place pm (answer.Offered p false) after left acts = ap (λ (q : PmState). q.answer) acts.2.2.2
from_device_waits n place pm _ after left acts = absurd acts

pub down_waits : (n : ℕ) (place : Place) (pm : PmState) (a : Answer) (after : Place) (left : PmState) → PmDownRule n place pm (Ok a) after left → left.answer ≡ pm.answer
down_waits n place pm answer.Idle after left acts = same_waits pm left acts.3
down_waits n place pm answer.Blocked after left acts = same_waits pm left acts.2
down_waits n place pm (answer.Down p) after left acts = ap (λ (q : PmState). q.answer) acts.2.1.1
down_waits n place pm _ after left acts = absurd acts

-- ---- a FIS of the host

pub by_conn : (old new : PmState) (frame : Stamped) (p : Passed) (o : Option ℕ) → MatchOption o (ToNobody old (Ok p) new) (λ conn. ToDevice old (pm_port frame) conn frame (Ok p) new) → new.answer ≡ old.answer
by_conn old new frame passed.Dropped None acts = ap (λ (pm : PmState). pm.answer) acts
by_conn old new frame _ None acts = absurd acts
by_conn old new frame (passed.Down m) (Some conn) acts = ap (λ (pm : PmState). pm.answer) acts.2
by_conn old new frame _ (Some conn) acts = absurd acts

-- the control port takes it
pub heard_line : (stage : Stage31) (down up : List Stamped) (frame : Stamped) (old new : PmState) → pm_port frame ≡ control_port → old.answer ≡ None
    → IsAnswer (answer_to_request old.resetting old.registers (request_in frame.bytes)) (control_stamp old) new.answer → OnLine stage (frame ∷ down) old.answer up → OnLine stage down new.answer up
heard_line stage down up frame old new own none is line =
    line_asks stage down up new.answer frame own
    (λ resets. reset_silent old.resetting old.registers frame.bytes (control_stamp old) new.answer resets is)
    (λ ends. end_signs old.resetting old.registers frame.bytes (control_stamp old) new.answer ends is)
    (answers old.resetting old.registers (request_in frame.bytes) (control_stamp old) new.answer is)
    (subst (λ (o : Option Stamped). OnLine stage (frame ∷ down) o up) none line)

control_passes : (stage : Stage31) (down up : List Stamped) (frame : Stamped) (p : Passed) (old new : PmState) → pm_port frame ≡ control_port → ToControl old frame (Ok p) new → OnLine stage (frame ∷ down) old.answer up → OnLine stage down new.answer up
control_passes stage down up frame passed.Control old new own acts line = heard_line stage down up frame old new own acts.0 acts.1 line
control_passes stage down up frame _ old new own acts line = absurd acts

frame_passes : (stage : Stage31) (down up : List Stamped) (frame : Stamped) (p : Passed) (old new : PmState) → FromHostRule old frame (Ok p) new → OnLine stage (frame ∷ down) old.answer up → OnLine stage down new.answer up
frame_passes stage down up frame p old new rule line = by_port (pm_port frame == control_port) refl rule
  where
    by_port : (b : Bool) → (pm_port frame == control_port) ≡ b → MatchBool b (ToControl old frame (Ok p) new) (ToPort old frame (Ok p) new) → OnLine stage down new.answer up
    by_port true is acts = control_passes stage down up frame p old new (eqb-true (pm_port frame) control_port is) acts line
    by_port false is acts =
        subst (λ (o : Option Stamped). OnLine stage down o up) (sym (by_conn old new frame p (passes_to old (pm_port frame)) acts))
        (line_passes stage down up old.answer frame (eqb-false (pm_port frame) control_port is) line)

host_passes : (stage : Stage31) (link : Queue) (pm : PmState) (a : Answer) (new : Queue) (after : PmState) (up : List Stamped) → PmFromHostRule link pm (Ok a) new after → OnLine stage link.frames pm.answer up → OnLine stage new.frames after.answer up
host_passes stage link pm answer.Idle new after up acts line = rw (acts.1, acts.2) line
host_passes stage link pm answer.Blocked new after up acts line = rw (acts.1, acts.2) line
host_passes stage link pm (answer.Passed p) new after up acts line =
    frame_passes stage new.frames up acts.0.0 p pm after acts.0.2 (subst (λ (frames : List Stamped). OnLine stage frames pm.answer up) acts.0.1 line)
host_passes stage link pm _ new after up acts line = absurd acts

-- ---- a FIS for the host

pub not_reply : (f : Stamped) → f.stamp.port ≢ control_port → is_reply f ≡ false
not_reply f other = ap (λ (b : Bool). b && is_register (seen f.bytes)) (ne_eqb f.stamp.port control_port other)

pub awaited_reply : (stage : Stage31) (f : Stamped) → f.stamp.port ≡ control_port → IsAwaited stage f → is_reply f ≡ true
awaited_reply Signs f port is = ap (λ (b : Bool). b && is_register (seen f.bytes)) (eq-eqb f.stamp.port control_port port) ∙ ap is_register is.viewed
awaited_reply Asks f port is = ap (λ (b : Bool). b && is_register (seen f.bytes)) (eq-eqb f.stamp.port control_port port) ∙ ap is_register is.viewed
awaited_reply other f port is = absurd is

pub notice_no_reply : (f : Stamped) → IsNotice31 f.bytes → is_reply f ≡ false
notice_no_reply f is = ap (λ o. (f.stamp.port == control_port) && is_register o) is.viewed ∙ by_test (f.stamp.port == control_port)
  where
    by_test : (b : Bool) → (b && false) ≡ false
    by_test true = refl
    by_test false = refl

-- what is on its way once a frame went up
record Rose (stage : Stage31) (down : List Stamped) (waits : Option Stamped) (up : List Stamped) : Type 0 where
  pub line : OnLine stage down waits up
  pub notices : AreNotices up

frame_rises : (stage : Stage31) (down up : List Stamped) (frame : Stamped) (old new : PmState) → ((f : Stamped) → old.answer ≡ Some f → f.stamp.port ≡ control_port) → Gives old frame new → OnLine stage down old.answer up → AreNotices up
    → Rose stage down new.answer (up ++ frame ∷ [])
frame_rises stage down up frame old new stamped (FromPort n was next other is stamp shown e) line notices =
    let port : frame.stamp.port ≢ control_port = λ own. other (sym (ap (λ (f : Stamped). f.stamp.port) shown) ∙ own) in
    record {
      line = subst (λ (o : Option Stamped). OnLine stage down o (up ++ frame ∷ [])) (sym (ap (λ (pm : PmState). pm.answer) e)) (line_up stage down up old.answer frame (not_reply frame port) line);
      notices = notices_app up frame notices (λ own. absurd (port own));
    }
frame_rises stage down up frame old new stamped (Notice next due is e) line notices =
    let said : IsNotice31 frame.bytes = notice_is frame.bytes is.0 in
    record {
      line = subst (λ (o : Option Stamped). OnLine stage down o (up ++ frame ∷ [])) (sym (ap (λ (pm : PmState). pm.answer) e)) (line_up stage down up old.answer frame (notice_no_reply frame said) line);
      notices = notices_app up frame notices (λ own other. said);
    }
frame_rises stage down up frame old new stamped (Answers next is e) line notices =
    let port : frame.stamp.port ≡ control_port = stamped frame is in
    let rises : OnLine stage down None (up ++ frame ∷ []) =
    line_rises stage down up frame (awaited_reply stage frame port) (subst (λ (o : Option Stamped). OnLine stage down o up) is line) in
    record {
      line = subst (λ (o : Option Stamped). OnLine stage down o (up ++ frame ∷ [])) (sym (ap (λ (pm : PmState). pm.answer) e)) rises;
      notices = notices_app up frame notices (λ own other.
          absurd (false≢true (sym other ∙ awaited_reply stage frame port (line_waits stage down up frame (subst (λ (o : Option Stamped). OnLine stage down o up) is line)))));
    }

up_rises : (stage : Stage31) (down : List Stamped) (pm : PmState) (link : Queue) (a : Answer) (after : PmState) (new : Queue) → ((f : Stamped) → pm.answer ≡ Some f → f.stamp.port ≡ control_port) → PmUpRule pm link (Ok a) after new
    → OnLine stage down pm.answer link.frames → AreNotices link.frames → Rose stage down after.answer new.frames
up_rises stage down pm link answer.Idle after new stamped acts line notices = rw (acts.2, acts.3) (record { line = line; notices = notices })
up_rises stage down pm link answer.Blocked after new stamped acts line notices = rw (acts.1, acts.2) (record { line = line; notices = notices })
up_rises stage down pm link (answer.Up n) after new stamped acts line notices =
    subst (λ (q : Queue). Rose stage down after.answer q.frames) (sym acts.1.3) (frame_rises stage down link.frames acts.1.0 pm after stamped (gives pm acts.1.0 after acts.1.2) line notices)
up_rises stage down pm link _ after new stamped acts line notices = absurd acts

-- ---- steps of the host

-- what a turn leaves of the host
pub record IsTurned (stage : Stage31) (old : Host) (t : HostTurn) (new : Host) : Type 0 where
  pub going : IsGoing new
  pub their : AreOfTheir new.port
  pub turned : Turns31 stage old t new

pub turned : (stage : Stage31) (old : Host) (t : HostTurn) (new : Host) → Does old t new → IsGoing old → AreOfTheir old.port → IsAt31 stage old → MayBe31 stage t → IsTurned stage old t new
turned stage old t new does g their at may =
    let n : IsGoing new = going_turn old t new does g (control_in31 stage t may) in
    record { going = n; their = turn_their old t new does g.way.sound their; turned = turn31 old g t new n does stage at may }

-- the parts of a world that a turn of the host reaches
record IsHostNow (down : List Stamped) (waits : Option Stamped) (up : List Stamped) (host : Host) : Type 0 where
  pub going : IsGoing host
  pub their : AreOfTheir host.port
  pub stage : Stage31
  pub at : IsAt31 stage host
  pub line : OnLine stage down waits up
  pub notices : AreNotices up

-- a turn that changes nothing on its way
stays_on : (down : List Stamped) (waits : Option Stamped) (up : List Stamped) (old new : Host) (t : HostTurn) (stage : Stage31) → IsTurned stage old t new → ((next : Stage31) → IsNext31 stage old t new next → OnLine next down waits up) → AreNotices up
    → IsHostNow down waits up new
stays_on down waits up old new t stage h line notices =
    record { going = h.going; their = h.their; stage = h.turned.next; at = h.turned.at; line = line h.turned.next h.turned.is; notices = notices }

same_line : (down : List Stamped) (waits : Option Stamped) (up : List Stamped) (stage next : Stage31) → next ≡ stage → OnLine stage down waits up → OnLine next down waits up
same_line down waits up stage next same line = subst (λ (s : Stage31). OnLine s down waits up) (sym same) line

pub tick_line : (down : List Stamped) (waits : Option Stamped) (up : List Stamped) (stage next : Stage31) → TicksOn stage next → OnLine stage down waits up → OnLine next down waits up
tick_line down waits up stage next (inl (inl same)) line = same_line down waits up stage next same line
tick_line down waits up stage next (inl (inr h)) line = quiet_line next down up waits h.1 (line_quiet stage down up waits (idle_quiet stage h.0) line)
tick_line down waits up stage next (inr h) line =
    quiet_line next down up waits (ap is_quiet h.1) (line_quiet stage down up waits (ap is_quiet h.0) line)

-- a frame of the control port that comes may come at its stage
notice_may : (f : Stamped) (s : Stage31) → IsNotice31 f.bytes → MayCome31 s f.bytes
notice_may f Signs is = inl is
notice_may f Asks is = inl is
notice_may f other is = is

awaited_may : (f : Stamped) (s : Stage31) → IsAwaited s f → MayCome31 s f.bytes
awaited_may f Signs is = inr is
awaited_may f Asks is = inr is
awaited_may f other is = absurd is

pub may_come : (stage : Stage31) (down up : List Stamped) (waits : Option Stamped) (f : Stamped) → f.stamp.port ≡ control_port → OnLine stage down waits (f ∷ up) → AreNotices (f ∷ up) → MayCome31 stage f.bytes
may_come stage down up waits f own line notices = elim (cases_Bool (is_reply f)) [
  | inr plain ↦ notice_may f stage (notices.0 own plain)
  | inl reply ↦ awaited_may f stage (line_reply stage down up waits f reply line).0
]

-- what a frame that is taken leaves on its way
module _ (down : List Stamped) (waits : Option Stamped) (up : List Stamped) (f : Stamped) (old new : Host) (report : TakeReport) (stage : Stage31) (port : port_of f.bytes ≡ f.stamp.port) where
  not_both : {P : Type 0} → IsNotice31 f.bytes → seen f.bytes ≡ Ok (view.RegD2H f.bytes) → P
  not_both is viewed = absurd (false≢true (sym (ap is_register is.viewed) ∙ ap is_register viewed))

  notice_stays : (s next : Stage31) → IsNotice31 f.bytes → TakesOn s f.bytes next → next ≡ s
  notice_stays s next is (inl h) = h.0
  notice_stays s next is (inr (quiet, inl h)) = not_both is h.1.viewed
  notice_stays s next is (inr (quiet, inr h)) = not_both is h.1.viewed

  awaited_viewed : (s : Stage31) → IsAwaited s f → seen f.bytes ≡ Ok (view.RegD2H f.bytes)
  awaited_viewed Signs is = is.viewed
  awaited_viewed Asks is = is.viewed
  awaited_viewed other is = absurd is

  reply_quiet : (s next : Stage31) → IsAwaited s f → TakesOn s f.bytes next → is_quiet next ≡ true
  reply_quiet s next is (inl h) = not_both h.1 (awaited_viewed s is)
  reply_quiet s next is (inr h) = h.0

  pub taken_line : (next : Stage31) → IsNext31 stage old (Took f.bytes report) new next → OnLine stage down waits (f ∷ up) → AreNotices (f ∷ up) → OnLine next down waits up
  taken_line next is line notices = elim (cases_eq f.stamp.port control_port) [
    | inr other ↦ same_line down waits up stage next (is.1 (λ own. other (sym port ∙ own))) (line_takes stage down up waits f (not_reply f other) line)
    | inl own ↦ elim (cases_Bool (is_reply f)) [
      | inr plain ↦ same_line down waits up stage next (notice_stays stage next (notices.0 own plain) (is.0 (port ∙ own))) (line_takes stage down up waits f plain line)
      | inl reply ↦
          let r = line_reply stage down up waits f reply line in
          quiet_line next down up waits (reply_quiet stage next r.0 (is.0 (port ∙ own))) (r.1, r.2, r.3)
    ]
  ]

take_line : (down : List Stamped) (waits : Option Stamped) (up : List Stamped) (f : Stamped) (old new : Host) (report : TakeReport) (stage : Stage31) → Does old (Took f.bytes report) new → IsGoing old → AreOfTheir old.port → IsAt31 stage old
    → HasPortMark f → OnLine stage down waits (f ∷ up) → AreNotices (f ∷ up) → IsHostNow down waits up new
take_line down waits up f old new report stage does g their at risen line notices =
    let port : port_of f.bytes ≡ f.stamp.port = risen.pm_port does.framed in
    stays_on down waits up old new (Took f.bytes report) stage (turned stage old (Took f.bytes report) new does g their at (λ own. may_come stage down up waits f (sym port ∙ own) line notices))
    (λ next is. taken_line down waits up f old new report stage port next is line notices) notices.1

-- what a frame that goes out leaves
module _ (down : List Stamped) (waits : Option Stamped) (up : List Stamped) (f : Stamped) (old new : Host) (stage : Stage31) (port : pm_port f ≡ f.stamp.port) (line : OnLine stage down waits up) where
  sent : (next : Stage31) → pm_port f ≡ control_port → Pushes31 stage old f next → OnLine next (down ++ f ∷ []) waits up
  sent next own p = by_way p.follows
    where
      asks_it : (next ≡ Resets) → IsReset f
      asks_it is =
          let s = begins_srst stage old f next p is in
          subst (λ (bytes : List ℕ). request_in bytes ≡ _) (sym p.bytes) (asks_reset p.unsent.fields p.unsent.command.cfis p.unsent.built s.0 s.1)

      ends_it : (next ≡ Signs) → IsEnd f
      ends_it is =
          let s = ends_srst stage old f next p is in
          subst (λ (bytes : List ℕ). request_in bytes ≡ _) (sym p.bytes) (asks_end p.unsent.fields p.unsent.command.cfis p.unsent.built s.0 s.1)

      at_stage : (s : Stage31) → stage ≡ s → OnLine s down waits up
      at_stage s same = subst (λ (x : Stage31). OnLine x down waits up) same line

      as_stage : (s : Stage31) → next ≡ s → OnLine s (down ++ f ∷ []) waits up → OnLine next (down ++ f ∷ []) waits up
      as_stage s same l = subst (λ (x : Stage31). OnLine x (down ++ f ∷ []) waits up) (sym same) l

      by_way : Follows31 stage old.driver.plan.order next → OnLine next (down ++ f ∷ []) waits up
      by_way (inl h) = as_stage Resets h.2 (line_begins down up waits f (asks_it h.2) (at_stage Waits h.0))
      by_way (inr (inl h)) = as_stage Asks h.2 (line_goes down up waits f own (at_stage Waits h.0))
      by_way (inr (inr h)) = as_stage Signs h.2 (line_ends down up waits f own (ends_it h.2) (at_stage Resets h.0))

  pub pushed_line : (next : Stage31) → IsNext31 stage old (Pushed (Some f)) new next → OnLine next (down ++ f ∷ []) waits up
  pushed_line next is = elim (cases_eq f.stamp.port control_port) [
    | inr other ↦ same_line (down ++ f ∷ []) waits up stage next (is.1 other) (line_app stage down up waits f (λ own. other (sym port ∙ own)) line)
    | inl own ↦ sent next (port ∙ own) (is.0 own)
  ]

push_line : (down : List Stamped) (waits : Option Stamped) (up : List Stamped) (f : Stamped) (old new : Host) (stage : Stage31) → Does old (Pushed (Some f)) new → IsGoing old → AreOfTheir old.port → IsAt31 stage old
    → OnLine stage down waits up → AreNotices up → IsHostNow (down ++ f ∷ []) waits up new
push_line down waits up f old new stage does g their at line notices =
    stays_on (down ++ f ∷ []) waits up old new (Pushed (Some f)) stage (turned stage old (Pushed (Some f)) new does g their at tt)
    (λ next is. pushed_line down waits up f old new stage (turn_addressed old (Pushed (Some f)) new does g.way.sound their) line next is) notices

-- ---- each step

now_of : (new : Places) → IsHostNow new.downward.frames new.multiplier.answer new.upward.frames new.host → AllHavePortMarks new.multiplier new.upward.frames → IsOrderly new → IsNow new
now_of new h risen orderly = record { going = h.going; their = h.their; risen = risen; orderly = orderly; stage = h.stage; is = record { at = h.at; line = h.line; notices = h.notices } }

module _ (old : Places) (now : IsNow old) where
  -- a step of the host alone that does nothing
  idle_host : IsHostNow old.downward.frames old.multiplier.answer old.upward.frames old.host
  idle_host = record { going = now.going; their = now.their; stage = now.stage; at = now.is.at; line = now.is.line; notices = now.is.notices }

  idle_as : (host : Host) → host ≡ old.host → IsHostNow old.downward.frames old.multiplier.answer old.upward.frames host
  idle_as host same = subst (IsHostNow old.downward.frames old.multiplier.answer old.upward.frames) (sym same) idle_host

  -- a turn of the host that moves no frame
  quiet_turn : (t : HostTurn) (host : Host) → Does old.host t host → MayBe31 now.stage t → ((next : Stage31) → IsNext31 now.stage old.host t host next → OnLine next old.downward.frames old.multiplier.answer old.upward.frames)
      → IsHostNow old.downward.frames old.multiplier.answer old.upward.frames host
  quiet_turn t host does may line =
      stays_on old.downward.frames old.multiplier.answer old.upward.frames old.host host t now.stage (turned now.stage old.host t host does now.going now.their now.is.at may) line now.is.notices

  same : (next : Stage31) → next ≡ now.stage → OnLine next old.downward.frames old.multiplier.answer old.upward.frames
  same next is = same_line old.downward.frames old.multiplier.answer old.upward.frames now.stage next is now.is.line

  tick_now : (a : Answer) (host : Host) → TickRule old.host (Ok a) host → IsHostNow old.downward.frames old.multiplier.answer old.upward.frames host
  tick_now answer.Idle host acts = idle_as host acts.1
  tick_now answer.Ticked host acts =
      quiet_turn (Ticked true) host acts tt (λ next is. tick_line old.downward.frames old.multiplier.answer old.upward.frames now.stage next is.stays now.is.line)
  tick_now _ host acts = absurd acts

  submit_now : (dev : ℕ) (request : Asked) (a : Answer) (host : Host) → SubmitRule dev request old.host (Ok a) host → IsHostNow old.downward.frames old.multiplier.answer old.upward.frames host
  submit_now dev request (answer.Refused e) host acts = idle_as host acts.1
  submit_now dev request (answer.Submitted ticket) host acts = quiet_turn (Submitted dev request ticket.0) host acts tt (λ next is. same next is)
  submit_now dev request _ host acts = absurd acts

  poll_now : (a : Answer) (host : Host) → PollRule old.host (Ok a) host → IsHostNow old.downward.frames old.multiplier.answer old.upward.frames host
  poll_now answer.Idle host acts = idle_as host acts.1
  poll_now (answer.Polled completion) host acts = quiet_turn (Polled completion) host acts tt (λ next is. same next is)
  poll_now _ host acts = absurd acts

  put_now : (at : ℕ) (bytes : List ℕ) (a : Answer) (host : Host) → PutRule at bytes old.host (Ok a) host → IsHostNow old.downward.frames old.multiplier.answer old.upward.frames host
  put_now at bytes answer.Put host acts = quiet_turn (Put at bytes) host acts.1 tt (λ next is. same next is)
  put_now at bytes _ host acts = absurd acts

  take_now : (a : Answer) (link : Queue) (host : Host) → HostTakeRule old.upward old.host (Ok a) link host → IsHostNow old.downward.frames old.multiplier.answer link.frames host
  take_now answer.Idle link host acts = subst (λ (q : Queue). IsHostNow old.downward.frames old.multiplier.answer q.frames host) (sym acts.1) (idle_as host acts.2)
  take_now (answer.Took port conn number bytes report) link host acts =
      let frame : Stamped = acts.0.0 in
      let does : Does old.host (Took frame.bytes report) host = subst (λ (b : List ℕ). Does old.host (Took b report) host) (sym acts.0.2.bytes_are) acts.2 in
      take_line old.downward.frames old.multiplier.answer link.frames frame old.host host report now.stage does now.going now.their now.is.at
      ((subst (λ (frames : List Stamped). All HasPortMark frames) acts.0.1 now.risen.frames) 0 frame (omega arith))
      (subst (λ (frames : List Stamped). OnLine now.stage old.downward.frames old.multiplier.answer frames) acts.0.1 now.is.line)
      (subst AreNotices acts.0.1 now.is.notices)
  take_now _ link host acts = absurd acts

  push_now : (a : Answer) (host : Host) (link : Queue) → HostPushRule old.host old.downward (Ok a) host link → IsHostNow link.frames old.multiplier.answer old.upward.frames host
  push_now answer.Idle host link acts =
      subst (λ (q : Queue). IsHostNow q.frames old.multiplier.answer old.upward.frames host) (sym acts.2) (quiet_turn (Pushed None) host acts.1.0 tt (λ next is. same next is))
  push_now answer.Blocked host link acts = subst (λ (q : Queue). IsHostNow q.frames old.multiplier.answer old.upward.frames host) (sym acts.2) (idle_as host acts.1)
  push_now answer.Pushed host link acts =
      subst (λ (q : Queue). IsHostNow q.frames old.multiplier.answer old.upward.frames host) (sym acts.1.2)
      (push_line old.downward.frames old.multiplier.answer old.upward.frames acts.1.0 old.host host now.stage acts.1.1 now.going now.their now.is.at now.is.line now.is.notices)
  push_now _ host link acts = absurd acts

  module _ (new : Places) (risen : AllHavePortMarks new.multiplier new.upward.frames) (orderly : IsOrderly new) where
    -- a step of a device alone
    device_now : (n : ℕ) (a : Answer) (R : Place → Outcome → Place → Type 0) → OnDevice old n (Ok a) new R → IsNow new
    device_now n a R rule =
        let at = at_device old n a new R rule in
        kept_now old new (record {
          host = ap (λ (w : Places). w.host) at.new_is;
          down = ap (λ (w : Places). w.downward) at.new_is;
          waits = ap (λ (w : Places). w.multiplier.answer) at.new_is;
          up = ap (λ (w : Places). w.upward) at.new_is;
        }) risen orderly now

    both_now : (n : ℕ) (a : Answer) (R : Place → PmState → Outcome → Place → PmState → Type 0) → ((place after : Place) (left : PmState) → R place old.multiplier (Ok a) after left → left.answer ≡ old.multiplier.answer)
        → OnDeviceAndMultiplier old n (Ok a) new R → IsNow new
    both_now n a R waits rule =
        let at = at_both old n a new R rule in
        kept_now old new (record {
          host = ap (λ (w : Places). w.host) at.new_is;
          down = ap (λ (w : Places). w.downward) at.new_is;
          waits = ap (λ (w : Places). w.multiplier.answer) at.new_is ∙ waits at.place at.after at.left at.rule;
          up = ap (λ (w : Places). w.upward) at.new_is;
        }) risen orderly now

    -- one of the host, or one that moves frames of the control port
    host_now : (down : List Stamped) (waits : Option Stamped) (up : List Stamped) → new.downward.frames ≡ down → new.multiplier.answer ≡ waits → new.upward.frames ≡ up → IsHostNow down waits up new.host → IsNow new
    host_now down waits up d w u h =
        now_of new (subst (λ (x : List Stamped). IsHostNow new.downward.frames new.multiplier.answer x new.host) (sym u) (subst (λ (x : Option Stamped). IsHostNow new.downward.frames x up new.host) (sym w)
        (subst (λ (x : List Stamped). IsHostNow x waits up new.host) (sym d) h))) risen orderly

    aside : new ≡ with_host old new.host → IsHostNow old.downward.frames old.multiplier.answer old.upward.frames new.host → IsNow new
    aside is h =
        host_now old.downward.frames old.multiplier.answer old.upward.frames (ap (λ (w : Places). w.downward.frames) is) (ap (λ (w : Places). w.multiplier.answer) is) (ap (λ (w : Places). w.upward.frames) is) h

    by_step : (s : Step) (a : Answer) → Rule old s (Ok a) new → IsNow new
    by_step (step.Came n) a rule = device_now n a (CameRule n) rule
    by_step (step.Gone n) a rule = device_now n a (GoneRule n) rule
    by_step (step.DiskSend n) a rule = device_now n a (DiskSendRule n) rule
    by_step (step.Inject n bytes) a rule = device_now n a (InjectRule n bytes) rule
    by_step (step.DiskTake n) a rule = device_now n a (DiskTakeRule n) rule
    by_step (step.PmPresence n) a rule = both_now n a (PmPresenceRule n) (λ place after left r. presence_waits n place old.multiplier a after left r) rule
    by_step (step.PmFromDevice n) a rule = both_now n a (PmFromDeviceRule n) (λ place after left r. from_device_waits n place old.multiplier a after left r) rule
    by_step (step.PmDown n) a rule = both_now n a (PmDownRule n) (λ place after left r. down_waits n place old.multiplier a after left r) rule
    by_step step.PmFromHost a rule =
        let host : new.host ≡ old.host = ap (λ (w : Places). w.host) rule.1 in
        let up : new.upward ≡ old.upward = ap (λ (w : Places). w.upward) rule.1 in
        host_now new.downward.frames new.multiplier.answer old.upward.frames refl refl (ap (λ (q : Queue). q.frames) up)
        (subst (IsHostNow new.downward.frames new.multiplier.answer old.upward.frames) (sym host) (record {
          going = now.going;
          their = now.their;
          stage = now.stage;
          at = now.is.at;
          line = host_passes now.stage old.downward old.multiplier a new.downward new.multiplier old.upward.frames rule.0 now.is.line;
          notices = now.is.notices;
        }))
    by_step step.PmUp a rule =
        let host : new.host ≡ old.host = ap (λ (w : Places). w.host) rule.1 in
        let down : new.downward ≡ old.downward = ap (λ (w : Places). w.downward) rule.1 in
        let rose : Rose now.stage old.downward.frames new.multiplier.answer new.upward.frames =
        up_rises now.stage old.downward.frames old.multiplier old.upward a new.multiplier new.upward now.orderly.answer rule.0 now.is.line now.is.notices in
        host_now old.downward.frames new.multiplier.answer new.upward.frames (ap (λ (q : Queue). q.frames) down) refl refl
        (subst (IsHostNow old.downward.frames new.multiplier.answer new.upward.frames) (sym host)
        (record { going = now.going; their = now.their; stage = now.stage; at = now.is.at; line = rose.line; notices = rose.notices }))
    by_step step.HostTake a rule =
        host_now old.downward.frames old.multiplier.answer new.upward.frames (ap (λ (w : Places). w.downward.frames) rule.1) (ap (λ (w : Places). w.multiplier.answer) rule.1) refl (take_now a new.upward new.host rule.0)
    by_step step.HostPush a rule =
        host_now new.downward.frames old.multiplier.answer old.upward.frames refl (ap (λ (w : Places). w.multiplier.answer) rule.1) (ap (λ (w : Places). w.upward.frames) rule.1) (push_now a new.host new.downward rule.0)
    by_step step.Tick a rule = aside rule.1 (tick_now a new.host rule.0)
    by_step (step.Submit dev request) a rule = aside rule.1 (submit_now dev request a new.host rule.0)
    by_step step.Poll a rule = aside rule.1 (poll_now a new.host rule.0)
    by_step (step.Put at bytes) a rule = aside rule.1 (put_now at bytes a new.host rule.0)

pub step_now : (old : Places) (s : Step) (a : Answer) (new : Places) → IsNow old → Rule old s (Ok a) new → IsNow new
step_now old s a new now rule = by_step old now new (run_marks old (s ∷ []) (a ∷ []) new now.risen (new, rule, refl)).1 (orderly_after old s a new now.orderly rule) s a rule

-- ---- a whole run

pub run_now : (old : Places) (steps : List Step) (answers : List Answer) (new : Places) → IsNow old → Run old steps answers new → IsNow new
run_now old [] [] new now run = subst IsNow (sym run) now
run_now old (s ∷ steps) (a ∷ answers) new now run = run_now run.0 steps answers new (step_now old s a run.0 now run.1) run.2
run_now old [] (a ∷ answers) new now run = absurd run
run_now old (s ∷ steps) [] new now run = absurd run

pub opening_now : (units : List Attached) (config : Config) → is_config config (length units) ≡ true → IsNow (new_world config units)
opening_now units config right = record {
  going = going_opens 0 (zeroed config.memory) (zeroed_right config.memory (sized config (length units) right));
  their = λ n s c low busy last. none_issued n s c last;
  risen = opening_marks config units;
  orderly = opening_orderly Switching config units right;
  stage = Rests;
  is = record { at = opens31 0 (zeroed config.memory); line = (tt, refl, tt); notices = tt };
}

-- an order to clear a port is issued when nothing is on its way
pub clears_clean : (now : Places) (i : IsNow now) (n : ℕ) (acted : Bool) (new : Host) → Ticks now.host acted new → orders_clear n now.host ≡ true → IsClean now × (n < 15)
clears_clean now i n acted new does flushed =
    let t : IsTurned i.stage now.host (Ticked acted) new = turned i.stage now.host (Ticked acted) new does i.going i.their i.is.at tt in
    let c = t.turned.is.clears n flushed in
    (line_quiet i.stage now.downward.frames now.upward.frames now.multiplier.answer (idle_quiet i.stage c.3) i.is.line, c.2)

pub one_order_at_a_time : OneOrderAtATime
one_order_at_a_time config units right steps answers now run =
    let n : IsNow now = run_now (new_world config units) steps answers now (opening_now units config right) run in
    record { stage = n.stage; is = n.is; clears = clears_clean now n }
