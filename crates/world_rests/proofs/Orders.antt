-- For `rested_have_done`. While a command to the control port is unanswered, it is on its way there, or its answer on its way back.
use Rattle.std.proofs.Common.{◌≡◌, ◌≢◌, ◌⊎◌, ℕ, ◌==◌, ◌&&◌, ◌||◌, Bool, true, false, List, [], ◌∷◌, ◌++◌, length, refl, sym, ap, subst, ◌∙◌, inl, inr}
use Rattle.std.proofs.{Common.{Option, Some, None, Ok, Err, arith}, lemmas.Bool.{cases_Bool, cases_eq, cases_lt, eq-eqb, false≢true, true≢false}}
use Rattle.std.proofs.lemmas.Option.{same_Some}
use Rattle.std.specs.Prelude.{bit_and, if◌then◌else◌, is_none, is_some, not, MatchBool, MatchOption, Result}
use Rattle.fis_view.specs.{Built.{IsBuilt, cut, d2h_given}, Frames.Stamped, Seen.seen, Table.{Bits, Command, Control, D2h, Error, H2d, PmPort}}
use Rattle.fis_view.specs.{Table.{SActive, Status, field, places}, declared.{build.D2hFields.D2hFields, frame.Stamp.Stamp, view.Fis.Fis}}
use Rattle.fis_view.specs.declared.view.FisFault.{FisFault}
use Rattle.fis_view.specs.declared.view.Fis.TheVariants as view
use Rattle.fis_view.proofs.Door.{port_bits, port_field}
use Rattle.host_memory.specs.Memory.{zeroed}
use Rattle.pm_registers.specs.{RegisterMap.{RegisterMap, read_at}, declared.words.RegisterError.{RegisterError, TheVariants.{NoPort, NoRegister}}}
use Rattle.pm_control.specs.{Answers.{IsAnswer, answer_of as answers_of, answer_to_request, read_answer, refused, write_answer}, Requests.IsCommand}
use Rattle.pm_control.specs.{Requests.{address_in, request_in, request_under, value_in}, declared.request.Request.{Request, TheVariants.Read}}
use Rattle.pm_control.specs.declared.request.Request.TheVariants.{Write, Unknown, Reset, EndReset}
use Rattle.pm_ports.specs.Port.{came_refusal, gone_refusal}
use Rattle.multiplier.specs.{Arbiter.control_port, Between.{Answer as Answers, FromPort, Gives, Notice}, Rules.{FromHostRule, ToControl, ToDevice}}
use Rattle.multiplier.specs.{Rules.{ToNobody, ToPort, with_device as connected, without_device}, State.{PmState, control_stamp, passes_to, pm_port}}
use Rattle.multiplier.specs.{State.port_at, declared.multiplier.Passed.Passed}
use Rattle.multiplier.specs.declared.multiplier.Passed.TheVariants as passed
use Rattle.multiplier.proofs.Door.{gives}
use Rattle.hba_fbs.specs.{declared.report.TakeReport.TakeReport, Status.{after_reset, is_busy}, Taking.{admitted, heard_view, ignores, is_ignored}}
use Rattle.hba_fbs.specs.{Taking.{is_of_transfer, is_running, owns_none, passes_over, port_of, view_after_hearing}, Hearing.{heard_bits, heard_d2h}}
use Rattle.hba_fbs.specs.{Hearing.{heard_fis, heard_register, quietly, signing}, Tables.is_sound, Posting.signs, Views.{DeviceView, Port, view_of}}
use Rattle.hba_fbs.specs.declared.hearing.Happening.TheVariants as happening
use Rattle.slots.specs.{Slots.{DeviceSlots, Issue, own_issue}, Work.{is_queued, needs_all}}
use Rattle.hba_driver.specs.{declared.request.Request.Request as Wanted, Between.{AreOfTheir, IsGoing}, Going.IsOfControl, HostTurns.{Does, Host}}
use Rattle.hba_driver.specs.{HostTurns.{HostTurn, Polled, Pushed, Put, Submitted, Ticked, Took}, Slot31.{Asks, IsAt31, MayBe31, Resets, Signs}}
use Rattle.hba_driver.specs.Slot31.{Stage31, Turns31}
use Rattle.hba_driver.proofs.Door.{control_in31, going_opens, going_turn, none_issued, turn31, turn_addressed, turn_their, zeroed_right}
use Rattle.pm_world.specs.{Attached.Attached, Line.{AreResets, HasLine, IsReset, NoneDown, NoneUp, OnLine, OneOrderAtATime, is_register, is_reply}}
use Rattle.pm_world.specs.{Places.{Place, Places, Queue, is_config, new_world, with_host}, PortsGoOn.{PortGoesOn, PortsGoOn}, Rules.CameRule}
use Rattle.pm_world.specs.Rules.{DiskSendRule, DiskTakeRule, GoneRule, HostPushRule, HostTakeRule, InjectRule, OnDevice, OnDeviceAndMultiplier}
use Rattle.pm_world.specs.Rules.{Outcome, PmDownRule, PmFromDeviceRule, PmFromHostRule, PmPresenceRule, PmUpRule, PollRule, PutRule, Rule, Run}
use Rattle.pm_world.specs.{Rules.{SubmitRule, TickRule, recorded}, declared.{link.Change.Change, step.{Answer.Answer, Config.Config, Step.Step}}}
use Rattle.pm_world.specs.declared.link.Change.TheVariants as change
use Rattle.pm_world.specs.declared.step.Answer.TheVariants as answer
use Rattle.pm_world.specs.declared.step.Step.TheVariants as step
use Rattle.world_rests.proofs.{Parts.{AtBoth, AtDevice, at_both, at_device, run_more}, Slot31.{Answers as Answered, IsAsking, IsAwaiting, Leaves}}
use Rattle.world_rests.proofs.Slot31.{Stays, answered_free, bits_keep, pushes_none, pushes_other, pushes_own, register_leaves, same_asks, tick_asks}
use Rattle.world_rests.proofs.Well.{sized}

-- ---- what is on its way

abbrev pub Among : Stamped → List Stamped → Type 0
Among f [] = ⊥
Among f (x ∷ xs) = (x ≡ f) ⊎ Among f xs

pub among_more : (f g : Stamped) (xs : List Stamped) → Among f xs → Among f (xs ++ g ∷ [])
among_more f g [] is = absurd is
among_more f g (x ∷ xs) (inl same) = inl same
among_more f g (x ∷ xs) (inr rest) = inr (among_more f g xs rest)

pub among_last : (f : Stamped) (xs : List Stamped) → Among f (xs ++ f ∷ [])
among_last f [] = inl refl
among_last f (x ∷ xs) = inr (among_last f xs)

-- an answer of the control port that ends a command
pub record IsReply (f : Stamped) : Type 0 where
  pub port : f.stamp.port ≡ control_port
  pub from : port_of f.bytes ≡ 15
  pub viewed : seen f.bytes ≡ Ok (view.RegD2H f.bytes)
  pub done : is_busy (field D2h Status f.bytes) ≡ false

pub data IsOwed (down : List Stamped) (waits : Option Stamped) (up : List Stamped) : Type 0 where
  Falls : (f : Stamped) → Among f down → pm_port f ≡ control_port → IsCommand f.bytes → IsOwed down waits up
  Waits : (f : Stamped) → waits ≡ Some f → IsReply f → IsOwed down waits up
  Rises : (f : Stamped) → Among f up → IsReply f → IsOwed down waits up

-- ---- what a command is answered

abbrev IsPlain : Request → Type 0
IsPlain Reset = ⊥
IsPlain EndReset = ⊥
IsPlain r = Unit {0}

plain_by : (read write : Bool) (bytes : List ℕ) → IsPlain (if read then Read (address_in bytes) else if write then Write (address_in bytes) (value_in bytes) else Unknown)
plain_by true write bytes = tt
plain_by false true bytes = tt
plain_by false false bytes = tt

record AsksPlain (bytes : List ℕ) : Type 0 where
  request : Request
  is : request_in bytes ≡ Some request
  plain : IsPlain request

command_asks : (bytes : List ℕ) → IsCommand bytes → AsksPlain bytes
command_asks bytes command =
    let r : Request = if field H2d Command bytes == 0xE4 then Read (address_in bytes) else if field H2d Command bytes == 0xE8 then Write (address_in bytes) (value_in bytes) else Unknown in
    record {
      request = r;
      is = ap request_under command.0 ∙ ap (λ (n : ℕ). Some (if n == 1 then r else (if bit_and (field H2d Control bytes) 4 == 0 then EndReset else Reset))) command.1;
      plain = plain_by (field H2d Command bytes == 0xE4) (field H2d Command bytes == 0xE8) bytes;
    }

never_reset : (bytes : List ℕ) → IsCommand bytes → request_in bytes ≡ Some Reset → ⊥
never_reset bytes command resets =
    let c : AsksPlain bytes = command_asks bytes command in
    subst IsPlain (same_Some c.request Reset (sym c.is ∙ resets)) c.plain

-- the fields of an answer
record IsMade (g : Stamped) (stamp : Stamp) : Type 0 where
  fields : D2hFields
  built : IsBuilt D2h (d2h_given fields) g.bytes
  port : fields.pm_port ≡ 15
  status : is_busy (cut (places D2h Status) fields.status) ≡ false
  stamped : g.stamp ≡ stamp

right_busy : is_busy (cut (places D2h Status) 0x50) ≡ false
unfolding cut places
right_busy = refl

wrong_busy : is_busy (cut (places D2h Status) 0x51) ≡ false
unfolding cut places
wrong_busy = refl

made : (fields : D2hFields) (stamp : Stamp) (now : Option Stamped) → fields.pm_port ≡ 15 → is_busy (cut (places D2h Status) fields.status) ≡ false → IsAnswer (Some fields) stamp now → (g : Stamped) × (now ≡ Some g) × IsMade g stamp
made fields stamp None port status is = absurd is
made fields stamp (Some g) port status is = (g, refl, record { fields = fields; built = is.0; port = port; status = status; stamped = is.1 })

read_made : (r : Result ℕ RegisterError) (stamp : Stamp) (now : Option Stamped) → IsAnswer (Some (read_answer r)) stamp now → (g : Stamped) × (now ≡ Some g) × IsMade g stamp
read_made (Ok value) stamp now is = made (read_answer (Ok value)) stamp now refl right_busy is
read_made (Err NoPort) stamp now is = made (read_answer (Err NoPort)) stamp now refl wrong_busy is
read_made (Err NoRegister) stamp now is = made (read_answer (Err NoRegister)) stamp now refl wrong_busy is

write_made : (r : Result ℕ RegisterError) (stamp : Stamp) (now : Option Stamped) → IsAnswer (Some (write_answer r)) stamp now → (g : Stamped) × (now ≡ Some g) × IsMade g stamp
write_made (Ok value) stamp now is = made (write_answer (Ok value)) stamp now refl right_busy is
write_made (Err NoPort) stamp now is = made (write_answer (Err NoPort)) stamp now refl wrong_busy is
write_made (Err NoRegister) stamp now is = made (write_answer (Err NoRegister)) stamp now refl wrong_busy is

plain_made : (mark : Bool) (m : RegisterMap) (r : Request) (stamp : Stamp) (now : Option Stamped) → IsPlain r → IsAnswer (answers_of mark m r) stamp now → (g : Stamped) × (now ≡ Some g) × IsMade g stamp
plain_made mark m (Read at) stamp now plain is = read_made (read_at m at.port at.register) stamp now is
plain_made mark m (Write at value) stamp now plain is = write_made (read_at m at.port at.register) stamp now is
plain_made mark m Unknown stamp now plain is = made (refused 4) stamp now refl wrong_busy is
plain_made mark m other stamp now plain is = absurd plain

own_port : cut (places D2h PmPort) 15 ≡ 15
unfolding cut places
own_port = refl

made_reply : (g : Stamped) (pm : PmState) → IsMade g (control_stamp pm) → IsReply g
made_reply g pm is = record {
  port = ap (λ (s : Stamp). s.port) is.stamped;
  from = sym (port_bits g.bytes) ∙ sym (port_field D2h g.bytes) ∙ is.built.fields PmPort ∙ ap (cut (places D2h PmPort)) is.port ∙ own_port;
  viewed = is.built.viewed;
  done = ap is_busy (is.built.fields Status) ∙ is.status;
}

-- ---- a FIS of the host

module _ (old new : PmState) (frame : Stamped) (down up : List Stamped) where
  answered_command : IsCommand frame.bytes → IsAnswer (answer_to_request old.resetting old.registers (request_in frame.bytes)) (control_stamp old) new.answer → IsOwed down new.answer up
  answered_command command is =
      let c : AsksPlain frame.bytes = command_asks frame.bytes command in
      let g = plain_made old.resetting old.registers c.request (control_stamp old) new.answer c.plain
      (subst (λ (r : Option Request). IsAnswer (answer_to_request old.resetting old.registers r) (control_stamp old) new.answer) c.is is) in
      Waits g.0 g.1 (made_reply g.0 old g.2)

  by_conn : (p : Passed) (o : Option ℕ) → MatchOption o (ToNobody old (Ok p) new) (λ conn. ToDevice old (pm_port frame) conn frame (Ok p) new) → new.answer ≡ old.answer
  by_conn passed.Dropped None acts = ap (λ (pm : PmState). pm.answer) acts
  by_conn _ None acts = absurd acts
  by_conn (passed.Down m) (Some conn) acts = ap (λ (pm : PmState). pm.answer) acts.2
  by_conn _ (Some conn) acts = absurd acts

  to_control : (p : Passed) → ToControl old frame (Ok p) new → (old.answer ≡ None) × IsAnswer (answer_to_request old.resetting old.registers (request_in frame.bytes)) (control_stamp old) new.answer
  to_control passed.Control acts = (acts.0, acts.1)
  to_control _ acts = absurd acts

  heard_owed : (p : Passed) → FromHostRule old frame (Ok p) new → IsOwed (frame ∷ down) old.answer up → IsOwed down new.answer up
  heard_owed p rule owed = by_port (pm_port frame == control_port) refl rule owed
    where
      by_port : (b : Bool) → (pm_port frame == control_port) ≡ b → MatchBool b (ToControl old frame (Ok p) new) (ToPort old frame (Ok p) new) → IsOwed (frame ∷ down) old.answer up → IsOwed down new.answer up
      by_port true is acts (Falls f (inl same) own command) = answered_command (subst (λ (x : Stamped). IsCommand x.bytes) (sym same) command) (to_control p acts).1
      by_port false is acts (Falls f (inl same) own command) = absurd (false≢true (sym is ∙ eq-eqb (pm_port frame) control_port (ap pm_port same ∙ own)))
      by_port b is acts (Falls f (inr rest) own command) = Falls f rest own command
      by_port true is acts (Waits f there reply) = absurd (let wrong : None ≡ Some f = sym (to_control p acts).0 ∙ there in cc)
      by_port false is acts (Waits f there reply) = Waits f (by_conn p (passes_to old (pm_port frame)) acts ∙ there) reply
      by_port b is acts (Rises f there reply) = Rises f there reply

host_owed : (link : Queue) (pm : PmState) (a : Answer) (new : Queue) (after : PmState) (up : List Stamped) → PmFromHostRule link pm (Ok a) new after → IsOwed link.frames pm.answer up → IsOwed new.frames after.answer up
host_owed link pm answer.Idle new after up acts owed = rw (acts.1, acts.2) owed
host_owed link pm answer.Blocked new after up acts owed = rw (acts.1, acts.2) owed
host_owed link pm (answer.Passed p) new after up acts owed =
    heard_owed pm after acts.0.0 new.frames up p acts.0.2 (subst (λ (frames : List Stamped). IsOwed frames pm.answer up) acts.0.1 owed)
host_owed link pm _ new after up acts owed = absurd acts

-- ---- a FIS for the host

up_owed : (down up : List Stamped) (frame : Stamped) (old new : PmState) → Gives old frame new → IsOwed down old.answer up → IsOwed down new.answer (up ++ frame ∷ [])
up_owed down up frame old new gave (Falls f there own command) = Falls f there own command
up_owed down up frame old new gave (Rises f there reply) = Rises f (among_more f frame up there) reply
up_owed down up frame old new (FromPort n was next other is stamp shown e) (Waits f there reply) = Waits f (ap (λ (pm : PmState). pm.answer) e ∙ there) reply
up_owed down up frame old new (Notice next due is e) (Waits f there reply) = Waits f (ap (λ (pm : PmState). pm.answer) e ∙ there) reply
up_owed down up frame old new (Answers next is e) (Waits f there reply) =
    let same : f ≡ frame = same_Some f frame (sym there ∙ is) in
    Rises frame (among_last frame up) (subst IsReply same reply)

rises_owed : (down : List Stamped) (pm : PmState) (link : Queue) (a : Answer) (after : PmState) (new : Queue) → PmUpRule pm link (Ok a) after new → IsOwed down pm.answer link.frames → IsOwed down after.answer new.frames
rises_owed down pm link answer.Idle after new acts owed = rw (acts.2, acts.3) owed
rises_owed down pm link answer.Blocked after new acts owed = rw (acts.1, acts.2) owed
rises_owed down pm link (answer.Up n) after new acts owed =
    subst (λ (q : Queue). IsOwed down after.answer q.frames) (sym acts.1.3) (up_owed down link.frames acts.1.0 pm after (gives pm acts.1.0 after acts.1.2) owed)
rises_owed down pm link _ after new acts owed = absurd acts

-- ---- what the host knows of it

pub none_down : (frames : List Stamped) (f : Stamped) → NoneDown frames → Among f frames → pm_port f ≡ control_port → ⊥
none_down [] f none there own = there
none_down (x ∷ frames) f none (inl same) own = none.0 (ap pm_port same ∙ own)
none_down (x ∷ frames) f none (inr rest) own = none_down frames f none.1 rest own

pub resets_down : (frames : List Stamped) (f : Stamped) → AreResets frames → Among f frames → pm_port f ≡ control_port → IsReset f
resets_down [] f are there own = absurd there
resets_down (x ∷ frames) f are (inl same) own = subst IsReset same (are.0 (ap pm_port same ∙ own))
resets_down (x ∷ frames) f are (inr rest) own = resets_down frames f are.1 rest own

reply_is : (f : Stamped) → IsReply f → is_reply f ≡ true
reply_is f r = ap (λ (b : Bool). b && is_register (seen f.bytes)) (eq-eqb f.stamp.port control_port r.port) ∙ ap is_register r.viewed

none_up : (frames : List Stamped) (f : Stamped) → NoneUp frames → Among f frames → IsReply f → ⊥
none_up [] f none there r = there
none_up (x ∷ frames) f none (inl same) r = true≢false (sym (reply_is f r) ∙ ap is_reply (sym same) ∙ none.0)
none_up (x ∷ frames) f none (inr rest) r = none_up frames f none.1 rest r

pub none_owed : (down : List Stamped) (waits : Option Stamped) (up : List Stamped) → NoneDown down → waits ≡ None → NoneUp up → IsOwed down waits up → ⊥
none_owed down waits up none quiet clean (Falls f there own command) = none_down down f none there own
none_owed down waits up none quiet clean (Waits f there reply) = absurd (let wrong : None ≡ Some f = sym quiet ∙ there in cc)
none_owed down waits up none quiet clean (Rises f there reply) = none_up up f clean there reply

resets_owed : (down : List Stamped) (waits : Option Stamped) (up : List Stamped) → AreResets down → waits ≡ None → NoneUp up → IsOwed down waits up → ⊥
resets_owed down waits up are quiet clean (Falls f there own command) = never_reset f.bytes command (resets_down down f are there own)
resets_owed down waits up are quiet clean (Waits f there reply) = absurd (let wrong : None ≡ Some f = sym quiet ∙ there in cc)
resets_owed down waits up are quiet clean (Rises f there reply) = none_up up f clean there reply

awaits_at : (stage : Stage31) (h : Host) (down : List Stamped) (waits : Option Stamped) (up : List Stamped) → IsAt31 stage h → OnLine stage down waits up → IsAsking (view_of 15 h.port) → IsOwed down waits up → IsAwaiting h
awaits_at Asks h down waits up at line a owed = record {
  resetting = at.resetting;
  plain = λ i there.
      subst (λ (x : Issue). (needs_all x.work.kind || is_queued x.work.kind) ≡ false) (same_Some at.is.2.issue i (sym at.is.2.issued ∙ there)) at.is.2.plain;
  opened = elim (cases_lt h.driver.plan.opened 7) [
    | inl less ↦ absurd (let wrong = at.closed less in cc)
    | inr least ↦ least
  ];
}
awaits_at Signs h down waits up at line a owed = absurd (let wrong : None ≡ Some a.issue = sym at.is.0 ∙ a.there in cc)
awaits_at Resets h down waits up at line a owed = absurd (resets_owed down waits up line.0 line.1 line.2 owed)
awaits_at other h down waits up at line a owed = absurd (none_owed down waits up line.0 line.1 line.2 owed)

-- ---- a frame that comes to the host

pub bits_view : (v : DeviceView) (sound : Bool) (bytes : List ℕ) → heard_view 15 v sound (Some (view.SetBits bytes)) ≡ view_after_hearing v (heard_bits v.slots v.state (field Bits Status bytes) (field Bits Error bytes) (field Bits SActive bytes))
unfolding heard_fis
bits_view v sound bytes = refl

pub register_view : (v : DeviceView) (sound : Bool) (bytes : List ℕ) → heard_view 15 v sound (Some (view.RegD2H bytes)) ≡ view_after_hearing v (signing bytes (heard_register v.slots v.state (field D2h Status bytes) (field D2h Error bytes)))
unfolding heard_fis
register_view v sound bytes = refl

pub over_none : (on : Bool) (v : DeviceView) (fis : Result Fis FisFault) (dev : ℕ) → dev ≡ 15 → passes_over on dev v fis ≡ false
over_none true v fis dev own = refl
over_none false v fis dev own = ap (λ (b : Bool). not b && is_of_transfer fis && owns_none v.slots) (eq-eqb dev 15 own)

is_heard : (h : Host) → IsGoing h → (frame : List ℕ) → port_of frame ≡ 15 → IsAsking (view_of 15 h.port) → IsAwaiting h → ignores (port_of frame) h.port frame ≡ false
is_heard h g frame own a w =
    subst (λ (n : ℕ). ignores n h.port frame ≡ false) (sym own)
    (both (passes_over h.port.registers.switching 15 (view_of 15 h.port) (seen frame)) (is_ignored (is_running h.port) (view_of 15 h.port) (seen frame))
    (over_none h.port.registers.switching (view_of 15 h.port) (seen frame) 15 refl) (heeds (is_running h.port) (is_some (view_of 15 h.port).fault) (view_of 15 h.port).state.resetting (not (signs (seen frame))) runs (ap is_some a.well) w.resetting))
  where
    both : (a b : Bool) → a ≡ false → b ≡ false → (a || b) ≡ false
    both false false a b = refl
    both true b a c = absurd (true≢false a)
    both false true a b = absurd (true≢false b)

    heeds : (running faulty resetting other : Bool) → running ≡ true → faulty ≡ false → resetting ≡ false → (not running || faulty || (resetting && other)) ≡ false
    heeds true false false other on well calm = refl
    heeds false faulty resetting other on well calm = absurd (false≢true on)
    heeds true true resetting other on well calm = absurd (true≢false well)
    heeds true false true other on well calm = absurd (true≢false calm)

    runs_on : (started whole : Bool) → started ≡ true → whole ≡ true → (started && whole) ≡ true
    runs_on true true on well = refl
    runs_on true false on well = absurd (false≢true well)
    runs_on false whole on well = absurd (false≢true on)

    runs : is_running h.port ≡ true
    runs =
        let up : h.driver.plan.restarted ≡ 2 = g.up in
        runs_on h.port.registers.started (is_none h.port.errors.port) (g.way.sound.registers.starts w.opened (omega (arith, up))) (ap is_none g.calm.faultless)

-- a port that hears a frame of the control port has no fault of it
pub well_heard : (p : Port) (frame : List ℕ) → port_of frame ≡ 15 → ignores (port_of frame) p frame ≡ false → (view_of 15 p).fault ≡ None
well_heard p frame own heard = by_fault (view_of 15 p).fault refl
  where
    quiet : (a running b c : Bool) → (a || (not running || true || c)) ≡ false → ⊥
    quiet true running b c e = true≢false e
    quiet false true b c e = true≢false e
    quiet false false b c e = true≢false e

    at : ignores 15 p frame ≡ false
    at = subst (λ (n : ℕ). ignores n p frame ≡ false) own heard

    by_fault : (o : Option _) → (view_of 15 p).fault ≡ o → (view_of 15 p).fault ≡ None
    by_fault None is = is
    by_fault (Some c) is =
        absurd (quiet (passes_over p.registers.switching 15 (view_of 15 p) (seen frame)) (is_running p) true ((view_of 15 p).state.resetting && not (signs (seen frame)))
        (sym (ap (λ (b : Bool). passes_over p.registers.switching 15 (view_of 15 p) (seen frame) || (not (is_running p) || b || ((view_of 15 p).state.resetting && not (signs (seen frame))))) (ap is_some is)) ∙ at))

-- what is still owed once a frame that is no answer was taken
drops : (f : Stamped) (down : List Stamped) (waits : Option Stamped) (up : List Stamped) → (IsReply f → ⊥) → IsOwed down waits (f ∷ up) → IsOwed down waits up
drops f down waits up other (Falls g there own command) = Falls g there own command
drops f down waits up other (Waits g there reply) = Waits g there reply
drops f down waits up other (Rises g (inl same) reply) = absurd (other (subst IsReply (sym same) reply))
drops f down waits up other (Rises g (inr rest) reply) = Rises g rest reply

module _ (old new : Host) (g : IsGoing old) (f : Stamped) (report : TakeReport) (does : Does old (Took f.bytes report) new) (of : IsOfControl f.bytes) (down : List Stamped) (waits : Option Stamped) (up : List Stamped)
    (owed : IsAsking (view_of 15 old.port) → IsOwed down waits (f ∷ up)) (awaits : IsAsking (view_of 15 old.port) → IsAwaiting old) where
  -- the frame is another device's
  taken_other : port_of f.bytes ≢ 15 → IsAsking (view_of 15 new.port) → IsOwed down waits up
  taken_other other a = elim (cases_Bool (ignores (port_of f.bytes) old.port f.bytes)) [
    | inl skips ↦ drops f down waits up (λ r. other r.from) (owed (same_asks old.port new.port (does.ignored skips).port a))
    | inr hears ↦ drops f down waits up (λ r. other r.from) (owed (subst IsAsking ((does.heard hears).others 15 (λ same. other (sym same))) a))
  ]

  module _ (hears : ignores (port_of f.bytes) old.port f.bytes ≡ false) (own : port_of f.bytes ≡ 15) (a : IsAsking (view_of 15 new.port)) where
    well : (view_of 15 old.port).fault ≡ None
    well = well_heard old.port f.bytes own hears

    abbrev sound : Bool
    sound = is_sound old.memory old.port.commands (view_of 15 old.port).slots

    own_left : view_of 15 new.port ≡ heard_view 15 (view_of 15 old.port) sound (admitted 15 (seen f.bytes))
    own_left = subst (λ (n : ℕ). view_of n new.port ≡ heard_view n (view_of n old.port) (is_sound old.memory old.port.commands (view_of n old.port).slots) (admitted n (seen f.bytes))) own (does.heard hears).own

    no_bits : seen f.bytes ≡ Ok (view.SetBits f.bytes) → IsReply f → ⊥
    no_bits bits r = false≢true (sym (ap is_register bits) ∙ ap is_register r.viewed)

    by_bits : seen f.bytes ≡ Ok (view.SetBits f.bytes) → IsOwed down waits up
    by_bits bits =
        let is : view_of 15 new.port ≡ view_after_hearing (view_of 15 old.port) (heard_bits (view_of 15 old.port).slots (view_of 15 old.port).state (field Bits Status f.bytes) (field Bits Error f.bytes) (field Bits SActive f.bytes)) =
        own_left ∙ ap (λ (o : Result Fis FisFault). heard_view 15 (view_of 15 old.port) sound (admitted 15 o)) bits ∙ bits_view (view_of 15 old.port) sound f.bytes in
        drops f down waits up (no_bits bits)
        (owed (bits_keep (view_of 15 old.port) well (field Bits Status f.bytes) (field Bits Error f.bytes) (field Bits SActive f.bytes) (subst IsAsking is a)))

    register_slots : seen f.bytes ≡ Ok (view.RegD2H f.bytes)
        → view_of 15 new.port ≡ view_after_hearing (view_of 15 old.port) (signing f.bytes (heard_register (view_of 15 old.port).slots (view_of 15 old.port).state (field D2h Status f.bytes) (field D2h Error f.bytes)))
    register_slots register =
        own_left ∙ ap (λ (o : Result Fis FisFault). heard_view 15 (view_of 15 old.port) sound (admitted 15 o)) register ∙ register_view (view_of 15 old.port) sound f.bytes

    by_leaves : Leaves (view_of 15 old.port) (view_of 15 new.port) (field D2h Status f.bytes) → IsOwed down waits up
    by_leaves (Stays busy asks) = drops f down waits up (λ r. true≢false (sym busy ∙ r.done)) (owed asks)
    by_leaves (Answered done asks slots) =
        let free : own_issue (view_of 15 new.port).slots 31 ≡ None =
        ap (λ (own_slots : DeviceSlots). own_issue own_slots 31) slots
        ∙ answered_free old.port.slots g.way.sound.ruled.table asks.issue asks.there asks.sent ((awaits asks).plain asks.issue asks.there) in
        absurd (let wrong : None ≡ Some a.issue = sym free ∙ a.there in cc)

    by_register : seen f.bytes ≡ Ok (view.RegD2H f.bytes) → (b : Bool) → (view_of 15 old.port).state.resetting ≡ b → IsOwed down waits up
    by_register register true is =
        let slots : (view_of 15 new.port).slots ≡ (view_of 15 old.port).slots =
        ap (λ (v : DeviceView). v.slots) (register_slots register)
        ∙ ap (λ (b : Bool). (view_after_hearing (view_of 15 old.port) (if b then quietly (after_reset (view_of 15 old.port).state (field D2h Status f.bytes) (field D2h Error f.bytes)) happening.Nothing
        else heard_d2h (view_of 15 old.port).slots (view_of 15 old.port).state (field D2h Status f.bytes) (field D2h Error f.bytes))).slots) is in
        let asks : IsAsking (view_of 15 old.port) = record { issue = a.issue; there = sym (ap (λ (own_slots : DeviceSlots). own_issue own_slots 31) slots) ∙ a.there; sent = a.sent; well = well } in
        absurd (true≢false (sym is ∙ (awaits asks).resetting))
    by_register register false is =
        by_leaves (register_leaves (view_of 15 old.port) well (field D2h Status f.bytes) (field D2h Error f.bytes) (view_of 15 new.port) is (ap (λ (v : DeviceView). v.slots) (register_slots register))
        (ap (λ (v : DeviceView). v.fault) (register_slots register)) a)

    hears_own : IsOwed down waits up
    hears_own = elim (of own) [
      | inl register ↦ by_register register (view_of 15 old.port).state.resetting refl
      | inr bits ↦ by_bits bits
    ]

  taken_own : port_of f.bytes ≡ 15 → IsAsking (view_of 15 new.port) → IsOwed down waits up
  taken_own own a = elim (cases_Bool (ignores (port_of f.bytes) old.port f.bytes)) [
    | inl skips ↦
        let asks : IsAsking (view_of 15 old.port) = same_asks old.port new.port (does.ignored skips).port a in
        absurd (true≢false (sym skips ∙ is_heard old g f.bytes own asks (awaits asks)))
    | inr hears ↦ hears_own hears own a
  ]

  taken_owed : IsAsking (view_of 15 new.port) → IsOwed down waits up
  taken_owed a = elim (cases_eq (port_of f.bytes) 15) [
    | inl own ↦ taken_own own a
    | inr other ↦ taken_other other a
  ]

-- ---- a world

pub record IsOwing (now : Places) : Type 0 where
  pub going : IsGoing now.host
  pub their : AreOfTheir now.host.port
  pub owed : IsAsking (view_of 15 now.host.port) → IsOwed now.downward.frames now.multiplier.answer now.upward.frames

-- the host and what is on its way are as they were
record IsKept (old new : Places) : Type 0 where
  host : new.host ≡ old.host
  down : new.downward ≡ old.downward
  waits : new.multiplier.answer ≡ old.multiplier.answer
  up : new.upward ≡ old.upward

kept_owing : (old new : Places) → IsKept old new → IsOwing old → IsOwing new
kept_owing old new k is = record {
  going = subst IsGoing (sym k.host) is.going;
  their = subst (λ (h : Host). AreOfTheir h.port) (sym k.host) is.their;
  owed = λ a.
      subst (λ (q : Queue). IsOwed new.downward.frames new.multiplier.answer q.frames) (sym k.up)
      (subst (λ (o : Option Stamped). IsOwed new.downward.frames o old.upward.frames) (sym k.waits)
      (subst (λ (q : Queue). IsOwed q.frames old.multiplier.answer old.upward.frames) (sym k.down)
      (is.owed (subst (λ (h : Host). IsAsking (view_of 15 h.port)) k.host a))));
}

same_waits : (old new : PmState) → new ≡ old → new.answer ≡ old.answer
same_waits old new same = ap (λ (pm : PmState). pm.answer) same

recorded_waits : (pm : PmState) (n : ℕ) (c : Change) → (recorded pm n c).answer ≡ pm.answer
recorded_waits pm n (change.Came conn) = by_test (is_none (came_refusal (port_at pm n) conn))
  where
    by_test : (b : Bool) → (if b then connected pm n conn else pm).answer ≡ pm.answer
    by_test true = refl
    by_test false = refl
recorded_waits pm n (change.Gone conn) = by_test (is_none (gone_refusal (port_at pm n) conn))
  where
    by_test : (b : Bool) → (if b then without_device pm n conn else pm).answer ≡ pm.answer
    by_test true = refl
    by_test false = refl

presence_waits : (n : ℕ) (place : Place) (pm : PmState) (a : Answer) (after : Place) (left : PmState) → PmPresenceRule n place pm (Ok a) after left → left.answer ≡ pm.answer
presence_waits n place pm answer.Idle after left acts = same_waits pm left acts.2
presence_waits n place pm (answer.Presence p) after left acts = same_waits (recorded pm n acts.2.0) left acts.2.2 ∙ recorded_waits pm n acts.2.0
presence_waits n place pm _ after left acts = absurd acts

from_device_waits : (n : ℕ) (place : Place) (pm : PmState) (a : Answer) (after : Place) (left : PmState) → PmFromDeviceRule n place pm (Ok a) after left → left.answer ≡ pm.answer
from_device_waits n place pm answer.Idle after left acts = same_waits pm left acts.2
from_device_waits n place pm answer.Blocked after left acts = same_waits pm left acts.3
from_device_waits n place pm (answer.Offered p true) after left acts = same_waits pm left acts.2.2.1
from_device_waits n place pm (answer.Offered p false) after left acts = ap (λ (q : PmState). q.answer) acts.2.2.2
from_device_waits n place pm _ after left acts = absurd acts

down_waits : (n : ℕ) (place : Place) (pm : PmState) (a : Answer) (after : Place) (left : PmState) → PmDownRule n place pm (Ok a) after left → left.answer ≡ pm.answer
down_waits n place pm answer.Idle after left acts = same_waits pm left acts.3
down_waits n place pm answer.Blocked after left acts = same_waits pm left acts.2
down_waits n place pm (answer.Down p) after left acts = ap (λ (q : PmState). q.answer) acts.2.1.1
down_waits n place pm _ after left acts = absurd acts

-- what a step of the host leaves
record HostOwes (down : List Stamped) (waits : Option Stamped) (up : List Stamped) (host : Host) : Type 0 where
  going : IsGoing host
  their : AreOfTheir host.port
  owed : IsAsking (view_of 15 host.port) → IsOwed down waits up

module _ (old : Places) (is : IsOwing old) (line : HasLine old) (goes : PortGoesOn old) where
  abbrev old_owed : Type 0
  old_owed = IsOwed old.downward.frames old.multiplier.answer old.upward.frames

  awaits : IsAsking (view_of 15 old.host.port) → IsAwaiting old.host
  awaits a = awaits_at line.stage old.host old.downward.frames old.multiplier.answer old.upward.frames line.is.at line.is.line a (is.owed a)

  idle_host : (down : List Stamped) (waits : Option Stamped) (up : List Stamped) (host : Host) → host ≡ old.host → (old_owed → IsOwed down waits up) → HostOwes down waits up host
  idle_host down waits up host same keeps = record {
    going = subst IsGoing (sym same) is.going;
    their = subst (λ (h : Host). AreOfTheir h.port) (sym same) is.their;
    owed = λ a. keeps (is.owed (subst (λ (h : Host). IsAsking (view_of 15 h.port)) same a));
  }

  -- a turn in which no frame comes from the control port
  quiet_turn : (t : HostTurn) (host : Host) → Does old.host t host → MayBe31 line.stage t → (down : List Stamped) (waits : Option Stamped) (up : List Stamped) → (IsAsking (view_of 15 host.port) → IsOwed down waits up) → HostOwes down waits up host
  quiet_turn t host does may down waits up owed = record {
    going = going_turn old.host t host does is.going (control_in31 line.stage t may);
    their = turn_their old.host t host does is.going.way.sound is.their;
    owed = owed;
  }

  tick_owes : (a : Answer) (host : Host) → TickRule old.host (Ok a) host → HostOwes old.downward.frames old.multiplier.answer old.upward.frames host
  tick_owes answer.Idle host acts = idle_host old.downward.frames old.multiplier.answer old.upward.frames host acts.1 (λ o. o)
  tick_owes answer.Ticked host acts =
      quiet_turn (Ticked true) host acts tt old.downward.frames old.multiplier.answer old.upward.frames (λ a. is.owed (tick_asks old.host host true is.going.way.sound acts a))
  tick_owes _ host acts = absurd acts

  submit_owes : (dev : ℕ) (request : Wanted) (a : Answer) (host : Host) → SubmitRule dev request old.host (Ok a) host → HostOwes old.downward.frames old.multiplier.answer old.upward.frames host
  submit_owes dev request (answer.Refused e) host acts = idle_host old.downward.frames old.multiplier.answer old.upward.frames host acts.1 (λ o. o)
  submit_owes dev request (answer.Submitted ticket) host acts =
      quiet_turn (Submitted dev request ticket.0) host acts tt old.downward.frames old.multiplier.answer old.upward.frames (λ a. is.owed (same_asks old.host.port host.port acts.port a))
  submit_owes dev request _ host acts = absurd acts

  poll_owes : (a : Answer) (host : Host) → PollRule old.host (Ok a) host → HostOwes old.downward.frames old.multiplier.answer old.upward.frames host
  poll_owes answer.Idle host acts = idle_host old.downward.frames old.multiplier.answer old.upward.frames host acts.1 (λ o. o)
  poll_owes (answer.Polled completion) host acts =
      quiet_turn (Polled completion) host acts tt old.downward.frames old.multiplier.answer old.upward.frames (λ a. is.owed (same_asks old.host.port host.port acts.port a))
  poll_owes _ host acts = absurd acts

  put_owes : (at : ℕ) (bytes : List ℕ) (a : Answer) (host : Host) → PutRule at bytes old.host (Ok a) host → HostOwes old.downward.frames old.multiplier.answer old.upward.frames host
  put_owes at bytes answer.Put host acts =
      quiet_turn (Put at bytes) host acts.1 tt old.downward.frames old.multiplier.answer old.upward.frames (λ a. is.owed (same_asks old.host.port host.port acts.1.port a))
  put_owes at bytes _ host acts = absurd acts

  push_owes : (a : Answer) (host : Host) (link : Queue) → HostPushRule old.host old.downward (Ok a) host link → HostOwes link.frames old.multiplier.answer old.upward.frames host
  push_owes answer.Idle host link acts =
      subst (λ (q : Queue). HostOwes q.frames old.multiplier.answer old.upward.frames host) (sym acts.2)
      (quiet_turn (Pushed None) host acts.1.0 tt old.downward.frames old.multiplier.answer old.upward.frames (λ a. is.owed (pushes_none old.host host acts.1.0 a)))
  push_owes answer.Blocked host link acts =
      subst (λ (q : Queue). HostOwes q.frames old.multiplier.answer old.upward.frames host) (sym acts.2) (idle_host old.downward.frames old.multiplier.answer old.upward.frames host acts.1 (λ o. o))
  push_owes answer.Pushed host link acts =
      subst (λ (q : Queue). HostOwes q.frames old.multiplier.answer old.upward.frames host) (sym acts.1.2)
      (quiet_turn (Pushed (Some acts.1.0)) host acts.1.1 tt (old.downward.frames ++ acts.1.0 ∷ []) old.multiplier.answer old.upward.frames (pushed acts.1.0 acts.1.1))
    where
      more : (f : Stamped) → old_owed → IsOwed (old.downward.frames ++ f ∷ []) old.multiplier.answer old.upward.frames
      more f (Falls g there own command) = Falls g (among_more g f old.downward.frames there) own command
      more f (Waits g there reply) = Waits g there reply
      more f (Rises g there reply) = Rises g there reply

      pushed : (f : Stamped) → Does old.host (Pushed (Some f)) host → IsAsking (view_of 15 host.port) → IsOwed (old.downward.frames ++ f ∷ []) old.multiplier.answer old.upward.frames
      pushed f does a = elim (cases_eq f.stamp.port 15) [
        | inl own ↦
            let n : IsGoing host = going_turn old.host (Pushed (Some f)) host does is.going tt in
            let t : Turns31 line.stage old.host (Pushed (Some f)) host = turn31 old.host is.going (Pushed (Some f)) host n does line.stage line.is.at tt in
            Falls f (among_last f old.downward.frames) (turn_addressed old.host (Pushed (Some f)) host does is.going.way.sound is.their ∙ own)
            (pushes_own line.stage old.host host f does line.is.at t own a)
        | inr other ↦ more f (is.owed (pushes_other old.host host f does other a))
      ]
  push_owes _ host link acts = absurd acts

  take_owes : (a : Answer) (link : Queue) (host : Host) → ((port conn number : ℕ) (bytes : List ℕ) (report : TakeReport) → a ≡ answer.Took port conn number bytes report → IsOfControl bytes) → HostTakeRule old.upward old.host (Ok a) link host
      → HostOwes old.downward.frames old.multiplier.answer link.frames host
  take_owes answer.Idle link host of acts =
      subst (λ (q : Queue). HostOwes old.downward.frames old.multiplier.answer q.frames host) (sym acts.1) (idle_host old.downward.frames old.multiplier.answer old.upward.frames host acts.2 (λ o. o))
  take_owes (answer.Took port conn number bytes report) link host of acts =
      let f : Stamped = acts.0.0 in
      let same : f.bytes ≡ bytes = acts.0.2.bytes_are in
      let does : Does old.host (Took f.bytes report) host = subst (λ (b : List ℕ). Does old.host (Took b report) host) (sym same) acts.2 in
      let own : IsOfControl f.bytes = subst IsOfControl (sym same) (of port conn number bytes report refl) in
      record {
        going = going_turn old.host (Took f.bytes report) host does is.going own;
        their = turn_their old.host (Took f.bytes report) host does is.going.way.sound is.their;
        owed =
            taken_owed old.host host is.going f report does own old.downward.frames old.multiplier.answer link.frames
            (λ a. subst (λ (frames : List Stamped). IsOwed old.downward.frames old.multiplier.answer frames) acts.0.1 (is.owed a)) awaits;
      }
  take_owes _ link host of acts = absurd acts

  module _ (new : Places) where
    alone : (n : ℕ) (a : Answer) (R : Place → Outcome → Place → Type 0) → OnDevice old n (Ok a) new R → IsOwing new
    alone n a R rule =
        let at : AtDevice old n (Ok a) new R = at_device old n a new R rule in
        kept_owing old new (record {
          host = ap (λ (w : Places). w.host) at.new_is;
          down = ap (λ (w : Places). w.downward) at.new_is;
          waits = ap (λ (w : Places). w.multiplier.answer) at.new_is;
          up = ap (λ (w : Places). w.upward) at.new_is;
        }) is

    both : (n : ℕ) (a : Answer) (R : Place → PmState → Outcome → Place → PmState → Type 0) → ((place after : Place) (left : PmState) → R place old.multiplier (Ok a) after left → left.answer ≡ old.multiplier.answer)
        → OnDeviceAndMultiplier old n (Ok a) new R → IsOwing new
    both n a R waits rule =
        let at : AtBoth old n (Ok a) new R = at_both old n a new R rule in
        kept_owing old new (record {
          host = ap (λ (w : Places). w.host) at.new_is;
          down = ap (λ (w : Places). w.downward) at.new_is;
          waits = ap (λ (w : Places). w.multiplier.answer) at.new_is ∙ waits at.place at.after at.left at.rule;
          up = ap (λ (w : Places). w.upward) at.new_is;
        }) is

    host_now : (down : List Stamped) (waits : Option Stamped) (up : List Stamped) → new.downward.frames ≡ down → new.multiplier.answer ≡ waits → new.upward.frames ≡ up → HostOwes down waits up new.host → IsOwing new
    host_now down waits up d w u h = record {
      going = h.going;
      their = h.their;
      owed = λ a.
          subst (λ (x : List Stamped). IsOwed new.downward.frames new.multiplier.answer x) (sym u)
          (subst (λ (x : Option Stamped). IsOwed new.downward.frames x up) (sym w) (subst (λ (x : List Stamped). IsOwed x waits up) (sym d) (h.owed a)));
    }

    aside : new ≡ with_host old new.host → HostOwes old.downward.frames old.multiplier.answer old.upward.frames new.host → IsOwing new
    aside same h =
        host_now old.downward.frames old.multiplier.answer old.upward.frames (ap (λ (w : Places). w.downward.frames) same) (ap (λ (w : Places). w.multiplier.answer) same) (ap (λ (w : Places). w.upward.frames) same) h

    by_step : (s : Step) (a : Answer) → Rule old s (Ok a) new → IsOwing new
    by_step (step.Came n) a rule = alone n a (CameRule n) rule
    by_step (step.Gone n) a rule = alone n a (GoneRule n) rule
    by_step (step.DiskSend n) a rule = alone n a (DiskSendRule n) rule
    by_step (step.Inject n bytes) a rule = alone n a (InjectRule n bytes) rule
    by_step (step.DiskTake n) a rule = alone n a (DiskTakeRule n) rule
    by_step (step.PmPresence n) a rule = both n a (PmPresenceRule n) (λ place after left r. presence_waits n place old.multiplier a after left r) rule
    by_step (step.PmFromDevice n) a rule = both n a (PmFromDeviceRule n) (λ place after left r. from_device_waits n place old.multiplier a after left r) rule
    by_step (step.PmDown n) a rule = both n a (PmDownRule n) (λ place after left r. down_waits n place old.multiplier a after left r) rule
    by_step step.PmFromHost a rule =
        host_now new.downward.frames new.multiplier.answer old.upward.frames refl refl (ap (λ (w : Places). w.upward.frames) rule.1)
        (idle_host new.downward.frames new.multiplier.answer old.upward.frames new.host (ap (λ (w : Places). w.host) rule.1) (λ o. host_owed old.downward old.multiplier a new.downward new.multiplier old.upward.frames rule.0 o))
    by_step step.PmUp a rule =
        host_now old.downward.frames new.multiplier.answer new.upward.frames (ap (λ (w : Places). w.downward.frames) rule.1) refl refl
        (idle_host old.downward.frames new.multiplier.answer new.upward.frames new.host (ap (λ (w : Places). w.host) rule.1) (λ o. rises_owed old.downward.frames old.multiplier old.upward a new.multiplier new.upward rule.0 o))
    by_step step.HostTake a rule =
        host_now old.downward.frames old.multiplier.answer new.upward.frames (ap (λ (w : Places). w.downward.frames) rule.1) (ap (λ (w : Places). w.multiplier.answer) rule.1) refl
        (take_owes a new.upward new.host
        (λ port conn number bytes report same. goes.control step.HostTake port conn number bytes report new (subst (λ (b : Answer). Rule old step.HostTake (Ok b) new) same rule)) rule.0)
    by_step step.HostPush a rule =
        host_now new.downward.frames old.multiplier.answer old.upward.frames refl (ap (λ (w : Places). w.multiplier.answer) rule.1) (ap (λ (w : Places). w.upward.frames) rule.1) (push_owes a new.host new.downward rule.0)
    by_step step.Tick a rule = aside rule.1 (tick_owes a new.host rule.0)
    by_step (step.Submit dev request) a rule = aside rule.1 (submit_owes dev request a new.host rule.0)
    by_step step.Poll a rule = aside rule.1 (poll_owes a new.host rule.0)
    by_step (step.Put at bytes) a rule = aside rule.1 (put_owes at bytes a new.host rule.0)

-- ---- a run

module _ (lines : OneOrderAtATime) (ports : PortsGoOn) (config : Config) (units : List Attached) (fits : is_config config (length units) ≡ true) where
  run_owing : (before : List Step) (told : List Answer) (old : Places) → Run (new_world config units) before told old → IsOwing old → (steps : List Step) (answers : List Answer) (new : Places) → Run old steps answers new → IsOwing new
  run_owing before told old made is [] [] new run = subst IsOwing (sym run) is
  run_owing before told old made is (s ∷ steps) (a ∷ answers) new run =
      run_owing (before ++ s ∷ []) (told ++ a ∷ []) run.0 (run_more (new_world config units) old before told s a run.0 made run.1)
      (by_step old is (lines config units fits before told old made) (ports config units fits before told old made) run.0 s a run.1) steps answers new run.2
  run_owing before told old made is [] (a ∷ answers) new run = absurd run
  run_owing before told old made is (s ∷ steps) [] new run = absurd run

  opening_owing : IsOwing (new_world config units)
  opening_owing = record {
    going = going_opens 0 (zeroed config.memory) (zeroed_right config.memory (sized config (length units) fits));
    their = λ n s c low busy last. none_issued n s c last;
    owed = λ a. absurd (let wrong = a.there in cc);
  }

  pub owing_in : (steps : List Step) (answers : List Answer) (now : Places) → Run (new_world config units) steps answers now → IsOwing now
  owing_in steps answers now run = run_owing [] [] (new_world config units) refl opening_owing steps answers now run

  -- where nothing is on its way between host and control port, no command of it is unanswered
  pub none_asking : (steps : List Step) (answers : List Answer) (now : Places) → Run (new_world config units) steps answers now → now.downward.frames ≡ [] → now.multiplier.answer ≡ None → now.upward.frames ≡ []
      → IsAsking (view_of 15 now.host.port) → ⊥
  none_asking steps answers now run down waits up a =
      let is : IsOwing now = owing_in steps answers now run in
      none_owed [] None [] tt refl tt
      (subst (λ (x : List Stamped). IsOwed [] None x) up (subst (λ (x : Option Stamped). IsOwed [] x now.upward.frames) waits (subst (λ (x : List Stamped). IsOwed x now.multiplier.answer now.upward.frames) down (is.owed a))))
