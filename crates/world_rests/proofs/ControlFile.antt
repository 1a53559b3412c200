-- For `rested_drivers_watch`. What the control port says on its way to the host, over a run: each answer shows neither BSY nor DRQ, and
-- the host shows neither of them but BSY while a command that went out is unanswered.
use Rattle.std.proofs.Common.{◌≡◌, ◌⊎◌, ◌+◌, ◌*◌, ◌/◌, ◌%◌, ℕ, ◌<◌, ◌≤◌, ◌==◌, Bool, true, false, List, [], ◌∷◌, ◌++◌, length, refl, sym, ap, subst}
use Rattle.std.proofs.{Common.{◌∙◌, inl, inr, Option, Some, None, Ok, Err, arith}, lemmas.Bool.{cases_Bool, cases_eq, true≢false}}
use Rattle.std.proofs.lemmas.List.{length-set}
use Rattle.std.specs.Prelude.{if◌then◌else◌, is_none, slice_index, MatchBool, MatchOption, Result}
use Rattle.fis_view.specs.{Built.{IsBuilt, cut, set_bits_given}, Frames.{IsFrame, Stamped, marked}, Seen.seen, Table.{Bits, D2h, Error, N, PmPort}}
use Rattle.fis_view.specs.{Table.{SActive, Status, field, places}, declared.{build.D2hFields.D2hFields, frame.Stamp.Stamp, view.Fis.Fis}}
use Rattle.fis_view.specs.declared.view.FisFault.{FisFault}
use Rattle.fis_view.specs.declared.view.Fis.TheVariants as view
use Rattle.fis_view.proofs.Door.{frame_bounds, port_bits, port_field, port_written}
use Rattle.pm_registers.specs.{RegisterMap.{RegisterMap, read_at}, declared.words.RegisterError.{RegisterError, TheVariants.{NoPort, NoRegister}}}
use Rattle.pm_control.specs.{Answers.{IsAnswer, answer_to_request, notice_fields, read_answer, refused, signature, write_answer}, Requests.request_in}
use Rattle.pm_control.specs.declared.request.Request.{Request, TheVariants.{Read, Write, Unknown, EndReset}}
use Rattle.pm_ports.specs.Port.{came_refusal, gone_refusal}
use Rattle.multiplier.specs.{Arbiter.control_port, Between.{Answer as Answers, FromPort, Gives, Notice}, Rules.{FromHostRule, ToControl, ToDevice}}
use Rattle.multiplier.specs.{Rules.{ToNobody, ToPort, with_device as connected, without_device}, State.{PmState, control_stamp, passes_to, pm_port}}
use Rattle.multiplier.specs.{State.{port_at, ready, rising}, declared.multiplier.Passed.Passed}
use Rattle.multiplier.specs.declared.multiplier.Passed.TheVariants as passed
use Rattle.multiplier.proofs.Door.{served_below}
use Rattle.hba_fbs.specs.{declared.report.TakeReport.TakeReport, Status.{is_busy, wants_data}, Tables.is_sound, Taking.{admitted, heard_view}}
use Rattle.hba_fbs.specs.{Taking.{ignores, port_of}, Views.view_of}
use Rattle.hba_driver.specs.{HostTurns.{Does, Host, HostTurn, Pushed, Ticked, Took}, Slot31.{Asks, Follows31, IsIn, Pushes31, Resets, Signs, Stage31}}
use Rattle.hba_driver.specs.Slot31.{Turns31, control_of, is_resetting}
use Rattle.hba_driver.proofs.Door.{going_turn, turn31}
use Rattle.pm_world.specs.{Rules.recorded, declared.link.Change.Change}
use Rattle.pm_world.specs.declared.link.Change.TheVariants as change
use Rattle.world_rests.proofs.{Orders.{Among, bits_view, register_view, well_heard}, Settled.{IsSettled, Notes, Says, Tells, noted_settled}}
use Rattle.world_rests.proofs.{Settled.{nothing_pushed, pushed_data, pushed_other, tick_settled, told_settled}, Slot31.IsOut, Ways.{Hears, IsGood}}
use Rattle.world_rests.proofs.Ways.{IsInside, Line, Pushes, Records, Rises, Stays, Takes, Turns, Way}

-- ---- what is said

-- the bytes have the PM Port of the stamp
abbrev pub HasMark : Stamped → Type 0
HasMark f = IsFrame f.bytes → port_of f.bytes ≡ f.stamp.port

-- what the control port says under a stamp
record IsSaid (g : Stamped) (stamp : Stamp) : Type 0 where
  stamped_is : g.stamp ≡ stamp
  says : Says g.bytes
  from : port_of g.bytes ≡ 15

right_busy : is_busy (cut (places D2h Status) 0x50) ≡ false
unfolding cut places
right_busy = refl

wrong_busy : is_busy (cut (places D2h Status) 0x51) ≡ false
unfolding cut places
wrong_busy = refl

right_data : wants_data (cut (places D2h Status) 0x50) ≡ false
unfolding cut places
right_data = refl

wrong_data : wants_data (cut (places D2h Status) 0x51) ≡ false
unfolding cut places
wrong_data = refl

own_port : cut (places D2h PmPort) 15 ≡ 15
unfolding cut places
own_port = refl

said : (fields : D2hFields) (stamp : Stamp) (g : Stamped) → fields.pm_port ≡ 15 → is_busy (cut (places D2h Status) fields.status) ≡ false → wants_data (cut (places D2h Status) fields.status) ≡ false → IsAnswer (Some fields) stamp (Some g) → IsSaid g stamp
said fields stamp g port busy drq is = record {
  stamped_is = is.1;
  says = Tells is.0.viewed (ap is_busy (is.0.fields Status) ∙ busy) (ap wants_data (is.0.fields Status) ∙ drq);
  from = sym (port_bits g.bytes) ∙ sym (port_field D2h g.bytes) ∙ is.0.fields PmPort ∙ ap (cut (places D2h PmPort)) port ∙ own_port;
}

read_said : (r : Result ℕ RegisterError) (stamp : Stamp) (g : Stamped) → IsAnswer (Some (read_answer r)) stamp (Some g) → IsSaid g stamp
read_said (Ok value) stamp g is = said (read_answer (Ok value)) stamp g refl right_busy right_data is
read_said (Err NoPort) stamp g is = said (read_answer (Err NoPort)) stamp g refl wrong_busy wrong_data is
read_said (Err NoRegister) stamp g is = said (read_answer (Err NoRegister)) stamp g refl wrong_busy wrong_data is

write_said : (r : Result ℕ RegisterError) (stamp : Stamp) (g : Stamped) → IsAnswer (Some (write_answer r)) stamp (Some g) → IsSaid g stamp
write_said (Ok value) stamp g is = said (write_answer (Ok value)) stamp g refl right_busy right_data is
write_said (Err NoPort) stamp g is = said (write_answer (Err NoPort)) stamp g refl wrong_busy wrong_data is
write_said (Err NoRegister) stamp g is = said (write_answer (Err NoRegister)) stamp g refl wrong_busy wrong_data is

end_said : (b : Bool) (stamp : Stamp) (g : Stamped) → IsAnswer (if b then Some signature else None) stamp (Some g) → IsSaid g stamp
end_said true stamp g is = said signature stamp g refl right_busy right_data is
end_said false stamp g is = absurd is

request_said : (mark : Bool) (m : RegisterMap) (r : Option Request) (stamp : Stamp) (g : Stamped) → IsAnswer (answer_to_request mark m r) stamp (Some g) → IsSaid g stamp
request_said mark m (Some (Read at)) stamp g is = read_said (read_at m at.port at.register) stamp g is
request_said mark m (Some (Write at value)) stamp g is = write_said (read_at m at.port at.register) stamp g is
request_said mark m (Some Unknown) stamp g is = said (refused 4) stamp g refl wrong_busy wrong_data is
request_said mark m (Some EndReset) stamp g is = end_said mark stamp g is
request_said mark m other stamp g is = absurd is

notice_status : cut (places Bits Status) 0x50 ≡ 0x50
unfolding cut places
notice_status = refl

notice_names : cut (places Bits SActive) 0 ≡ 0
unfolding cut places
notice_names = refl

notice_notes : cut (places Bits N) 1 ≡ 1
unfolding cut places
notice_notes = refl

notice_port : cut (places Bits PmPort) 15 ≡ 15
unfolding cut places
notice_port = refl

notice_said : (g : Stamped) (stamp : Stamp) → IsBuilt Bits (set_bits_given notice_fields) g.bytes → g.stamp ≡ stamp → IsSaid g stamp
notice_said g stamp built is = record {
  stamped_is = is;
  says = Notes built.viewed (built.fields Status ∙ notice_status) (built.fields SActive ∙ notice_names) (built.fields N ∙ notice_notes);
  from = sym (port_bits g.bytes) ∙ sym (port_field Bits g.bytes) ∙ built.fields PmPort ∙ notice_port;
}

-- ---- over a run

pub record IsCalm (l : Line) : Type 0 where
  pub marks : (f : Stamped) → Among f l.up → HasMark f
  pub up : (f : Stamped) → Among f l.up → f.stamp.port ≡ 15 → Says f.bytes
  pub waits : (f : Stamped) → l.pm.answer ≡ Some f → (f.stamp.port ≡ 15) × (port_of f.bytes ≡ 15) × Says f.bytes
  pub shows : IsSettled (view_of 15 l.host.port)

pub among_either : (f g : Stamped) (xs : List Stamped) → Among f (xs ++ g ∷ []) → Among f xs ⊎ (g ≡ f)
among_either f g [] (inl same) = inr same
among_either f g [] (inr never) = absurd never
among_either f g (x ∷ xs) (inl same) = inl (inl same)
among_either f g (x ∷ xs) (inr rest) = elim (among_either f g xs rest) [ inl was ↦ inl (inr was) | inr last ↦ inr last ]

pub among_first : (f g : Stamped) (xs ys : List Stamped) → ys ≡ g ∷ xs → Among f xs → Among f ys
among_first f g xs ys is there = subst (Among f) (sym is) (inr there)

-- ---- the multiplier

pub recorded_answer : (pm : PmState) (n : ℕ) (c : Change) → (recorded pm n c).answer ≡ pm.answer
recorded_answer pm n (change.Came conn) = by_test (is_none (came_refusal (port_at pm n) conn))
  where
    by_test : (b : Bool) → (if b then connected pm n conn else pm).answer ≡ pm.answer
    by_test true = refl
    by_test false = refl
recorded_answer pm n (change.Gone conn) = by_test (is_none (gone_refusal (port_at pm n) conn))
  where
    by_test : (b : Bool) → (if b then without_device pm n conn else pm).answer ≡ pm.answer
    by_test true = refl
    by_test false = refl

module _ (old new : PmState) (f : Stamped) where
  by_conn : (p : Passed) (o : Option ℕ) → MatchOption o (ToNobody old (Ok p) new) (λ conn. ToDevice old (pm_port f) conn f (Ok p) new) → new.answer ≡ old.answer
  by_conn passed.Dropped None acts = ap (λ (pm : PmState). pm.answer) acts
  by_conn _ None acts = absurd acts
  by_conn (passed.Down m) (Some conn) acts = ap (λ (pm : PmState). pm.answer) acts.2
  by_conn _ (Some conn) acts = absurd acts

  by_control : (p : Passed) → ToControl old f (Ok p) new → IsAnswer (answer_to_request old.resetting old.registers (request_in f.bytes)) (control_stamp old) new.answer
  by_control passed.Control acts = acts.1
  by_control _ acts = absurd acts

  -- what waits afterwards waited before, or was said now
  heard_waits : (p : Passed) → FromHostRule old f (Ok p) new → (g : Stamped) → new.answer ≡ Some g → (old.answer ≡ Some g) ⊎ IsSaid g (control_stamp old)
  heard_waits p rule g now = by_port (pm_port f == control_port) rule
    where
      by_port : (b : Bool) → MatchBool b (ToControl old f (Ok p) new) (ToPort old f (Ok p) new) → (old.answer ≡ Some g) ⊎ IsSaid g (control_stamp old)
      by_port true acts =
          inr (request_said old.resetting old.registers (request_in f.bytes) (control_stamp old) g
          (subst (λ (o : Option Stamped). IsAnswer (answer_to_request old.resetting old.registers (request_in f.bytes)) (control_stamp old) o) now (by_control p acts)))
      by_port false acts = inl (sym (by_conn p (passes_to old (pm_port f)) acts) ∙ now)

-- ---- a frame that rises

mark_mod : (a n : ℕ) → n < 16 → (a / 16 * 16 + n) % 16 ≡ n
mark_mod a n low = omega (arith, low)

rising_mark : (n : ℕ) (was f : Stamped) → n < 16 → was.stamp.port ≡ n → f ≡ rising n was → HasMark f
rising_mark n was f low of is frame =
    let long : 4 ≤ length (marked was.bytes n) = (frame_bounds (marked was.bytes n) (subst (λ (x : Stamped). IsFrame x.bytes) is frame)).0 in
    let as_long : length (marked was.bytes n) ≡ length was.bytes = length-set was.bytes 1 (slice_index was.bytes 1 / 16 * 16 + n) in
    ap (λ (x : Stamped). port_of x.bytes) is ∙ port_written was.bytes (slice_index was.bytes 1 / 16 * 16 + n) n (omega (arith, long, as_long)) (mark_mod (slice_index was.bytes 1) n low)
    ∙ ap (λ (x : Stamped). x.stamp.port) (sym is)

module _ (l : Line) (good : IsGood l) (c : IsCalm l) (f : Stamped) (pm : PmState) where
  -- the frame that rose, and what waits then
  record IsRisen : Type 0 where
    mark : HasMark f
    says : f.stamp.port ≡ 15 → Says f.bytes
    waits : (g : Stamped) → pm.answer ≡ Some g → l.pm.answer ≡ Some g

  risen : Gives l.pm f pm → IsRisen
  risen (FromPort n was next other is port shown e) =
      let low : n < 16 = served_below (ready l.pm) l.pm.served n good.served next in
      record {
        mark = rising_mark n was f low port shown;
        says = λ own. absurd (other (sym (ap (λ (x : Stamped). x.stamp.port) shown) ∙ own));
        waits = λ g now. sym (ap (λ (x : PmState). x.answer) e) ∙ now;
      }
  risen (Notice next due is e) =
      let s : IsSaid f (control_stamp l.pm) = notice_said f (control_stamp l.pm) is.0 is.1 in
      record { mark = λ frame. s.from ∙ sym (ap (λ (x : Stamp). x.port) s.stamped_is); says = λ own. s.says; waits = λ g now. sym (ap (λ (x : PmState). x.answer) e) ∙ now }
  risen (Answers next is e) =
      let w = c.waits f is in
      record { mark = λ frame. w.1 ∙ sym w.0; says = λ own. w.2; waits = λ g now. absurd (let wrong : None ≡ Some g = sym (ap (λ (x : PmState). x.answer) e) ∙ now in cc) }

  rises_calm : Gives l.pm f pm → IsCalm (record l { pm = pm; up = l.up ++ f ∷ [] })
  rises_calm gave =
      let r : IsRisen = risen gave in
      record {
        marks = λ g there. elim (among_either g f l.up there) [ inl was ↦ c.marks g was | inr same ↦ subst HasMark same r.mark ];
        up = λ g there own. elim (among_either g f l.up there) [
          | inl was ↦ c.up g was own
          | inr same ↦ subst (λ (x : Stamped). Says x.bytes) same (r.says (ap (λ (x : Stamped). x.stamp.port) same ∙ own))
        ];
        waits = λ g now. c.waits g (r.waits g now);
        shows = c.shows;
      }

-- ---- a frame that the host takes

module _ (l : Line) (g : IsGood l) (c : IsCalm l) (f : Stamped) (rest : List Stamped) (is : l.up ≡ f ∷ rest) (report : TakeReport) (host : Host) (does : Does l.host (Took f.bytes report) host) where
  first : Among f l.up
  first = subst (Among f) (sym is) (inl refl)

  port_is : port_of f.bytes ≡ f.stamp.port
  port_is = c.marks f first does.framed

  abbrev sound : Bool
  sound = is_sound l.host.memory l.host.port.commands (view_of 15 l.host.port).slots

  module _ (own : port_of f.bytes ≡ 15) (hears : ignores (port_of f.bytes) l.host.port f.bytes ≡ false) where
    left : view_of 15 host.port ≡ heard_view 15 (view_of 15 l.host.port) sound (admitted 15 (seen f.bytes))
    left = subst (λ (n : ℕ). view_of n host.port ≡ heard_view n (view_of n l.host.port) (is_sound l.host.memory l.host.port.commands (view_of n l.host.port).slots) (admitted n (seen f.bytes))) own (does.heard hears).own

    as_seen : (r : Fis) → seen f.bytes ≡ Ok r → view_of 15 host.port ≡ heard_view 15 (view_of 15 l.host.port) sound (admitted 15 (Ok r))
    as_seen r viewed = left ∙ ap (λ (o : Result Fis FisFault). heard_view 15 (view_of 15 l.host.port) sound (admitted 15 o)) viewed

    by_says : Says f.bytes → IsSettled (view_of 15 host.port)
    by_says (Tells viewed busy drq) =
        subst IsSettled (sym (as_seen (view.RegD2H f.bytes) viewed ∙ register_view (view_of 15 l.host.port) sound f.bytes)) (told_settled (view_of 15 l.host.port) f.bytes busy drq)
    by_says (Notes viewed status names notes) =
        subst IsSettled (sym (as_seen (view.SetBits f.bytes) viewed ∙ bits_view (view_of 15 l.host.port) sound f.bytes))
        (noted_settled (view_of 15 l.host.port) (field Bits Status f.bytes) (field Bits Error f.bytes) (field Bits SActive f.bytes) status names c.shows (well_heard l.host.port f.bytes own hears))

  taken_view : IsSettled (view_of 15 host.port)
  taken_view = elim (cases_Bool (ignores (port_of f.bytes) l.host.port f.bytes)) [
    | inl skips ↦ subst (λ p. IsSettled (view_of 15 p)) (sym (does.ignored skips).port) c.shows
    | inr hears ↦ elim (cases_eq (port_of f.bytes) 15) [
      | inr other ↦ subst IsSettled (sym ((does.heard hears).others 15 (λ same. other (sym same)))) c.shows
      | inl own ↦ by_says own hears (c.up f first (sym port_is ∙ own))
    ]
  ]

  takes_calm : IsCalm (record l { host = host; up = rest })
  takes_calm = record {
    marks = λ x there. c.marks x (among_first x f rest l.up is there);
    up = λ x there. c.up x (among_first x f rest l.up is there);
    waits = c.waits;
    shows = taken_view;
  }

-- ---- a frame that the host gives

module _ (l : Line) (g : IsGood l) (c : IsCalm l) (f : Stamped) (host : Host) (does : Does l.host (Pushed (Some f)) host) where
  turn : Turns31 g.stage l.host (Pushed (Some f)) host
  turn = turn31 l.host g.going (Pushed (Some f)) host (going_turn l.host (Pushed (Some f)) host does g.going tt) does g.stage g.at tt

  -- outside of a software reset the frame is a command, which is out
  own_out : f.stamp.port ≡ 15 → (view_of 15 host.port).state.resetting ≡ false → IsOut (view_of 15 host.port).slots
  own_out own calm = by_way p.follows
    where
      p : Pushes31 g.stage l.host f turn.next
      p = turn.is.0 own

      never : (s : Stage31) → turn.next ≡ s → is_resetting s ≡ true → IsOut (view_of 15 host.port).slots
      never s same on = absurd (true≢false (sym on ∙ ap is_resetting (sym same) ∙ sym turn.at.resetting ∙ calm))

      by_way : Follows31 g.stage l.host.driver.plan.order turn.next → IsOut (view_of 15 host.port).slots
      by_way (inl h) = never Resets h.2 refl
      by_way (inr (inl h)) =
          let in_asks : IsIn Asks host.driver.plan.order host.driver.plan.asked (control_of host) = subst (λ (s : Stage31). IsIn s host.driver.plan.order host.driver.plan.asked (control_of host)) h.2 turn.at.is in
          record { issue = in_asks.2.issue; there = in_asks.2.issued; sent = in_asks.2.sent }
      by_way (inr (inr h)) = never Signs h.2 refl

  pushed_view : IsSettled (view_of 15 host.port)
  pushed_view = elim (cases_eq f.stamp.port 15) [
    | inr other ↦ subst IsSettled (sym (pushed_other l.host host f does other)) c.shows
    | inl own ↦ record { drq = pushed_data l.host host f does own c.shows.drq; busy = λ set well calm. own_out own calm }
  ]

-- ---- each way

turned_view : (l : Line) → IsGood l → (t : HostTurn) → IsInside t → (host : Host) → Does l.host t host → IsSettled (view_of 15 l.host.port) → IsSettled (view_of 15 host.port)
turned_view l g (Took frame report) inside host does is = absurd inside
turned_view l g (Pushed None) inside host does is = nothing_pushed l.host host does is
turned_view l g (Pushed (Some f)) inside host does is = absurd inside
turned_view l g (Ticked acted) inside host does is = tick_settled l.host host acted g.going.way.sound does is
turned_view l g other inside host does is = subst (λ p. IsSettled (view_of 15 p)) (sym does.port) is

with_waits : (l : Line) (pm : PmState) (down : List Stamped) → ((g : Stamped) → pm.answer ≡ Some g → (l.pm.answer ≡ Some g) ⊎ IsSaid g (control_stamp l.pm)) → IsCalm l → IsCalm (record l { pm = pm; down = down })
with_waits l pm down from c = record {
  marks = c.marks;
  up = c.up;
  waits = λ g now. elim (from g now) [ inl was ↦ c.waits g was | inr s ↦ (ap (λ (x : Stamp). x.port) s.stamped_is, s.from, s.says) ];
  shows = c.shows;
}

pub keeps_calm : (l m : Line) → IsGood l → IsGood m → Way l m → IsCalm l → IsCalm m
keeps_calm l m g h (Stays pm registers resetting answer e) c = subst IsCalm (sym e) (with_waits l pm l.down (λ x now. inl (sym answer ∙ now)) c)
keeps_calm l m g h (Records n what e) c = subst IsCalm (sym e) (with_waits l (recorded l.pm n what) l.down (λ x now. inl (sym (recorded_answer l.pm n what) ∙ now)) c)
keeps_calm l m g h (Hears f rest p pm is rule e) c = subst IsCalm (sym e) (with_waits l pm rest (heard_waits l.pm pm f p rule) c)
keeps_calm l m g h (Rises f pm gave e) c = subst IsCalm (sym e) (rises_calm l g c f pm gave)
keeps_calm l m g h (Takes f rest report host is does of e) c = subst IsCalm (sym e) (takes_calm l g c f rest is report host does)
keeps_calm l m g h (Pushes f host does e) c =
    subst IsCalm (sym e) (record { marks = c.marks; up = c.up; waits = c.waits; shows = pushed_view l g c f host does })
keeps_calm l m g h (Turns t inside host does e) c =
    subst IsCalm (sym e) (record { marks = c.marks; up = c.up; waits = c.waits; shows = turned_view l g t inside host does c.shows })
