-- What a frame that goes up is to those that went up before, and to what waits. The step back is the same, read backwards.
use Rattle.std.proofs.Common.{◌≡◌, ◌≢◌, ℕ, ◌<◌, ◌==◌, ◌&&◌, Bool, true, false, List, [], ◌∷◌, ◌++◌, map, slice_index, Option, Some, None, refl, sym}
use Rattle.std.proofs.{Common.{ap, ◌∙◌, subst, arith, inl, inr}, lemmas.{Bool.{cases_eq, ne_eqb, eqb-true}, Option.same_Some, List.{append-nil}}}
use Rattle.std.specs.{Prelude.{if◌then◌else◌}, Option.option_to_list}
use Rattle.fis_view.specs.{Frames.Stamped, declared.frame.Stamp.Stamp}
use Rattle.pm_registers.specs.RegisterMap as map
use Rattle.pm_ports.specs.Port as port
use Rattle.multiplier.specs.{Arbiter.control_port, State.{PmState, IsSound, ShowsRecorded, port_at, held, rising, control_stamp, counted, is_answer}}
use Rattle.multiplier.specs.{State.is_notice, Rules.{KeepsPorts, held_source, may_go_back}, Passing.{of_conn, held_of, falls_to, answers}}
use Rattle.multiplier.specs.Between.{Answer, FromPort, Gives, Notice, Ports, at, lowered}
use Rattle.multiplier.proofs.{ArbiterLemmas.different, Ports.{kept_part, this_port, other_port, has_up}, Sound.{notice_is, notice_is_no_answer}}
use Rattle.multiplier.proofs.{Sound.stamp_shows, GiveLemmas.{given_keeps, place_small}, PutBack.gives_held}

pub record IsUpStep (old : PmState) (frame : Stamped) (new : PmState) : Type 0 where
  -- of a device port, the frame is the one that was held
  pub up : (n c : ℕ) → n < 15 → of_conn n c (frame ∷ []) ++ held_of n c new ≡ held_of n c old
  pub down : (n : ℕ) → falls_to n new ≡ falls_to n old
  -- an answer is the one that waited
  pub answered : answers (frame ∷ []) ++ option_to_list new.answer ≡ option_to_list old.answer
  -- a notification has the next number
  pub number : new.number ≡ (if is_notice frame then counted old.number else old.number)
  pub numbered : is_notice frame ≡ true → frame.stamp.number ≡ old.number
  -- a frame of a device port is of the connection that came last
  pub connection : (n : ℕ) → n < 15 → frame.stamp.port ≡ n → frame.stamp.conn ≡ (port_at old n).last
  pub above : (n : ℕ) → n < 15 → frame.stamp.port ≡ n → (port_at old n).gone < frame.stamp.conn
  -- one of the control port shows what is recorded
  pub shows : frame.stamp.port ≡ control_port → ShowsRecorded old frame.stamp
  pub last : (n : ℕ) → (port_at new n).last ≡ (port_at old n).last
  pub gone : (n : ℕ) → (port_at new n).gone ≡ (port_at old n).gone
  pub present : (n : ℕ) → (port_at new n).present ≡ (port_at old n).present

pub both_by : (a b : Bool) → (a && b) ≡ true → (a ≡ true) × (b ≡ true)
both_by true true e = (refl, refl)
both_by true false e = absurd cc
both_by false b e = absurd cc

none_by : (a b : Bool) → a ≡ false → (a && b) ≡ false
none_by true b e = absurd cc
none_by false b e = refl

-- a frame of another port is none of this one
pub of_other : (n c : ℕ) (frame : Stamped) → frame.stamp.port ≢ n → of_conn n c (frame ∷ []) ≡ []
of_other n c frame ne = rw (none_by (frame.stamp.port == n) (frame.stamp.conn == c) (ne_eqb frame.stamp.port n ne)) refl

no_answer : (frame : Stamped) → frame.stamp.port ≢ control_port → is_answer frame ≡ false
no_answer frame ne = none_by (frame.stamp.port == control_port) _ (ne_eqb frame.stamp.port control_port ne)

pub no_notice : (frame : Stamped) → frame.stamp.port ≢ control_port → is_notice frame ≡ false
no_notice frame ne = none_by (frame.stamp.port == control_port) _ (ne_eqb frame.stamp.port control_port ne)

pub answer_port : (frame : Stamped) → is_answer frame ≡ true → frame.stamp.port ≡ control_port
answer_port frame is = eqb-true frame.stamp.port control_port (both_by (frame.stamp.port == control_port) _ is).0

pub answer_no_notice : (frame : Stamped) → is_answer frame ≡ true → is_notice frame ≡ false
answer_no_notice frame is =
    let type : slice_index frame.bytes 0 ≡ 0x34 = eqb-true (slice_index frame.bytes 0) 0x34 (both_by (frame.stamp.port == control_port) _ is).1 in
    last_by (frame.stamp.port == control_port) _ (ne_eqb (slice_index frame.bytes 0) 0xA1 (λ h. absurd (omega arith)))
  where
    last_by : (a b : Bool) → b ≡ false → (a && b) ≡ false
    last_by true b e = e
    last_by false b e = refl

-- a frame that may go up is of the connection that is present
present_by : (test : Bool) (present : Option ℕ) (frame was : Stamped) → port.only_if (test && port.is_of_present present frame) frame ≡ Some was → present ≡ Some frame.stamp.conn
present_by true (Some conn) frame was e = by_conn (frame.stamp.conn == conn) refl e
  where
    by_conn : (b : Bool) → (frame.stamp.conn == conn) ≡ b → port.only_if b frame ≡ Some was → Some conn ≡ Some frame.stamp.conn
    by_conn true is e = ap (λ (c : ℕ). Some c) (sym (eqb-true frame.stamp.conn conn is))
    by_conn false is e = absurd cc
present_by true None frame was e = absurd cc
present_by false present frame was e = absurd cc

rises_present : (test : Bool) (present : Option ℕ) (up : Option Stamped) (was : Stamped) → port.rises test present up ≡ Some was → present ≡ Some was.stamp.conn
rises_present test present None was e = absurd cc
rises_present test present (Some frame) was e =
    let same : frame ≡ was = same_Some frame was (gives_held test present (Some frame) was e) in
    present_by test present frame was e ∙ ap (λ (f : Stamped). Some f.stamp.conn) same

module _ (old : PmState) (frame : Stamped) (new : PmState) (sound : IsSound old) where
  -- ---- from a port

  module _ (m : ℕ) (was : Stamped) (below : m < 15) (is : held old m ≡ Some was) (rises : frame ≡ rising m was)
      (e : new ≡ record (lowered old m) { served = m; given = may_go_back old (held_source was) frame }) where
    holds : (port_at old m).up ≡ Some was
    holds = gives_held (map.forwards old.registers m) (port_at old m).present (port_at old m).up was is

    empty : (port_at new m).up ≡ None
    empty =
        ap (λ (pm : PmState). (port_at pm m).up) e
        ∙ ap (λ (p : port.PortState). p.up) (this_port old.ports m (port.with_up (port_at old m) None) (has_up old.ports m was holds))

    elsewhere : (n : ℕ) → n ≢ m → (port_at new n).up ≡ (port_at old n).up
    elsewhere n ne =
        ap (λ (pm : PmState). (port_at pm n).up) e
        ∙ ap (λ (p : port.PortState). p.up) (other_port old.ports m n (port.with_up (port_at old m) None) ne)

    is_of : frame.stamp.port ≡ m
    is_of = ap (λ (f : Stamped). f.stamp.port) rises

    port_up : (n c : ℕ) → of_conn n c (frame ∷ []) ++ held_of n c new ≡ held_of n c old
    port_up n c =
        elim (cases_eq n m) [
          | inl here ↦ subst (λ (k : ℕ). of_conn k c (frame ∷ []) ++ held_of k c new ≡ held_of k c old) (sym here) (
              ap (λ (o : Option Stamped). of_conn m c (frame ∷ []) ++ of_conn m c (map (rising m) (option_to_list o))) empty
              ∙ append-nil (of_conn m c (frame ∷ []))
              ∙ ap (λ (f : Stamped). of_conn m c (f ∷ [])) rises
              ∙ ap (λ (o : Option Stamped). of_conn m c (map (rising m) (option_to_list o))) (sym holds))
          | inr other ↦
              ap (λ (xs : List Stamped). xs ++ held_of n c new) (of_other n c frame (λ h. other (sym h ∙ is_of)))
              ∙ ap (λ (o : Option Stamped). of_conn n c (map (rising n) (option_to_list o))) (elsewhere n other)
        ]

    there : (port_at old m).present ≡ Some was.stamp.conn
    there = rises_present (map.forwards old.registers m) (port_at old m).present (port_at old m).up was is

    port_above : (n : ℕ) → frame.stamp.port ≡ n → (port_at old n).gone < frame.stamp.conn
    port_above n at =
        let above : (port_at old m).gone < was.stamp.conn = (sound.ports m).sound.above was.stamp.conn there in
        let here : (port_at old n).gone ≡ (port_at old m).gone = ap (λ (k : ℕ). (port_at old k).gone) (sym at ∙ is_of) in
        let same : frame.stamp.conn ≡ was.stamp.conn = ap (λ (f : Stamped). f.stamp.conn) rises in
        omega arith

    port_connection : (n : ℕ) → frame.stamp.port ≡ n → frame.stamp.conn ≡ (port_at old n).last
    port_connection n at =
        ap (λ (f : Stamped). f.stamp.conn) rises ∙ (sound.ports m).sound.last was.stamp.conn there ∙ ap (λ (k : ℕ). (port_at old k).last) (sym is_of ∙ at)

    no_control : frame.stamp.port ≢ control_port
    no_control h = absurd (let k : m ≡ 15 = sym is_of ∙ h in omega arith)

    pub port_step : KeepsPorts old new → IsUpStep old frame new
    port_step keeps = record {
      up = λ n c lt. port_up n c;
      down = λ n. ap (λ (pm : PmState). falls_to n pm) e ∙ ap option_to_list (kept_part (λ (p : port.PortState). p.down) old.ports m (port.with_up (port_at old m) None) refl n);
      answered = rw (no_answer frame no_control) (ap (λ (pm : PmState). option_to_list pm.answer) e);
      number = rw (no_notice frame no_control) (ap (λ (pm : PmState). pm.number) e);
      numbered = λ is. absurd (let no : is_notice frame ≡ false = no_notice frame no_control in cc);
      connection = λ n lt at. port_connection n at;
      above = λ n lt at. port_above n at;
      shows = λ control. absurd (no_control control);
      last = keeps.last;
      gone = keeps.gone;
      present = keeps.present;
    }

  -- ---- from the control port

  module _ (of_control : frame.stamp.port ≡ control_port) (ports : new.ports ≡ old.ports) where
    control_up : (n c : ℕ) → n < 15 → of_conn n c (frame ∷ []) ++ held_of n c new ≡ held_of n c old
    control_up n c lt =
        ap (λ (xs : List Stamped). xs ++ held_of n c new) (of_other n c frame (λ h. absurd (let k : n ≡ 15 = sym h ∙ of_control in omega arith)))
        ∙ ap (λ (ps : Ports). of_conn n c (map (rising n) (option_to_list (at ps n).up))) ports

    control_connection : (n : ℕ) → n < 15 → frame.stamp.port ≡ n → frame.stamp.conn ≡ (port_at old n).last
    control_connection n lt at = absurd (let k : n ≡ 15 = sym at ∙ of_control in omega arith)

    control_above : (n : ℕ) → n < 15 → frame.stamp.port ≡ n → (port_at old n).gone < frame.stamp.conn
    control_above n lt at = absurd (let k : n ≡ 15 = sym at ∙ of_control in omega arith)

    control_down : (n : ℕ) → falls_to n new ≡ falls_to n old
    control_down n = ap (λ (ps : Ports). option_to_list (at ps n).down) ports

  pub up_step : Gives old frame new → IsUpStep old frame new
  up_step (FromPort m was at other is stamped rises e) =
      port_step m was (different m control_port (place_small old m sound at) other) is rises e (given_keeps old frame new (FromPort m was at other is stamped rises e))
  up_step (Notice at due is e) =
      let keeps : KeepsPorts old new = given_keeps old frame new (Notice at due is e) in
      let stamped : frame.stamp.port ≡ control_port = ap (λ (s : Stamp). s.port) is.1 in
      let ports : new.ports ≡ old.ports = ap (λ (pm : PmState). pm.ports) e in
      let notice : is_notice frame ≡ true = notice_is (control_stamp old) refl frame is in
      record {
        up = control_up stamped ports;
        down = control_down stamped ports;
        answered = rw (notice_is_no_answer (control_stamp old) frame is) (ap (λ (pm : PmState). option_to_list pm.answer) e);
        number = rw notice (ap (λ (pm : PmState). pm.number) e);
        numbered = λ yes. ap (λ (s : Stamp). s.number) is.1;
        connection = control_connection stamped ports;
        above = control_above stamped ports;
        shows = λ control. subst (ShowsRecorded old) (sym is.1) (stamp_shows old);
        last = keeps.last;
        gone = keeps.gone;
        present = keeps.present;
      }
  up_step (Answer at is e) =
      let keeps : KeepsPorts old new = given_keeps old frame new (Answer at is e) in
      let answer : is_answer frame ≡ true = sound.answer frame is in
      let stamped : frame.stamp.port ≡ control_port = answer_port frame answer in
      let ports : new.ports ≡ old.ports = ap (λ (pm : PmState). pm.ports) e in
      record {
        up = control_up stamped ports;
        down = control_down stamped ports;
        answered = rw answer (ap (λ (pm : PmState). frame ∷ option_to_list pm.answer) e ∙ ap option_to_list (sym is));
        number = rw (answer_no_notice frame answer) (ap (λ (pm : PmState). pm.number) e);
        numbered = λ yes. absurd (let no : is_notice frame ≡ false = answer_no_notice frame answer in cc);
        connection = control_connection stamped ports;
        above = control_above stamped ports;
        shows = λ control. sound.shows frame is;
        last = keeps.last;
        gone = keeps.gone;
        present = keeps.present;
      }
