-- Putting a frame back undoes the call that gave it.
use Rattle.std.proofs.Common.{◌≡◌, ℕ, ◌+◌, ◌*◌, ◌/◌, ◌%◌, ◌<◌, ◌≤◌, ◌&&◌, Bool, true, false, List, [], ◌∷◌, length, slice_index, Option, Some, None}
use Rattle.std.proofs.{Common.{Ok, refl, sym, ap, ◌∙◌, subst, arith}, lemmas.List.{set-set, set-get_or, get_or-set_same}}
use Rattle.std.specs.Prelude.{slice_set, slice_index_or}
use Rattle.fis_view.specs.{Frames.{Stamped, marked}, declared.frame.Stamp.Stamp}
use Rattle.pm_ports.specs.Port as port
use Rattle.pm_control.specs.Answers.{IsNotice}
use Rattle.pm_registers.specs.RegisterMap as map
use Rattle.multiplier.specs.{Arbiter.control_port, State.{PmState, IsSound, port_at, with_port, held, rising, control_stamp, counted, pm_port}}
use Rattle.multiplier.specs.{State.settled, Rules.{CanPutBackUp, CanPutBackDown, UndoesUp, UndoesDown, KeepsPorts, HasRoomFor, put_back, held_source}}
use Rattle.multiplier.specs.{Rules.may_go_back, declared.given.Given.Given, Between.{Answer, FromPort, Gives, Notice, lowered}}
use Rattle.multiplier.specs.declared.given.Source.TheVariants as source
use Rattle.multiplier.proofs.{ArbiterLemmas.different, Ports.{has_down, has_up}, GiveLemmas.{gives, given_keeps, given_sound, place_small}}
use Rattle.multiplier.proofs.GiveLemmas.{up_rule_keeps, down_rule_keeps}

gives_only : (test : Bool) (frame was : Stamped) → port.only_if test frame ≡ Some was → Some frame ≡ Some was
gives_only true frame was e = e
gives_only false frame was e = absurd cc

-- what a port gives is what it holds
pub gives_held : (passes : Bool) (present : Option ℕ) (up : Option Stamped) (was : Stamped) → port.rises passes present up ≡ Some was → up ≡ Some was
gives_held passes present None was e = absurd cc
gives_held passes present (Some frame) was e = gives_only (passes && port.is_of_present present frame) frame was e

-- a place that is set to what it was
set_back : {A : Type 0} (xs : List A) (i : ℕ) (x y d : A) → y ≡ slice_index_or xs i d → slice_set (slice_set xs i x) i y ≡ xs
set_back xs i x y d e = set-set xs i x y ∙ (ap (λ v. slice_set xs i v) e ∙ set-get_or xs i d)

-- the PM Port that is written back
mark_back : (f : List ℕ) (n : ℕ) → n < 16 → marked (marked f n) (slice_index f 1 % 16) ≡ f
mark_back [] n small = refl
mark_back (a ∷ []) n small = refl
mark_back (a ∷ (b ∷ f)) n small = let e : (b / 16 * 16 + n) / 16 * 16 + b % 16 ≡ b = omega arith in ap (λ x. a ∷ (x ∷ f)) e

-- and the port of the stamp, which stays
stamp_back : (was : Stamped) (n : ℕ) → was.stamp.port ≡ n → (rising n was).stamp ≡ was.stamp
stamp_back was n e = ap (λ (k : ℕ). let s : Stamp = record was.stamp { port = k } in s) (sym e)

frame_back : (was : Stamped) (n : ℕ) → n < 16 → was.stamp.port ≡ n → (let f : Stamped = record { bytes = marked (rising n was).bytes (pm_port was); stamp = (rising n was).stamp } in f) ≡ was
frame_back was n small e =
    ap (λ b. let f : Stamped = record { bytes = b; stamp = (rising n was).stamp } in f) (mark_back was.bytes n small)
    ∙ ap (λ s. let f : Stamped = record { bytes = was.bytes; stamp = s } in f) (stamp_back was n e)

-- the places, as the leave has them
module _ (before now : PmState) (frame : Stamped) where
  port_back : (n : ℕ) (was : Stamped) → n < 16 → held before n ≡ Some was → was.stamp.port ≡ n → frame ≡ rising n was
      → now ≡ record (lowered before n) { served = n; given = may_go_back before (held_source was) frame } → put_back now frame now.given ≡ settled before
  port_back n was small is stamped rises e =
      let q : port.PortState = port_at before n in
      let low : port.PortState = port.with_up q None in
      let holds : q.up ≡ Some was = gives_held (map.forwards before.registers n) q.present q.up was is in
      let there : n < length before.ports = has_up before.ports n was holds in
      let same : slice_index_or (slice_set before.ports n low) n port.empty_port ≡ low = get_or-set_same before.ports n low port.empty_port there in
      let again : Stamped = record { bytes = marked frame.bytes (pm_port was); stamp = frame.stamp } in
      let frame_is : again ≡ was = ap (λ (f : Stamped). let g : Stamped = record { bytes = marked f.bytes (pm_port was); stamp = f.stamp } in g) rises ∙ frame_back was n small stamped in
      let back : port.with_up (slice_index_or (slice_set before.ports n low) n port.empty_port) (Some again) ≡ q =
      ap (λ p. port.with_up p (Some again)) same ∙ (ap (λ f. port.with_up q (Some f)) frame_is ∙ ap (λ w. port.with_up q w) (sym holds)) in
      rw e (ap (λ ps. let pm : PmState = record before { ports = ps; given = None } in pm) (set_back before.ports n low _ port.empty_port back))

  notice_back : before.registers.due ≡ true → IsNotice true (control_stamp before) (Some frame)
      → now ≡ record before { registers = map.after_notice before.registers; number = counted before.number; served = control_port; given = may_go_back before source.Notice frame }
      → put_back now frame now.given ≡ settled before
  notice_back due is e =
      let number : frame.stamp.number ≡ before.number = ap (λ (s : Stamp). s.number) is.1 in
      rw e (ap (λ k. let pm : PmState = record before { registers = record before.registers { due = true }; number = k; given = None } in pm) number
      ∙ ap (λ d. let pm : PmState = record before { registers = record before.registers { due = d }; given = None } in pm) (sym due))

  answer_back : before.answer ≡ Some frame → now ≡ record before { answer = None; served = control_port; given = may_go_back before source.Answer frame }
      → put_back now frame now.given ≡ settled before
  answer_back is e = rw e (ap (λ a. let pm : PmState = record before { answer = a; given = None } in pm) (sym is))

  pub given_back : now.served ≤ control_port → Gives before frame now → put_back now frame now.given ≡ settled before
  given_back small (FromPort n was at other is stamped rises e) =
      let served : now.served ≡ n = ap (λ (pm : PmState). pm.served) e in
      port_back n was (omega arith) is stamped rises e
  given_back small (Notice at due is e) = notice_back due is e
  given_back small (Answer at is e) = answer_back is e

-- ---- a frame that went up

-- the multiplier after a frame that may go back is sound
pub can_back_sound : (pm : PmState) (frame : Stamped) → CanPutBackUp pm frame → IsSound pm
can_back_sound pm frame can = given_sound can.0 frame pm can.1 (gives can.0 frame pm can.2)

pub back_undoes : (pm : PmState) (frame : Stamped) → CanPutBackUp pm frame → UndoesUp pm frame (put_back pm frame pm.given)
back_undoes pm frame can before rule = given_back before pm frame (can_back_sound pm frame can).served (gives before frame pm rule)

pub undone_up : (pm new : PmState) (frame : Stamped) → CanPutBackUp pm frame → new ≡ put_back pm frame pm.given → UndoesUp pm frame new
undone_up pm new frame can e before rule = e ∙ back_undoes pm frame can before rule

-- ports before and after a frame are the same
back_keeps : (before pm new : PmState) → KeepsPorts before pm → new ≡ settled before → KeepsPorts pm new
back_keeps before pm new keeps e = rw e (record { count = sym keeps.count; present = λ n. sym (keeps.present n); last = λ n. sym (keeps.last n); gone = λ n. sym (keeps.gone n) })

pub undone_up_keeps : (pm new : PmState) (frame : Stamped) → CanPutBackUp pm frame → UndoesUp pm frame new → KeepsPorts pm new
undone_up_keeps pm new frame can undoes = back_keeps can.0 pm new (up_rule_keeps can.0 pm (Ok (Some frame)) can.2) (undoes can.0 can.2)

-- ---- a frame that went down

pub down_there : (pm : PmState) (n : ℕ) (frame : Stamped) → CanPutBackDown pm n frame → n < 15
down_there pm n frame can =
    let room : length can.0.ports ≡ 15 = can.1.room in
    let there : n < length can.0.ports = has_down can.0.ports n frame can.2.0 in
    omega arith

pub down_empty : (pm : PmState) (n : ℕ) (frame : Stamped) → CanPutBackDown pm n frame → (port_at pm n).down ≡ None
down_empty pm n frame can =
    let low : port.PortState = port.with_down (port_at can.0 n) None in
    ap (λ (m : PmState). (port_at m n).down) can.2.1
    ∙ ap (λ (p : port.PortState). p.down) (get_or-set_same can.0.ports n low port.empty_port (has_down can.0.ports n frame can.2.0))

-- it is for the connection that is present
pub down_present : (pm : PmState) (n : ℕ) (frame : Stamped) → CanPutBackDown pm n frame → (port_at pm n).present ≡ Some frame.stamp.conn
down_present pm n frame can = (down_rule_keeps can.0 pm n (Some frame) can.2).present n ∙ (can.1.ports n).meant frame can.2.0

pub undone_down : (pm new : PmState) (n : ℕ) (frame : Stamped) → new ≡ with_port pm n (port.with_down (port_at pm n) (Some frame)) → UndoesDown pm n frame new
undone_down pm new n frame is before rule =
    let q : port.PortState = port_at before n in
    let low : port.PortState = port.with_down q None in
    let there : n < length before.ports = has_down before.ports n frame rule.0 in
    let same : slice_index_or (slice_set before.ports n low) n port.empty_port ≡ low = get_or-set_same before.ports n low port.empty_port there in
    let back : port.with_down (slice_index_or (slice_set before.ports n low) n port.empty_port) (Some frame) ≡ q =
    ap (λ p. port.with_down p (Some frame)) same ∙ ap (λ w. port.with_down q w) (sym rule.0) in
    is ∙ rw rule.1 (ap (λ ps. let pm : PmState = record before { ports = ps; given = None } in pm) (set_back before.ports n low _ port.empty_port back))

pub undone_down_keeps : (pm new : PmState) (n : ℕ) (frame : Stamped) → CanPutBackDown pm n frame → UndoesDown pm n frame new → KeepsPorts pm new
undone_down_keeps pm new n frame can undoes = back_keeps can.0 pm new (down_rule_keeps can.0 pm n (Some frame) can.2) (undoes can.0 can.2)

-- the frame's place, when it is given back
module _ (pm : PmState) (frame : Stamped) where
  room_by : (before : PmState) → IsSound before → Gives before frame pm → HasRoomFor pm frame pm.given
  room_by before sound (FromPort n f at other is stamped rises e) =
      let q : port.PortState = port_at before n in
      let small : n ≤ control_port = place_small before n sound at in
      let below : n < 15 = different n control_port small other in
      let served : pm.served ≡ n = ap (λ (m : PmState). m.served) e in
      let there : n < length before.ports = has_up before.ports n f (gives_held (map.forwards before.registers n) q.present q.up f is) in
      let empty : (port_at pm n).up ≡ None =
      ap (λ (m : PmState). (port_at m n).up) e ∙ ap (λ (p : port.PortState). p.up) (get_or-set_same before.ports n (port.with_up q None) port.empty_port there) in
      let gone : (port_at pm pm.served).gone ≡ q.gone = (given_keeps before frame pm (FromPort n f at other is stamped rises e)).gone pm.served ∙ ap (λ (k : ℕ). (port_at before k).gone) served in
      let stays : port.is_gone (port_at pm pm.served) frame.stamp.conn ≡ false =
      ap (λ (g : ℕ). port.is_up_to g frame.stamp.conn) gone ∙ ap (λ (g : Stamped). port.is_gone q g.stamp.conn) rises
      ∙ (sound.ports n).stays f (gives_held (map.forwards before.registers n) q.present q.up f is) in
      subst (λ (g : Option Given). HasRoomFor pm frame g) (sym (ap (λ (m : PmState). m.given) e))
      (sound.served, (omega arith, omega arith, ap (λ (k : ℕ). (port_at pm k).up) served ∙ empty, ap (λ (g : Stamped). g.stamp.port) rises ∙ sym served, stays))
  room_by before sound (Notice at due is e) = subst (λ (g : Option Given). HasRoomFor pm frame g) (sym (ap (λ (m : PmState). m.given) e)) (sound.served, tt)
  room_by before sound (Answer at is e) = subst (λ (g : Option Given). HasRoomFor pm frame g) (sym (ap (λ (m : PmState). m.given) e))
      (sound.served, (sound.answer frame is, λ k. subst (λ (m : PmState). slice_index frame.stamp.shown k ≤ (port_at m k).gone) (sym e) (sound.shows frame is k)))

  pub has_room : CanPutBackUp pm frame → HasRoomFor pm frame pm.given
  has_room can = room_by can.0 can.1 (gives can.0 frame pm can.2)
