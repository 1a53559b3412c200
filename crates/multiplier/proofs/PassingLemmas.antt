-- What each call does to the frames that passed, and so the order in which frames pass.
use Rattle.std.proofs.Common.{◌≡◌, ◌≢◌, ℕ, ◌+◌, ◌-◌, ◌<◌, ◌≤◌, ◌==◌, ◌&&◌, Bool, true, false, cond, List, [], ◌∷◌, ◌++◌, append_assoc, All, length}
use Rattle.std.proofs.Common.{map, take, get_or, Option, Some, None, Result, Ok, Err, MatchOption, refl, sym, ap, ◌∙◌, subst, arith, inl, inr}
use Rattle.std.proofs.lemmas.{Bool.{cases_eq, eq-eqb, ne_eqb, eqb-true, eqb-false}, Option.same_Some, List.{append-nil, length-append, map-append}}
use Rattle.std.proofs.lemmas.List.{Elements.{All-append, All-cons, All-nil, All-take, filter-append}, Sorted.{IsNonDecreasingBy-push}}
use Rattle.std.proofs.{lemmas.List.Sorted.{IsNonDecreasingBy-take}, Math.Seq.{take-append_seam}}
use Rattle.std.specs.{Prelude.{if◌then◌else◌, is_some}, Bool.MatchBool, List.{filter, Sorted.IsNonDecreasingBy}, Option.option_to_list}
use Rattle.std.specs.declared.alloc.AllocError.{AllocError}
use Rattle.fis_view.specs.{Frames.Stamped, declared.{frame.Stamp.Stamp, build.D2hFields.D2hFields}}
use Rattle.pm_registers.specs.RegisterMap as map
use Rattle.pm_control.specs.Answers.{IsAnswer, answer_to}
use Rattle.pm_ports.specs.Port as port
use Rattle.pm_ports.specs.declared.port.{Offered.Offered, PortError.PortError}
use Rattle.pm_ports.specs.declared.port.Offered.TheVariants as offered
use Rattle.multiplier.specs.{Arbiter.control_port, State.{PmState, IsSound, port_at, with_port, settled, stamped, rising, falling, control_stamp}}
use Rattle.multiplier.specs.{State.{counted, pm_port, passes_to, is_answer, is_notice}, Rules.{FromHostRule, FromDeviceRule, CameRule, NextUpRule}}
use Rattle.multiplier.specs.Rules.{NextDownRule, ToControl, ToDevice, ToNobody, CanPutBackUp, UndoesUp, with_device}
use Rattle.multiplier.specs.{declared.multiplier.{Passed.Passed, PmRefusal.PmRefusal}, Passing.{Call, FromHost, FromDevice, Came, NextUp, PutBackUp}}
use Rattle.multiplier.specs.Passing.{NextDown, PutBackDown, Past, Suits, EndsWith, past_after, but_last, made_by, of_conn, held_of, of_port, came_by}
use Rattle.multiplier.specs.Passing.{NeverFall, NeverFallTo, to_port, falls_to, passed_by, present_after, answers, answer_by, AreNumbered}
use Rattle.multiplier.specs.Between.{Ports, at}
use Rattle.multiplier.specs.declared.multiplier.Passed.TheVariants as passed
use Rattle.multiplier.proofs.{ArbiterLemmas.different, Ports.{kept_part, this_port, other_port, has_down}, Gone.accepted, Sound.answered_sound}
use Rattle.multiplier.proofs.Sound.{answer_is, answer_shows, stamp_shows, came_sound, down_sound, kept_sound, rest_sound, settled_sound}
use Rattle.multiplier.proofs.{GiveLemmas.{gives, given_sound, down_rule_sound}, UpSteps.{IsUpStep, up_step}}

-- One call that drops nothing: what it gave, and then what waits, is what waited and then what it took in.
pub record IsPlain (past : Past) (old : PmState) (call : Call) (new : PmState) : Type 0 where
  pub sound : IsSound new
  pub up : (n c : ℕ) → n < 15 → of_conn n c (past_after past call).up ++ held_of n c new ≡ of_conn n c past.up ++ held_of n c old ++ came_by n c call
  pub connections : (n : ℕ) → n < 15 → NeverFall n past.up (port_at old n).last → NeverFall n (past_after past call).up (port_at new n).last
  pub last : (n : ℕ) → (port_at old n).last ≤ (port_at new n).last
  pub present : (n : ℕ) → n < 15 → (port_at new n).present ≡ present_after n (port_at old n).present call
  pub down : (n : ℕ) → n < 15 → to_port n (past_after past call).down ++ falls_to n new ≡ to_port n past.down ++ falls_to n old ++ passed_by n (port_at old n).present call
  pub connections_down : (n : ℕ) → n < 15 → NeverFallTo n past.down (port_at old n).last → NeverFallTo n (past_after past call).down (port_at new n).last
  pub gone : (n : ℕ) → (port_at new n).gone ≡ (port_at old n).gone
  pub answered : answers (past_after past call).up ++ option_to_list new.answer ≡ answers past.up ++ option_to_list old.answer ++ answer_by call
  pub numbers : (first : ℕ) → AreNumbered first past.made old.number → AreNumbered first (past_after past call).made new.number

-- ---- what stays

module _ (past : Past) (old new : PmState) where
  pub keep_up : (n c : ℕ) → (port_at new n).up ≡ (port_at old n).up → of_conn n c past.up ++ held_of n c new ≡ of_conn n c past.up ++ held_of n c old ++ []
  keep_up n c e =
      ap (λ (o : Option Stamped). of_conn n c past.up ++ of_conn n c (map (rising n) (option_to_list o))) e
      ∙ sym (append-nil (of_conn n c past.up ++ held_of n c old))

  pub keep_down : (n : ℕ) → (port_at new n).down ≡ (port_at old n).down → to_port n past.down ++ falls_to n new ≡ to_port n past.down ++ falls_to n old ++ []
  keep_down n e = ap (λ (o : Option Stamped). to_port n past.down ++ option_to_list o) e ∙ sym (append-nil (to_port n past.down ++ falls_to n old))

  pub keep_connections : (n : ℕ) → (port_at new n).last ≡ (port_at old n).last → NeverFall n past.up (port_at old n).last → NeverFall n past.up (port_at new n).last
  keep_connections n e h = subst (λ (k : ℕ). NeverFall n past.up k) (sym e) h

  pub keep_falling : (n : ℕ) → (port_at new n).last ≡ (port_at old n).last → NeverFallTo n past.down (port_at old n).last → NeverFallTo n past.down (port_at new n).last
  keep_falling n e h = subst (λ (k : ℕ). NeverFallTo n past.down k) (sym e) h

  pub keep_last : (n : ℕ) → (port_at new n).last ≡ (port_at old n).last → (port_at old n).last ≤ (port_at new n).last
  keep_last n e = omega arith

  pub keep_answer : new.answer ≡ old.answer → answers past.up ++ option_to_list new.answer ≡ answers past.up ++ option_to_list old.answer ++ []
  keep_answer e = ap (λ (o : Option Stamped). answers past.up ++ option_to_list o) e ∙ sym (append-nil (answers past.up ++ option_to_list old.answer))

  pub keep_numbers : new.number ≡ old.number → (first : ℕ) → AreNumbered first past.made old.number → AreNumbered first past.made new.number
  keep_numbers e first h = subst (λ (k : ℕ). AreNumbered first past.made k) (sym e) h

-- a call that gives nothing and takes nothing in
pub record IsQuiet (past : Past) (old : PmState) (call : Call) : Type 0 where
  pub after : past_after past call ≡ past
  pub came : (n c : ℕ) → came_by n c call ≡ []
  pub passed : (n : ℕ) → passed_by n (port_at old n).present call ≡ []
  pub present : (n : ℕ) → present_after n (port_at old n).present call ≡ (port_at old n).present
  pub answer : answer_by call ≡ []

-- and leaves the ports, the answer and the number
quiet : (past : Past) (old : PmState) (call : Call) (new : PmState) → IsQuiet past old call → IsSound new → new.ports ≡ old.ports → new.answer ≡ old.answer → new.number ≡ old.number → IsPlain past old call new
quiet past old call new is sound ports answer number =
    let last : (n : ℕ) → (port_at new n).last ≡ (port_at old n).last = λ n. ap (λ (ps : Ports). (at ps n).last) ports in
    record {
      sound = sound;
      up = λ n c lt. rw (is.after, is.came n c) (keep_up past old new n c (ap (λ (ps : Ports). (at ps n).up) ports));
      connections = λ n lt h. rw is.after (keep_connections past old new n (last n) h);
      last = λ n. keep_last past old new n (last n);
      present = λ n lt. ap (λ (ps : Ports). (at ps n).present) ports ∙ sym (is.present n);
      down = λ n lt. rw (is.after, is.passed n) (keep_down past old new n (ap (λ (ps : Ports). (at ps n).down) ports));
      connections_down = λ n lt h. rw is.after (keep_falling past old new n (last n) h);
      gone = λ n. ap (λ (ps : Ports). (at ps n).gone) ports;
      answered = rw (is.after, is.answer) (keep_answer past old new answer);
      numbers = λ first h. rw is.after (keep_numbers past old new number first h);
    }

pub same : (past : Past) (old : PmState) (call : Call) (new : PmState) → IsQuiet past old call → IsSound old → new ≡ old → IsPlain past old call new
same past old call new is sound e =
    quiet past old call new is (subst IsSound (sym e) sound) (ap (λ (pm : PmState). pm.ports) e) (ap (λ (pm : PmState). pm.answer) e) (ap (λ (pm : PmState). pm.number) e)

-- ---- running numbers

pub numbered_push : (first : ℕ) (xs : List Stamped) (next : ℕ) (frame : Stamped) → AreNumbered first xs next → frame.stamp.number ≡ next → AreNumbered first (xs ++ frame ∷ []) (counted next)
numbered_push first [] next frame is e = (e ∙ is, ap counted is)
numbered_push first (x ∷ xs) next frame is e = (is.0, numbered_push (counted first) xs next frame is.1 e)

numbered_pop : (first : ℕ) (xs : List Stamped) (next : ℕ) (frame : Stamped) → AreNumbered first (xs ++ frame ∷ []) next → AreNumbered first xs frame.stamp.number
numbered_pop first [] next frame is = is.0
numbered_pop first (x ∷ xs) next frame is = (is.0, numbered_pop (counted first) xs next frame is.1)

numbered_answer : (first : ℕ) (xs : List Stamped) (fields : Option D2hFields) (stamp : Stamp) (answer : Option Stamped) → IsAnswer fields stamp answer → AreNumbered first xs stamp.number
    → AreNumbered first (xs ++ option_to_list answer) (if is_some answer then counted stamp.number else stamp.number)
numbered_answer first xs fields stamp None is h = subst (λ (ys : List Stamped). AreNumbered first ys stamp.number) (sym (append-nil xs)) h
numbered_answer first xs None stamp (Some frame) is h = absurd is
numbered_answer first xs (Some fields) stamp (Some frame) is h = numbered_push first xs stamp.number frame h (ap (λ (s : Stamp). s.number) is.1)

-- ---- a frame of the host

module _ (past : Past) (old : PmState) (frame : Stamped) (result : Result Passed (Stamped × PmRefusal)) where
  quiet_host : ((n : ℕ) → passed_by n (port_at old n).present (FromHost frame result None) ≡ []) → IsQuiet past old (FromHost frame result None)
  quiet_host none = record {
    after = ap (λ (xs : List Stamped). let p : Past = record past { made = xs } in p) (append-nil past.made);
    came = λ n c. refl;
    passed = none;
    present = λ n. refl;
    answer = refl;
  }

control_step : (past : Past) (old : PmState) (frame : Stamped) (result : Result Passed (Stamped × PmRefusal)) (new : PmState) → IsSound old → ToControl old frame result new
    → IsPlain past old (FromHost frame result (made_by result new)) new
control_step past old frame (Ok passed.Control) new sound rule =
    let e = rule.2 in
    let ports : new.ports ≡ old.ports = ap (λ (pm : PmState). pm.ports) e in
    let last : (n : ℕ) → (port_at new n).last ≡ (port_at old n).last = λ n. ap (λ (ps : Ports). (at ps n).last) ports in
    record {
      sound = subst IsSound (sym e) (answered_sound old _ _ new.answer _ None frame.bytes sound refl (answer_is (answer_to old.resetting old.registers frame.bytes) (control_stamp old) refl new.answer rule.1)
          (answer_shows old (answer_to old.resetting old.registers frame.bytes) (control_stamp old) (stamp_shows old) new.answer rule.1) tt);
      up = λ n c lt. keep_up past old new n c (ap (λ (ps : Ports). (at ps n).up) ports);
      connections = λ n lt h. keep_connections past old new n (last n) h;
      last = λ n. keep_last past old new n (last n);
      present = λ n lt. ap (λ (ps : Ports). (at ps n).present) ports;
      down = λ n lt. keep_down past old new n (ap (λ (ps : Ports). (at ps n).down) ports);
      connections_down = λ n lt h. keep_falling past old new n (last n) h;
      gone = λ n. ap (λ (ps : Ports). (at ps n).gone) ports;
      answered = ap (λ (xs : List Stamped). xs ++ option_to_list new.answer) (sym (append-nil (answers past.up)) ∙ ap (λ (o : Option Stamped). answers past.up ++ option_to_list o) (sym rule.0));
      numbers = λ first h. subst (λ (k : ℕ). AreNumbered first (past.made ++ option_to_list new.answer) k) (sym (ap (λ (pm : PmState). pm.number) e))
          (numbered_answer first past.made (answer_to old.resetting old.registers frame.bytes) (control_stamp old) new.answer rule.1 h);
    }
control_step past old frame (Err given) new sound rule = same past old (FromHost frame (Err given) None) new (quiet_host past old frame (Err given) (λ n. refl)) sound rule.2
control_step past old frame other new sound rule = absurd rule

module _ (past : Past) (old : PmState) (m conn : ℕ) (frame : Stamped) (new : PmState) (sound : IsSound old) (lt : m < 15) (there : (port_at old m).present ≡ Some conn) where
  abbrev into : port.PortState
  into = port.with_down (port_at old m) (Some (falling conn frame))

  module _ (empty : (port_at old m).down ≡ None) (e : new ≡ with_port old m into) where
    falls_here : falls_to m new ≡ falling conn frame ∷ []
    falls_here =
        let room : length old.ports ≡ 15 = sound.room in
        ap (λ (pm : PmState). falls_to m pm) e ∙ ap (λ (p : port.PortState). option_to_list p.down) (this_port old.ports m into (omega arith))

    passes : (n : ℕ) → to_port n past.down ++ falls_to n new ≡ to_port n past.down ++ falls_to n old ++ passed_by n (port_at old n).present (FromHost frame (Ok (passed.Down m)) None)
    passes n =
        elim (cases_eq n m) [
          | inl here ↦ subst (λ (k : ℕ). to_port k past.down ++ falls_to k new ≡ to_port k past.down ++ falls_to k old ++ passed_by k (port_at old k).present (FromHost frame (Ok (passed.Down m)) None)) (sym here)
              (rw (eq-eqb m m refl, there, empty) (ap (λ (xs : List Stamped). to_port m past.down ++ xs) falls_here ∙ ap (λ (xs : List Stamped). xs ++ falling conn frame ∷ []) (sym (append-nil (to_port m past.down)))))
          | inr other ↦ rw (ne_eqb m n (λ h. other (sym h))) (keep_down past old new n
              (ap (λ (pm : PmState). (port_at pm n).down) e ∙ ap (λ (p : port.PortState). p.down) (other_port old.ports m n into other)))
        ]

    pub down_step : IsPlain past old (FromHost frame (Ok (passed.Down m)) None) new
    down_step =
        let last : (n : ℕ) → (port_at new n).last ≡ (port_at old n).last =
        λ n. ap (λ (pm : PmState). (port_at pm n).last) e ∙ kept_part (λ (p : port.PortState). p.last) old.ports m into refl n in
        record {
          sound = subst IsSound (sym e) (down_sound old m (Some (falling conn frame)) sound (λ f is. there ∙ ap (λ (g : Stamped). Some g.stamp.conn) (same_Some (falling conn frame) f is)));
          up = λ n c small. keep_up past old new n c (ap (λ (pm : PmState). (port_at pm n).up) e ∙ kept_part (λ (p : port.PortState). p.up) old.ports m into refl n);
          connections = λ n small h. keep_connections past old new n (last n) h;
          last = λ n. keep_last past old new n (last n);
          present = λ n small. ap (λ (pm : PmState). (port_at pm n).present) e ∙ kept_part (λ (p : port.PortState). p.present) old.ports m into refl n;
          down = λ n small. passes n;
          connections_down = λ n small h. keep_falling past old new n (last n) h;
          gone = λ n. ap (λ (pm : PmState). (port_at pm n).gone) e ∙ kept_part (λ (p : port.PortState). p.gone) old.ports m into refl n;
          answered = keep_answer past old new (ap (λ (pm : PmState). pm.answer) e);
          numbers = λ first h. subst (λ (xs : List Stamped). AreNumbered first xs new.number) (sym (append-nil past.made)) (keep_numbers past old new (ap (λ (pm : PmState). pm.number) e) first h);
        }

device_step : (past : Past) (old : PmState) (n conn : ℕ) (frame : Stamped) (result : Result Passed (Stamped × PmRefusal)) (new : PmState) → IsSound old → n < 15
    → (port_at old n).present ≡ Some conn → ToDevice old n conn frame result new → IsPlain past old (FromHost frame result (made_by result new)) new
device_step past old n conn frame (Ok (passed.Down m)) new sound lt there rule =
    subst (λ (k : ℕ). IsPlain past old (FromHost frame (Ok (passed.Down k)) None) new) (sym rule.0) (down_step past old n conn frame new sound lt there rule.1 rule.2)
device_step past old n conn frame (Err given) new sound lt there rule = same past old (FromHost frame (Err given) None) new (quiet_host past old frame (Err given) (λ k. refl)) sound rule.2
device_step past old n conn frame other new sound lt there rule = absurd rule

nobody_step : (past : Past) (old : PmState) (frame : Stamped) (result : Result Passed (Stamped × PmRefusal)) (new : PmState) → IsSound old → ToNobody old result new
    → IsPlain past old (FromHost frame result (made_by result new)) new
nobody_step past old frame (Ok passed.Dropped) new sound rule =
    quiet past old (FromHost frame (Ok passed.Dropped) None) new (quiet_host past old frame (Ok passed.Dropped) (λ n. refl))
    (subst IsSound (sym rule) (rest_sound old old.answer old.served old.number (counted old.dropped) old.resetting None sound sound.answer sound.shows sound.served tt))
    (ap (λ (pm : PmState). pm.ports) rule) (ap (λ (pm : PmState). pm.answer) rule) (ap (λ (pm : PmState). pm.number) rule)
nobody_step past old frame other new sound rule = absurd rule

-- the connection that a frame passes to is present
passes_present : (forwards : Bool) (present : Option ℕ) (conn : ℕ) → (if forwards then present else None) ≡ Some conn → present ≡ Some conn
passes_present true present conn e = e
passes_present false present conn e = absurd cc

module _ (past : Past) (old : PmState) (frame : Stamped) (result : Result Passed (Stamped × PmRefusal)) (new : PmState) (sound : IsSound old) where
  by_device : (to : Option ℕ) → passes_to old (pm_port frame) ≡ to → pm_port frame < 15 → MatchOption to (ToNobody old result new) (λ conn. ToDevice old (pm_port frame) conn frame result new)
      → IsPlain past old (FromHost frame result (made_by result new)) new
  by_device None is lt rule = nobody_step past old frame result new sound rule
  by_device (Some conn) is lt rule = device_step past old (pm_port frame) conn frame result new sound lt (passes_present (map.forwards old.registers (pm_port frame)) (port_at old (pm_port frame)).present conn is) rule

  by_port : (b : Bool) → (pm_port frame == control_port) ≡ b
      → MatchBool b (ToControl old frame result new) (MatchOption (passes_to old (pm_port frame)) (ToNobody old result new) (λ conn. ToDevice old (pm_port frame) conn frame result new))
      → IsPlain past old (FromHost frame result (made_by result new)) new
  by_port true is rule = control_step past old frame result new sound rule
  by_port false is rule =
      let other : pm_port frame ≢ control_port = eqb-false (pm_port frame) control_port is in
      by_device (passes_to old (pm_port frame)) refl (different (pm_port frame) control_port (omega arith) other) rule

  pub host_step : FromHostRule old frame result new → IsPlain past old (FromHost frame result (made_by result new)) new
  host_step rule = by_port (pm_port frame == control_port) refl rule

-- ---- a frame of a device

module _ (past : Past) (old : PmState) (m : ℕ) (frame : Stamped) where
  quiet_device : (result : Result Offered Stamped) → ((n c : ℕ) → came_by n c (FromDevice m frame result) ≡ []) → IsQuiet past old (FromDevice m frame result)
  quiet_device result none = record { after = refl; came = none; passed = λ n. refl; present = λ n. refl; answer = refl }

module _ (past : Past) (old : PmState) (m : ℕ) (frame : Stamped) (new : PmState) (sound : IsSound old) (lt : m < 15) (stays : port.is_gone (port_at old m) frame.stamp.conn ≡ false) (empty : (port_at old m).up ≡ None)
    (e : new ≡ with_port old m (port.with_up (port_at old m) (Some (stamped m frame)))) where
  abbrev holding : port.PortState
  holding = port.with_up (port_at old m) (Some (stamped m frame))

  held_here : (c : ℕ) → held_of m c new ≡ of_conn m c (rising m frame ∷ [])
  held_here c =
      let room : length old.ports ≡ 15 = sound.room in
      ap (λ (pm : PmState). held_of m c pm) e
      ∙ ap (λ (p : port.PortState). of_conn m c (map (rising m) (option_to_list p.up))) (this_port old.ports m holding (omega arith))

  comes : (n c : ℕ) → of_conn n c past.up ++ held_of n c new ≡ of_conn n c past.up ++ held_of n c old ++ came_by n c (FromDevice m frame (Ok offered.Held))
  comes n c =
      elim (cases_eq n m) [
        | inl here ↦ subst (λ (k : ℕ). of_conn k c past.up ++ held_of k c new ≡ of_conn k c past.up ++ held_of k c old ++ came_by k c (FromDevice m frame (Ok offered.Held))) (sym here)
            (ap (λ (xs : List Stamped). of_conn m c past.up ++ xs) (held_here c)
            ∙ ap (λ (xs : List Stamped). xs ++ of_conn m c (rising m frame ∷ [])) (sym (append-nil (of_conn m c past.up)))
            ∙ ap (λ (o : Option Stamped). of_conn m c past.up ++ of_conn m c (map (rising m) (option_to_list o)) ++ of_conn m c (rising m frame ∷ [])) (sym empty)
            ∙ ap (λ (b : Bool). of_conn m c past.up ++ held_of m c old ++ (if b then of_conn m c (rising m frame ∷ []) else [])) (sym (eq-eqb m m refl)))
        | inr other ↦ rw (ne_eqb m n (λ h. other (sym h))) (keep_up past old new n c
            (ap (λ (pm : PmState). (port_at pm n).up) e ∙ ap (λ (p : port.PortState). p.up) (other_port old.ports m n holding other)))
      ]

  kept_step : IsPlain past old (FromDevice m frame (Ok offered.Held)) new
  kept_step =
      let last : (n : ℕ) → (port_at new n).last ≡ (port_at old n).last =
      λ n. ap (λ (pm : PmState). (port_at pm n).last) e ∙ kept_part (λ (p : port.PortState). p.last) old.ports m holding refl n in
      record {
        sound = subst IsSound (sym e) (kept_sound old m frame sound stays);
        up = λ n c small. comes n c;
        connections = λ n small h. keep_connections past old new n (last n) h;
        last = λ n. keep_last past old new n (last n);
        present = λ n small. ap (λ (pm : PmState). (port_at pm n).present) e ∙ kept_part (λ (p : port.PortState). p.present) old.ports m holding refl n;
        down = λ n small. keep_down past old new n (ap (λ (pm : PmState). (port_at pm n).down) e ∙ kept_part (λ (p : port.PortState). p.down) old.ports m holding refl n);
        connections_down = λ n small h. keep_falling past old new n (last n) h;
        gone = λ n. ap (λ (pm : PmState). (port_at pm n).gone) e ∙ kept_part (λ (p : port.PortState). p.gone) old.ports m holding refl n;
        answered = keep_answer past old new (ap (λ (pm : PmState). pm.answer) e);
        numbers = λ first h. keep_numbers past old new (ap (λ (pm : PmState). pm.number) e) first h;
      }

pub offer_step : (past : Past) (old : PmState) (m : ℕ) (frame : Stamped) (result : Result Offered Stamped) (new : PmState) → IsSound old → m < 15 → FromDeviceRule old m frame result new
    → IsPlain past old (FromDevice m frame result) new
offer_step past old m frame (Ok offered.Held) new sound lt rule = kept_step past old m frame new sound lt rule.0 rule.1 rule.2
offer_step past old m frame (Ok offered.Dropped) new sound lt rule = same past old (FromDevice m frame (Ok offered.Dropped)) new (quiet_device past old m frame (Ok offered.Dropped) (λ n c. refl)) sound rule.1
offer_step past old m frame (Err back) new sound lt rule = same past old (FromDevice m frame (Err back)) new (quiet_device past old m frame (Err back) (λ n c. refl)) sound rule.3

-- ---- a device came

module _ (past : Past) (old : PmState) (m conn : ℕ) (new : PmState) (sound : IsSound old) (lt : m < 15) (lets : port.came_refusal (port_at old m) conn ≡ None) (e : new ≡ with_device old m conn) where
  abbrev met : port.PortState
  met = port.with_connection (port_at old m) conn

  met_here : port_at new m ≡ met
  met_here = let room : length old.ports ≡ 15 = sound.room in ap (λ (pm : PmState). port_at pm m) e ∙ this_port old.ports m met (omega arith)

  met_other : (n : ℕ) → n ≢ m → port_at new n ≡ port_at old n
  met_other n other = ap (λ (pm : PmState). port_at pm n) e ∙ other_port old.ports m n met other

  last_grows : (n : ℕ) → (port_at old n).last ≤ (port_at new n).last
  last_grows n =
      elim (cases_eq n m) [
        | inl here ↦
            let above : (port_at old m).last < conn = (accepted (port_at old m) conn lets).1 in
            let now : (port_at new m).last ≡ conn = ap (λ (p : port.PortState). p.last) met_here in
            subst (λ (k : ℕ). (port_at old k).last ≤ (port_at new k).last) (sym here) (omega arith)
        | inr other ↦ keep_last past old new n (ap (λ (p : port.PortState). p.last) (met_other n other))
      ]

  grows : (n : ℕ) → NeverFall n past.up (port_at old n).last → NeverFall n past.up (port_at new n).last
  grows n h = record {
    rise = h.rise;
    most = λ k d inside. let below : (get_or (of_port n past.up) k d).stamp.conn ≤ (port_at old n).last = h.most k d inside in let up : (port_at old n).last ≤ (port_at new n).last = last_grows n in omega arith;
  }

  grows_down : (n : ℕ) → NeverFallTo n past.down (port_at old n).last → NeverFallTo n past.down (port_at new n).last
  grows_down n h = record {
    rise = h.rise;
    most = λ k d inside. let below : (get_or (to_port n past.down) k d).stamp.conn ≤ (port_at old n).last = h.most k d inside in let up : (port_at old n).last ≤ (port_at new n).last = last_grows n in omega arith;
  }

  met_present : (n : ℕ) → (port_at new n).present ≡ (if m == n then Some conn else (port_at old n).present)
  met_present n =
      elim (cases_eq n m) [
        | inl here ↦ subst (λ (k : ℕ). (port_at new k).present ≡ (if m == k then Some conn else (port_at old k).present)) (sym here)
            (rw (eq-eqb m m refl) (ap (λ (p : port.PortState). p.present) met_here))
        | inr other ↦ rw (ne_eqb m n (λ h. other (sym h))) (ap (λ (p : port.PortState). p.present) (met_other n other))
      ]

  met_step : (done : Unit {0}) → IsPlain past old (Came m conn (Ok done)) new
  met_step done = record {
    sound = subst IsSound (sym e) (came_sound old m conn sound lt lets);
    up = λ n c small. keep_up past old new n c (ap (λ (pm : PmState). (port_at pm n).up) e ∙ kept_part (λ (p : port.PortState). p.up) old.ports m met refl n);
    connections = λ n small h. grows n h;
    last = last_grows;
    present = λ n small. met_present n;
    down = λ n small. keep_down past old new n (ap (λ (pm : PmState). (port_at pm n).down) e ∙ kept_part (λ (p : port.PortState). p.down) old.ports m met refl n);
    connections_down = λ n small h. grows_down n h;
    gone = λ n. ap (λ (pm : PmState). (port_at pm n).gone) e ∙ kept_part (λ (p : port.PortState). p.gone) old.ports m met refl n;
    answered = keep_answer past old new (ap (λ (pm : PmState). pm.answer) e);
    numbers = λ first h. keep_numbers past old new (ap (λ (pm : PmState). pm.number) e) first h;
  }

pub came_step : (past : Past) (old : PmState) (m conn : ℕ) (result : Result (Unit {0}) PortError) (new : PmState) → IsSound old → m < 15 → CameRule old m conn result new → IsPlain past old (Came m conn result) new
came_step past old m conn (Ok done) new sound lt rule = met_step past old m conn new sound lt (sym rule.0) rule.1 done
came_step past old m conn (Err error) new sound lt rule =
    same past old (Came m conn (Err error)) new (record { after = refl; came = λ n c. refl; passed = λ n. refl; present = λ n. refl; answer = refl }) sound rule.1

-- ---- a frame for the host

-- a list that ends with a frame, and the same without it
pub last_gone : {A : Type 0} (xs front : List A) (x : A) → xs ≡ front ++ x ∷ [] → but_last xs ≡ front
last_gone xs front x e =
    let long : length (front ++ x ∷ []) ≡ length front + 1 = length-append front (x ∷ []) in
    let size : length xs ≡ length front + 1 = ap length e ∙ long in
    let less : length xs - 1 ≡ length front = omega arith in
    ap (λ (k : ℕ). take k xs) less ∙ ap (λ ys. take (length front) ys) e ∙ take-append_seam front (x ∷ [])

-- a filter takes a frame that went up, and then what waits, for what waited before
moved : (test : Stamped → Bool) (front : List Stamped) (frame : Stamped) (waits waited : List Stamped) → filter test (frame ∷ []) ++ waits ≡ waited → filter test (front ++ frame ∷ []) ++ waits ≡ filter test front ++ waited
moved test front frame waits waited e =
    ap (λ (xs : List Stamped). xs ++ waits) (filter-append test front (frame ∷ []))
    ∙ append_assoc (filter test front) (filter test (frame ∷ [])) waits
    ∙ ap (λ (xs : List Stamped). filter test front ++ xs) e

-- connections, with one frame more or less
abbrev conn_of : Stamped → ℕ
conn_of frame = frame.stamp.conn

abbrev Rising : List Stamped → ℕ → Type 0
Rising xs last = IsNonDecreasingBy conn_of xs × All (λ (frame : Stamped). frame.stamp.conn ≤ last) xs

rising_push : (xs : List Stamped) (last : ℕ) (frame : Stamped) → Rising xs last → frame.stamp.conn ≡ last → Rising (xs ++ frame ∷ []) last
rising_push xs last frame h is =
    let P : Stamped → Type 0 = λ f. f.stamp.conn ≤ last in (
      IsNonDecreasingBy-push conn_of xs frame h.0 (λ d some. let most : (get_or xs (length xs - 1) d).stamp.conn ≤ last = h.1 (length xs - 1) d (omega arith) in omega arith),
      All-append P xs (frame ∷ []) h.1 (All-cons P frame [] (omega arith) (All-nil P)),
    )

rising_pop : (xs ys : List Stamped) (last : ℕ) → Rising (xs ++ ys) last → Rising xs last
rising_pop xs ys last h =
    let P : Stamped → Type 0 = λ f. f.stamp.conn ≤ last in
    subst (λ (zs : List Stamped). Rising zs last) (take-append_seam xs ys)
    (IsNonDecreasingBy-take conn_of (length xs) (xs ++ ys) h.0, All-take P (length xs) (xs ++ ys) h.1)

rising_more : (xs : List Stamped) (last : ℕ) (frame : Stamped) (b : Bool) → Rising xs last → (b ≡ true → frame.stamp.conn ≡ last) → Rising (xs ++ cond b (frame ∷ []) []) last
rising_more xs last frame true h is = rising_push xs last frame h (is refl)
rising_more xs last frame false h is = subst (λ (ys : List Stamped). Rising ys last) (sym (append-nil xs)) h

never_falls_more : (n : ℕ) (up : List Stamped) (last : ℕ) (frame : Stamped) → NeverFall n up last → (frame.stamp.port ≡ n → frame.stamp.conn ≡ last) → NeverFall n (up ++ frame ∷ []) last
never_falls_more n up last frame h is =
    let split : of_port n (up ++ frame ∷ []) ≡ of_port n up ++ of_port n (frame ∷ []) = filter-append (λ (f : Stamped). f.stamp.port == n) up (frame ∷ []) in
    let r : Rising (of_port n (up ++ frame ∷ [])) last =
    subst (λ (ys : List Stamped). Rising ys last) (sym split) (rising_more (of_port n up) last frame (frame.stamp.port == n) (h.rise, h.most) (λ t. is (eqb-true frame.stamp.port n t))) in
    record { rise = r.0; most = r.1 }

never_falls_less : (n : ℕ) (up : List Stamped) (last : ℕ) (frame : Stamped) → NeverFall n (up ++ frame ∷ []) last → NeverFall n up last
never_falls_less n up last frame h =
    let split : of_port n (up ++ frame ∷ []) ≡ of_port n up ++ of_port n (frame ∷ []) = filter-append (λ (f : Stamped). f.stamp.port == n) up (frame ∷ []) in
    let r : Rising (of_port n up) last = rising_pop (of_port n up) (of_port n (frame ∷ [])) last (subst (λ (ys : List Stamped). Rising ys last) split (h.rise, h.most)) in
    record { rise = r.0; most = r.1 }

module _ (past : Past) (old : PmState) (frame : Stamped) (new : PmState) (sound : IsSound new) (step : IsUpStep old frame new) where
  given_numbers : (first : ℕ) (b : Bool) → is_notice frame ≡ b → AreNumbered first past.made old.number → AreNumbered first (if b then past.made ++ frame ∷ [] else past.made) (if b then counted old.number else old.number)
  given_numbers first true is h = numbered_push first past.made old.number frame h (step.numbered is)
  given_numbers first false is h = h

  given_step : IsPlain past old (NextUp (Ok (Some frame))) new
  given_step = record {
    sound = sound;
    up = λ n c lt. moved (λ (f : Stamped). f.stamp.port == n && f.stamp.conn == c) past.up frame (held_of n c new) (held_of n c old) (step.up n c lt) ∙ sym (append-nil (of_conn n c past.up ++ held_of n c old));
    connections = λ n lt h. subst (λ (k : ℕ). NeverFall n (past.up ++ frame ∷ []) k) (sym (step.last n)) (never_falls_more n past.up (port_at old n).last frame h (step.connection n lt));
    last = λ n. keep_last past old new n (step.last n);
    present = λ n lt. step.present n;
    down = λ n lt. ap (λ (xs : List Stamped). to_port n past.down ++ xs) (step.down n) ∙ sym (append-nil (to_port n past.down ++ falls_to n old));
    connections_down = λ n lt h. keep_falling past old new n (step.last n) h;
    gone = step.gone;
    answered = moved is_answer past.up frame (option_to_list new.answer) (option_to_list old.answer) step.answered ∙ sym (append-nil (answers past.up ++ option_to_list old.answer));
    numbers = λ first h. subst (λ (k : ℕ). AreNumbered first (if is_notice frame then past.made ++ frame ∷ [] else past.made) k) (sym step.number) (given_numbers first (is_notice frame) refl h);
  }

pub turn_step : (past : Past) (old : PmState) (result : Result (Option Stamped) AllocError) (new : PmState) → IsSound old → NextUpRule old result new → IsPlain past old (NextUp result) new
turn_step past old (Ok (Some frame)) new sound rule =
    given_step past old frame new (given_sound old frame new sound (gives old frame new rule)) (up_step old frame new sound (gives old frame new rule))
turn_step past old (Ok None) new sound rule =
    same past old (NextUp (Ok None)) new (record { after = refl; came = λ n c. refl; passed = λ n. refl; present = λ n. refl; answer = refl }) sound rule.1
turn_step past old (Err e) new sound rule =
    same past old (NextUp (Err e)) new (record { after = refl; came = λ n c. refl; passed = λ n. refl; present = λ n. refl; answer = refl }) sound rule.2

-- ---- and back

-- a frame that goes back leaves what waits as it waited before it went
back : (test : Stamped → Bool) (up front : List Stamped) (frame : Stamped) (waits waited now : List Stamped) → up ≡ front ++ frame ∷ [] → filter test (frame ∷ []) ++ waits ≡ waited → now ≡ waited
    → filter test (but_last up) ++ now ≡ filter test up ++ waits ++ []
back test up front frame waits waited now e moves is =
    ap (λ (xs : List Stamped). filter test xs ++ now) (last_gone up front frame e)
    ∙ ap (λ (xs : List Stamped). filter test front ++ xs) is
    ∙ sym (moved test front frame waits waited moves)
    ∙ ap (λ (xs : List Stamped). filter test xs ++ waits) (sym e)
    ∙ sym (append-nil (filter test up ++ waits))

module _ (past : Past) (before old : PmState) (frame : Stamped) (new : PmState) (sound : IsSound before) (step : IsUpStep before frame old) (is : new ≡ settled before)
    (up : EndsWith past.up frame) (made : is_notice frame ≡ true → EndsWith past.made frame) where
  back_numbers : (first : ℕ) (b : Bool) → is_notice frame ≡ b → old.number ≡ (if b then counted before.number else before.number) → AreNumbered first past.made old.number
      → AreNumbered first (if b then but_last past.made else past.made) before.number
  back_numbers first true notice number h =
      let end : EndsWith past.made frame = made notice in
      let front : AreNumbered first (end.0 ++ frame ∷ []) old.number = subst (λ (xs : List Stamped). AreNumbered first xs old.number) end.1 h in
      let popped : AreNumbered first (but_last past.made) frame.stamp.number =
      subst (λ (xs : List Stamped). AreNumbered first xs frame.stamp.number) (sym (last_gone past.made end.0 frame end.1)) (numbered_pop first end.0 old.number frame front) in
      subst (λ (k : ℕ). AreNumbered first (but_last past.made) k) (step.numbered notice) popped
  back_numbers first false notice number h = subst (λ (k : ℕ). AreNumbered first past.made k) number h

  back_connections : (n : ℕ) → NeverFall n past.up (port_at old n).last → NeverFall n (but_last past.up) (port_at new n).last
  back_connections n h =
      let whole : NeverFall n (up.0 ++ frame ∷ []) (port_at old n).last = subst (λ (xs : List Stamped). NeverFall n xs (port_at old n).last) up.1 h in
      let less : NeverFall n up.0 (port_at old n).last = never_falls_less n up.0 (port_at old n).last frame whole in
      let last : (port_at old n).last ≡ (port_at new n).last = step.last n ∙ sym (ap (λ (pm : PmState). (port_at pm n).last) is) in
      subst (λ (k : ℕ). NeverFall n (but_last past.up) k) last (subst (λ (xs : List Stamped). NeverFall n xs (port_at old n).last) (sym (last_gone past.up up.0 frame up.1)) less)

  back_step : IsPlain past old (PutBackUp frame) new
  back_step = record {
    sound = subst IsSound (sym is) (settled_sound before sound);
    up = λ n c lt. back (λ (f : Stamped). f.stamp.port == n && f.stamp.conn == c) past.up up.0 frame (held_of n c old) (held_of n c before) (held_of n c new) up.1 (step.up n c lt) (ap (λ (pm : PmState). held_of n c pm) is);
    connections = λ n lt h. back_connections n h;
    last = λ n. keep_last past old new n (ap (λ (pm : PmState). (port_at pm n).last) is ∙ sym (step.last n));
    present = λ n lt. ap (λ (pm : PmState). (port_at pm n).present) is ∙ sym (step.present n);
    down = λ n lt. ap (λ (xs : List Stamped). to_port n past.down ++ xs) (ap (λ (pm : PmState). falls_to n pm) is ∙ sym (step.down n)) ∙ sym (append-nil (to_port n past.down ++ falls_to n old));
    connections_down = λ n lt h. keep_falling past old new n (ap (λ (pm : PmState). (port_at pm n).last) is ∙ sym (step.last n)) h;
    gone = λ n. ap (λ (pm : PmState). (port_at pm n).gone) is ∙ sym (step.gone n);
    answered = back is_answer past.up up.0 frame (option_to_list old.answer) (option_to_list before.answer) (option_to_list new.answer) up.1 step.answered (ap (λ (pm : PmState). option_to_list pm.answer) is);
    numbers = λ first h. subst (λ (k : ℕ). AreNumbered first (if is_notice frame then but_last past.made else past.made) k) (sym (ap (λ (pm : PmState). pm.number) is)) (back_numbers first (is_notice frame) refl step.number h);
  }

pub put_back_step : (past : Past) (old : PmState) (frame : Stamped) (new : PmState) → Suits past (PutBackUp frame) → CanPutBackUp old frame → UndoesUp old frame new → IsPlain past old (PutBackUp frame) new
put_back_step past old frame new suits can undoes =
    back_step past can.0 old frame new can.1 (up_step can.0 frame old can.1 (gives can.0 frame old can.2)) (undoes can.0 can.2) suits.0 suits.1

-- ---- a frame for a device

-- it is the one that waited
module _ (old : PmState) (m : ℕ) (frame : Stamped) (new : PmState) (rule : NextDownRule old m (Some frame) new) where
  abbrev low : port.PortState
  low = port.with_down (port_at old m) None

  waited : (n : ℕ) → to_port n ((m, frame) ∷ []) ++ falls_to n new ≡ falls_to n old
  waited n =
      elim (cases_eq n m) [
        | inl here ↦ subst (λ (k : ℕ). to_port k ((m, frame) ∷ []) ++ falls_to k new ≡ falls_to k old) (sym here)
            (rw (eq-eqb m m refl) (ap (λ (o : Option Stamped). frame ∷ option_to_list o) (ap (λ (pm : PmState). (port_at pm m).down) rule.1 ∙ ap (λ (p : port.PortState). p.down) (this_port old.ports m low (has_down old.ports m frame rule.0)))
            ∙ ap option_to_list (sym rule.0)))
        | inr other ↦ rw (ne_eqb m n (λ h. other (sym h)))
            (ap (λ (o : Option Stamped). option_to_list o) (ap (λ (pm : PmState). (port_at pm n).down) rule.1 ∙ ap (λ (p : port.PortState). p.down) (other_port old.ports m n low other)))
      ]

  down_up : (n : ℕ) → (port_at new n).up ≡ (port_at old n).up
  down_up n = ap (λ (pm : PmState). (port_at pm n).up) rule.1 ∙ kept_part (λ (p : port.PortState). p.up) old.ports m low refl n

  down_last : (n : ℕ) → (port_at new n).last ≡ (port_at old n).last
  down_last n = ap (λ (pm : PmState). (port_at pm n).last) rule.1 ∙ kept_part (λ (p : port.PortState). p.last) old.ports m low refl n

  down_present : (n : ℕ) → (port_at new n).present ≡ (port_at old n).present
  down_present n = ap (λ (pm : PmState). (port_at pm n).present) rule.1 ∙ kept_part (λ (p : port.PortState). p.present) old.ports m low refl n

  down_gone : (n : ℕ) → (port_at new n).gone ≡ (port_at old n).gone
  down_gone n = ap (λ (pm : PmState). (port_at pm n).gone) rule.1 ∙ kept_part (λ (p : port.PortState). p.gone) old.ports m low refl n

  -- it is for the connection that came last
  down_newest : IsSound old → (n : ℕ) → m ≡ n → frame.stamp.conn ≡ (port_at old n).last
  down_newest sound n here =
      (sound.ports m).sound.last frame.stamp.conn ((sound.ports m).meant frame rule.0) ∙ ap (λ (k : ℕ). (port_at old k).last) here

-- connections of frames for a port, with one more or less
to_port-append : (n : ℕ) (front more : List (ℕ × Stamped)) → to_port n (front ++ more) ≡ to_port n front ++ to_port n more
to_port-append n front more =
    let test : ℕ × Stamped → Bool = λ s. s.0 == n in
    ap (λ (xs : List (ℕ × Stamped)). map (λ s. s.1) xs) (filter-append test front more) ∙ map-append (λ (s : ℕ × Stamped). s.1) (filter test front) (filter test more)

rising_sent : (xs : List Stamped) (last : ℕ) (sent : ℕ × Stamped) (b : Bool) → Rising xs last → (b ≡ true → sent.1.stamp.conn ≡ last)
    → Rising (xs ++ map (λ (s : ℕ × Stamped). s.1) (cond b (sent ∷ []) [])) last
rising_sent xs last sent true h is = rising_push xs last sent.1 h (is refl)
rising_sent xs last sent false h is = subst (λ (ys : List Stamped). Rising ys last) (sym (append-nil xs)) h

falls_more : (n : ℕ) (down : List (ℕ × Stamped)) (last : ℕ) (sent : ℕ × Stamped) → NeverFallTo n down last → (sent.0 ≡ n → sent.1.stamp.conn ≡ last) → NeverFallTo n (down ++ sent ∷ []) last
falls_more n down last sent h is =
    let r : Rising (to_port n (down ++ sent ∷ [])) last =
    subst (λ (ys : List Stamped). Rising ys last) (sym (to_port-append n down (sent ∷ []))) (rising_sent (to_port n down) last sent (sent.0 == n) (h.rise, h.most) (λ t. is (eqb-true sent.0 n t))) in
    record { rise = r.0; most = r.1 }

falls_less : (n : ℕ) (down : List (ℕ × Stamped)) (last : ℕ) (sent : ℕ × Stamped) → NeverFallTo n (down ++ sent ∷ []) last → NeverFallTo n down last
falls_less n down last sent h =
    let r : Rising (to_port n down) last =
    rising_pop (to_port n down) (to_port n (sent ∷ [])) last (subst (λ (ys : List Stamped). Rising ys last) (to_port-append n down (sent ∷ [])) (h.rise, h.most)) in
    record { rise = r.0; most = r.1 }

-- frames for a port, with one more
to_port_more : (n : ℕ) (front : List (ℕ × Stamped)) (sent : ℕ × Stamped) (waits waited : List Stamped) → to_port n (sent ∷ []) ++ waits ≡ waited → to_port n (front ++ sent ∷ []) ++ waits ≡ to_port n front ++ waited
to_port_more n front sent waits waited e =
    let test : ℕ × Stamped → Bool = λ s. s.0 == n in
    ap (λ (xs : List (ℕ × Stamped)). map (λ s. s.1) xs ++ waits) (filter-append test front (sent ∷ []))
    ∙ ap (λ (xs : List Stamped). xs ++ waits) (map-append (λ (s : ℕ × Stamped). s.1) (filter test front) (filter test (sent ∷ [])))
    ∙ append_assoc (to_port n front) (to_port n (sent ∷ [])) waits
    ∙ ap (λ (xs : List Stamped). to_port n front ++ xs) e

pub lower_step : (past : Past) (old : PmState) (m : ℕ) (result : Option Stamped) (new : PmState) → IsSound old → NextDownRule old m result new → IsPlain past old (NextDown m result) new
lower_step past old m (Some frame) new sound rule = record {
  sound = down_rule_sound old new m (Some frame) sound rule;
  up = λ n c lt. keep_up past old new n c (down_up old m frame new rule n);
  connections = λ n lt h. keep_connections past old new n (down_last old m frame new rule n) h;
  last = λ n. keep_last past old new n (down_last old m frame new rule n);
  present = λ n lt. down_present old m frame new rule n;
  down = λ n lt. to_port_more n past.down (m, frame) (falls_to n new) (falls_to n old) (waited old m frame new rule n) ∙ sym (append-nil (to_port n past.down ++ falls_to n old));
  connections_down = λ n lt h. subst (λ (k : ℕ). NeverFallTo n (past.down ++ (m, frame) ∷ []) k) (sym (down_last old m frame new rule n)) (falls_more n past.down (port_at old n).last (m, frame) h (down_newest old m frame new rule sound n));
  gone = λ n. down_gone old m frame new rule n;
  answered = keep_answer past old new (ap (λ (pm : PmState). pm.answer) rule.1);
  numbers = λ first h. keep_numbers past old new (ap (λ (pm : PmState). pm.number) rule.1) first h;
}
lower_step past old m None new sound rule =
    same past old (NextDown m None) new (record { after = refl; came = λ n c. refl; passed = λ n. refl; present = λ n. refl; answer = refl }) sound rule.1

module _ (past : Past) (before old : PmState) (m : ℕ) (frame : Stamped) (new : PmState) (sound : IsSound before) (rule : NextDownRule before m (Some frame) old) (is : new ≡ settled before)
    (down : EndsWith past.down (m, frame)) where
  raised : (n : ℕ) → to_port n (but_last past.down) ++ falls_to n new ≡ to_port n past.down ++ falls_to n old ++ []
  raised n =
      ap (λ (xs : List (ℕ × Stamped)). to_port n xs ++ falls_to n new) (last_gone past.down down.0 (m, frame) down.1)
      ∙ ap (λ (xs : List Stamped). to_port n down.0 ++ xs) (ap (λ (pm : PmState). falls_to n pm) is)
      ∙ sym (to_port_more n down.0 (m, frame) (falls_to n old) (falls_to n before) (waited before m frame old rule n))
      ∙ ap (λ (xs : List (ℕ × Stamped)). to_port n xs ++ falls_to n old) (sym down.1)
      ∙ sym (append-nil (to_port n past.down ++ falls_to n old))

  raised_falling : (n : ℕ) → NeverFallTo n past.down (port_at old n).last → NeverFallTo n (but_last past.down) (port_at new n).last
  raised_falling n h =
      let whole : NeverFallTo n (down.0 ++ (m, frame) ∷ []) (port_at old n).last = subst (λ (xs : List (ℕ × Stamped)). NeverFallTo n xs (port_at old n).last) down.1 h in
      let less : NeverFallTo n down.0 (port_at old n).last = falls_less n down.0 (port_at old n).last (m, frame) whole in
      let last : (port_at old n).last ≡ (port_at new n).last = down_last before m frame old rule n ∙ sym (ap (λ (pm : PmState). (port_at pm n).last) is) in
      subst (λ (k : ℕ). NeverFallTo n (but_last past.down) k) last (subst (λ (xs : List (ℕ × Stamped)). NeverFallTo n xs (port_at old n).last) (sym (last_gone past.down down.0 (m, frame) down.1)) less)

  pub raise_step : IsPlain past old (PutBackDown m frame) new
  raise_step = record {
    sound = subst IsSound (sym is) (settled_sound before sound);
    up = λ n c lt. keep_up past old new n c (ap (λ (pm : PmState). (port_at pm n).up) is ∙ sym (down_up before m frame old rule n));
    connections = λ n lt h. keep_connections past old new n (ap (λ (pm : PmState). (port_at pm n).last) is ∙ sym (down_last before m frame old rule n)) h;
    last = λ n. keep_last past old new n (ap (λ (pm : PmState). (port_at pm n).last) is ∙ sym (down_last before m frame old rule n));
    present = λ n lt. ap (λ (pm : PmState). (port_at pm n).present) is ∙ sym (down_present before m frame old rule n);
    down = λ n lt. raised n;
    connections_down = λ n lt h. raised_falling n h;
    gone = λ n. ap (λ (pm : PmState). (port_at pm n).gone) is ∙ sym (down_gone before m frame old rule n);
    answered = keep_answer past old new (ap (λ (pm : PmState). pm.answer) is ∙ sym (ap (λ (pm : PmState). pm.answer) rule.1));
    numbers = λ first h. keep_numbers past old new (ap (λ (pm : PmState). pm.number) is ∙ sym (ap (λ (pm : PmState). pm.number) rule.1)) first h;
  }
