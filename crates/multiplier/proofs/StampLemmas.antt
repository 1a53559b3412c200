-- What goes up is in stamped order, and a FIS of the control port shows what is gone.
use Rattle.std.proofs.Common.{◌≡◌, ◌≢◌, ℕ, ◌<◌, ◌==◌, Bool, true, false, List, [], ◌∷◌, ◌++◌, append_assoc, map, slice_index, Option, Some, None}
use Rattle.std.proofs.{Common.{Result, Ok, Err, MatchOption, refl, sym, ap, ◌∙◌, subst, arith, inl, inr}, lemmas.Bool.{cases_eq, eq-eqb, ne_eqb}}
use Rattle.std.proofs.lemmas.{Option.same_Some, List.{append-nil, map-append, Elements.{filter-append}}}
use Rattle.std.specs.{Prelude.{if◌then◌else◌}, Bool.MatchBool, Option.option_to_list}
use Rattle.fis_view.specs.{Frames.Stamped, declared.{build.D2hFields.D2hFields, frame.Stamp.Stamp}}
use Rattle.pm_control.specs.Answers.{IsAnswer, answer_to}
use Rattle.pm_ports.specs.Port as port
use Rattle.pm_ports.specs.declared.port.Offered.TheVariants as offered
use Rattle.multiplier.specs.{Arbiter.control_port, Orders.{InDeviceOrder, InStampedOrder, IsNextAtHost, IsWithin, of_connection}, State.PmState}
use Rattle.multiplier.specs.{State.{IsSound, control_stamp, is_notice, passes_to, pm_port, port_at, rising}, Rules.{FromHostRule, ToControl}}
use Rattle.multiplier.specs.{Rules.{ToDevice, ToNobody}, declared.multiplier.{Passed.Passed, PmRefusal.PmRefusal}, Passing.{Call, FromHost}}
use Rattle.multiplier.specs.Passing.{FromDevice, NextUp, PutBackUp, NextDown, Does, DoesAll, Past, Suits, past_after, but_last, made_by, made_in}
use Rattle.multiplier.specs.{Passing.{of_conn, held_of, came_by, ShowsRemovals}, Stamping.{taken_by, taken_of, IsStamped, GoesUpStamped}}
use Rattle.multiplier.specs.{Stamping.BeginsStamped, Between.{Answer, FromPort, Gives, IsStep, Notice}}
use Rattle.multiplier.specs.declared.multiplier.Passed.TheVariants as passed
use Rattle.multiplier.proofs.{Gone.{never_up_to, not_up_to, removal_at}, GiveLemmas.gives, UpSteps.{IsUpStep, up_step, no_notice, answer_no_notice}}
use Rattle.multiplier.proofs.{PassingLemmas.last_gone, Removals.{one_step, step_gone, apart, pass_in_order}, OrderLemmas.device_prefixes}
use Rattle.multiplier.proofs.OrderLemmas.{stamped_starts, stamped_prefixes, stamped_more, within_none, within_rises, within_more, within_less}
use Rattle.multiplier.proofs.OrderLemmas.{number_is}

-- ---- what was taken, as it goes up

one_rising : (n c : ℕ) (frame : Stamped) → of_conn n c (rising n frame ∷ []) ≡ map (rising n) (of_connection c (frame ∷ []))
one_rising n c frame = rw (eq-eqb n n refl) (by_conn (frame.stamp.conn == c))
  where
    by_conn : (b : Bool) → (if b then rising n frame ∷ [] else []) ≡ map (rising n) (if b then frame ∷ [] else [])
    by_conn true = refl
    by_conn false = refl

held_rising : (n c : ℕ) (o : Option Stamped) → of_conn n c (map (rising n) (option_to_list o)) ≡ map (rising n) (of_connection c (option_to_list o))
held_rising n c None = refl
held_rising n c (Some frame) = one_rising n c frame

other_taken : (c : ℕ) (frame : Stamped) → frame.stamp.conn ≢ c → of_connection c (frame ∷ []) ≡ []
other_taken c frame ne = rw (ne_eqb frame.stamp.conn c ne) refl

-- of a connection that is not gone, what comes in is what is taken
came_taken : (old : PmState) (call : Call) (new : PmState) (n c : ℕ) → Does old call new → port.is_gone (port_at old n) c ≡ false
    → came_by n c call ≡ map (rising n) (of_connection c (taken_by n call))
came_taken old (FromDevice m frame (Ok offered.Held)) new n c does not_so = by_port (m == n)
  where
    by_port : (b : Bool) → (if b then of_conn n c (rising n frame ∷ []) else []) ≡ map (rising n) (of_connection c (if b then frame ∷ [] else []))
    by_port true = one_rising n c frame
    by_port false = refl
came_taken old (FromDevice m frame (Ok offered.Dropped)) new n c does not_so =
    elim (cases_eq n m) [
      | inl here ↦
          let gone : port.is_gone (port_at old n) frame.stamp.conn ≡ true = subst (λ (k : ℕ). port.is_gone (port_at old k) frame.stamp.conn ≡ true) (sym here) does.1.0 in
          let other : frame.stamp.conn ≢ c = λ same. apart (port_at old n).gone c frame.stamp.conn not_so gone (sym same) in
          sym (by_port (m == n) (other_taken c frame other))
      | inr away ↦ ap (λ (b : Bool). map (rising n) (of_connection c (if b then frame ∷ [] else []))) (sym (ne_eqb m n (λ h. away (sym h))))
    ]
  where
    by_port : (b : Bool) → of_connection c (frame ∷ []) ≡ [] → map (rising n) (of_connection c (if b then frame ∷ [] else [])) ≡ []
    by_port true none = ap (map (rising n)) none
    by_port false none = refl
came_taken old (FromDevice m frame (Err back)) new n c does not_so = refl
came_taken old other new n c does not_so = refl

-- ---- a frame that goes up

module _ (taken : ℕ → List Stamped) (past : Past) (old : PmState) (frame : Stamped) (new : PmState) (up : IsUpStep old frame new) (is : IsStamped taken past old)
    (order : (n : ℕ) → n < 15 → InDeviceOrder (taken n)) where
  -- it may follow those that went up
  follows : frame.stamp.port < 15 → IsNextAtHost past.up frame
  follows low =
      let m : ℕ = frame.stamp.port in
      let c : ℕ = frame.stamp.conn in
      let newest : c ≡ (port_at old m).last = up.connection m low refl in
      let above : (port_at old m).gone < c = up.above m low refl in
      let bounds : IsWithin past.up m (port_at old m).last (port_at old m).gone = is.bounds m low in
      let not_so : port.is_gone (port_at old m) c ≡ false = not_up_to (port_at old m).gone c (λ le. absurd (omega arith)) in
      let own : of_conn m c (frame ∷ []) ≡ frame ∷ [] = rw (eq-eqb m m refl, eq-eqb c c refl) refl in
      let held : held_of m c old ≡ frame ∷ held_of m c new = sym (up.up m c low) ∙ ap (λ xs. xs ++ held_of m c new) own in
      let whole : of_conn m c past.up ++ frame ∷ held_of m c new ≡ map (rising m) (of_connection c (taken m)) =
      ap (λ xs. of_conn m c past.up ++ xs) (sym held) ∙ is.whole m c low not_so in
      record {
        connection = λ k d less of_n. let p = bounds.highest k d less of_n in omega arith;
        present = λ k d less control. let p = bounds.shown k d less control in omega arith;
        number = number_is (rising m) (λ x. refl) c (taken m) (of_conn m c past.up) (held_of m c new) frame (order m low) whole;
      }

  order_up : InStampedOrder (past.up ++ frame ∷ [])
  order_up = stamped_more past.up frame is.order (λ low. follows low)

  bounds_up : (n : ℕ) → n < 15 → IsWithin (past.up ++ frame ∷ []) n (port_at old n).last (port_at old n).gone
  bounds_up n lt =
      within_more past.up frame n (port_at old n).last (port_at old n).gone (is.bounds n lt)
      (λ own. let newest : frame.stamp.conn ≡ (port_at old n).last = up.connection n lt own in omega arith)
      (λ control. up.shows control n)

-- ---- each call

-- what went up after a call is in order, within the bounds of before
record UpInOrder (up : List Stamped) (old : PmState) : Type 0 where
  order : InStampedOrder up
  bounds : (n : ℕ) → n < 15 → IsWithin up n (port_at old n).last (port_at old n).gone

up_in_order : (taken : ℕ → List Stamped) (past : Past) (old : PmState) (call : Call) (new : PmState) → IsSound old → Suits past call → Does old call new → IsStamped taken past old
    → ((n : ℕ) → n < 15 → InDeviceOrder (taken n)) → UpInOrder (past_after past call).up old
up_in_order taken past old (NextUp (Ok (Some frame))) new sound suits does is order =
    let up : IsUpStep old frame new = up_step old frame new sound (gives old frame new does) in
    record { order = order_up taken past old frame new up is order; bounds = bounds_up taken past old frame new up is order }
up_in_order taken past old (PutBackUp frame) new sound suits does is order =
    let ends = suits.0 in
    let less : but_last past.up ≡ ends.0 = last_gone past.up ends.0 frame ends.1 in
    record {
      order = subst InStampedOrder (sym less) (stamped_prefixes ends.0 (frame ∷ []) (subst InStampedOrder ends.1 is.order));
      bounds = λ n lt. subst (λ (fs : List Stamped). IsWithin fs n (port_at old n).last (port_at old n).gone) (sym less)
          (within_less ends.0 (frame ∷ []) n (port_at old n).last (port_at old n).gone (subst (λ (fs : List Stamped). IsWithin fs n (port_at old n).last (port_at old n).gone) ends.1 (is.bounds n lt)));
    }
up_in_order taken past old (NextDown m (Some frame)) new sound suits does is order = record { order = is.order; bounds = is.bounds }
up_in_order taken past old other new sound suits does is order = record { order = is.order; bounds = is.bounds }

stamped_step : (taken : ℕ → List Stamped) (past : Past) (old : PmState) (call : Call) (new : PmState) → IsSound old → Suits past call → Does old call new → IsStamped taken past old
    → ((n : ℕ) → n < 15 → InDeviceOrder (taken n)) → IsStamped (λ n. taken n ++ taken_by n call) (past_after past call) new
stamped_step taken past old call new sound suits does is order =
    let step : IsStep past old call new = one_step past old call new sound suits does in
    let up : UpInOrder (past_after past call).up old = up_in_order taken past old call new sound suits does is order in
    record {
      order = up.order;
      bounds = λ n lt. within_rises (past_after past call).up n (port_at old n).last (port_at old n).gone (port_at new n).last (port_at new n).gone (up.bounds n lt) (step.last n) (step_gone past old call new step n lt);
      whole = λ n c lt not_so.
          let never : port.is_gone (port_at old n) c ≡ false = never_up_to (port_at old n).gone (port_at new n).gone c (step_gone past old call new step n lt) not_so in
          let now : List Stamped = of_conn n c (past_after past call).up ++ held_of n c new in
          sym (append-nil now) ∙ ap (λ xs. now ++ xs) (sym (step.kept n c lt not_so).0) ∙ step.up n c lt
          ∙ ap (λ xs. xs ++ came_by n c call) (is.whole n c lt never)
          ∙ ap (λ xs. map (rising n) (of_connection c (taken n)) ++ xs) (came_taken old call new n c does never)
          ∙ sym (map-append (rising n) (of_connection c (taken n)) (of_connection c (taken_by n call)))
          ∙ ap (map (rising n)) (sym (filter-append (λ (f : Stamped). f.stamp.conn == c) (taken n) (taken_by n call)));
    }

-- ---- all calls

pub goes_up_stamped : (taken : ℕ → List Stamped) (past : Past) (old : PmState) (calls : List Call) (new : PmState) → GoesUpStamped taken past old calls new
goes_up_stamped taken past old [] new sound does is order =
    subst (λ (pm : PmState). IsStamped (λ n. taken n ++ []) past pm) (sym does) (record {
      order = is.order;
      bounds = is.bounds;
      whole = λ n c lt not_so. is.whole n c lt not_so ∙ ap (λ xs. map (rising n) (of_connection c xs)) (sym (append-nil (taken n)));
    })
goes_up_stamped taken past old (call ∷ calls) new sound does is order =
    let mid : PmState = does.0 in
    let first = stamped_step taken past old call mid sound does.1 does.2 is (λ n lt. device_prefixes (taken n) (taken_of n (call ∷ calls)) (order n lt)) in
    let rest = goes_up_stamped (λ n. taken n ++ taken_by n call) (past_after past call) mid calls new (one_step past old call mid sound does.1 does.2).sound does.3 first
    (λ n lt. subst InDeviceOrder (sym (append_assoc (taken n) (taken_by n call) (taken_of n calls))) (order n lt)) in
    record {
      order = rest.order;
      bounds = rest.bounds;
      whole = λ n c lt not_so. rest.whole n c lt not_so ∙ ap (λ xs. map (rising n) (of_connection c xs)) (append_assoc (taken n) (taken_by n call) (taken_of n calls));
    }

pub begins_stamped : (past : Past) (pm : PmState) → BeginsStamped past pm
begins_stamped past pm sound none = record {
  order = stamped_starts past.up none;
  bounds = λ n lt. within_none past.up n (port_at pm n).last (port_at pm n).gone none;
  whole = λ n c lt not_so. ap (λ (fs : List Stamped). of_conn n c fs ++ held_of n c pm) none ∙ held_rising n c (port_at pm n).up;
}

-- ---- what a FIS of the control port shows

answer_stamp : (fields : Option D2hFields) (stamp : Stamp) (answer : Option Stamped) → IsAnswer fields stamp answer → (frame : Stamped) → answer ≡ Some frame → frame.stamp ≡ stamp
answer_stamp None stamp None is frame e = absurd cc
answer_stamp None stamp (Some f) is frame e = absurd is
answer_stamp (Some fields) stamp None is frame e = absurd is
answer_stamp (Some fields) stamp (Some f) is frame e = ap (λ (g : Stamped). g.stamp) (sym (same_Some f frame e)) ∙ is.1

module _ (old new : PmState) (given : Stamped) (frame : Stamped) where
  by_answer : (b : Bool) → MatchBool b (ToControl old given (Ok passed.Control) new) (MatchOption (passes_to old (pm_port given)) (ToNobody old (Ok passed.Control) new) (λ conn. ToDevice old (pm_port given) conn given (Ok passed.Control) new))
      → new.answer ≡ Some frame → frame.stamp ≡ control_stamp old
  by_answer true rule e = answer_stamp (answer_to old.resetting old.registers given.bytes) (control_stamp old) new.answer rule.1 frame e
  by_answer false rule e = by_device (passes_to old (pm_port given)) rule
    where
      by_device : (o : Option ℕ) → MatchOption o (ToNobody old (Ok passed.Control) new) (λ conn. ToDevice old (pm_port given) conn given (Ok passed.Control) new) → frame.stamp ≡ control_stamp old
      by_device None rule = absurd rule
      by_device (Some conn) rule = absurd rule

  answered_stamp : (result : Result Passed (Stamped × PmRefusal)) → FromHostRule old given result new → made_by result new ≡ Some frame → frame.stamp ≡ control_stamp old
  answered_stamp (Ok passed.Control) rule e = by_answer (pm_port given == control_port) rule e
  answered_stamp other rule e = absurd cc

none_made : (b : Bool) (given frame : Stamped) → b ≡ false → (let o : Option Stamped = (if b then Some given else None) in o) ≡ Some frame → ⊥
none_made true given frame not_so e = absurd cc
none_made false given frame not_so e = absurd cc

some_made : (b : Bool) (given frame : Stamped) → (let o : Option Stamped = (if b then Some given else None) in o) ≡ Some frame → given ≡ frame
some_made true given frame e = same_Some given frame e
some_made false given frame e = absurd cc

notice_stamp : (old : PmState) (given : Stamped) (new : PmState) (frame : Stamped) → IsSound old → Gives old given new → made_in (NextUp (Ok (Some given))) ≡ Some frame → frame.stamp ≡ control_stamp old
notice_stamp old given new frame sound (FromPort n was at other is stamped rises e) made =
    let port_is : given.stamp.port ≡ n = ap (λ (f : Stamped). f.stamp.port) rises in
    absurd (none_made (is_notice given) given frame (no_notice given (λ h. other (sym port_is ∙ h))) made)
notice_stamp old given new frame sound (Notice at due is e) made = ap (λ (f : Stamped). f.stamp) (sym (some_made (is_notice given) given frame made)) ∙ is.1
notice_stamp old given new frame sound (Answer at is e) made = absurd (none_made (is_notice given) given frame (answer_no_notice given (sound.answer given is)) made)

made_stamp : (old : PmState) (call : Call) (new : PmState) (frame : Stamped) → IsSound old → Does old call new → made_in call ≡ Some frame → frame.stamp ≡ control_stamp old
made_stamp old (FromHost given result made) new frame sound does e = answered_stamp old new given frame result does.0 (sym does.1 ∙ e)
made_stamp old (NextUp (Ok (Some given))) new frame sound does e = notice_stamp old given new frame sound (gives old given new does) e
made_stamp old other new frame sound does e = absurd cc

pub shows_removals : (past : Past) (old mid new : PmState) (calls : List Call) (call : Call) → IsSound old → DoesAll past old calls mid → Does mid call new → ShowsRemovals old calls call
shows_removals past old mid new calls call sound all does frame made n lt =
    let passed = pass_in_order past old mid calls sound all in
    ap (λ (s : Stamp). slice_index s.shown n) (made_stamp mid call new frame passed.sound does made) ∙ removal_at mid.ports n ∙ passed.gone n lt
