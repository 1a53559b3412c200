-- A place that is ready at each turn is passed over at most fifteen times, over any calls.
use Rattle.std.proofs.Common.{◌≡◌, ◌≢◌, ℕ, ◌+◌, ◌<◌, ◌≤◌, ◌==◌, Bool, true, false, List, [], ◌∷◌, ◌++◌, length, Option, Some, None, Result, Ok, Err}
use Rattle.std.proofs.{Common.{MatchOption, sym, ap, ◌∙◌, subst, arith}, lemmas.List.{length-append}}
use Rattle.std.specs.Bool.{MatchBool}
use Rattle.fis_view.specs.{Frames.Stamped, declared.frame.Stamp.Stamp}
use Rattle.pm_ports.specs.declared.port.{Offered.Offered, GoneError.GoneError, PortError.PortError}
use Rattle.pm_ports.specs.declared.port.Offered.TheVariants as offered
use Rattle.multiplier.specs.{Arbiter.control_port, State.{PmState, IsSound, IsPlace, ready, next_place, passes_to, pm_port, settled}}
use Rattle.multiplier.specs.Rules.{FromHostRule, FromDeviceRule, CameRule, GoneRule, NextDownRule, ToControl, ToDevice, ToNobody}
use Rattle.multiplier.specs.declared.{given.{Given.{Given, TheVariants.{Up, Down}}, Source.Source}, multiplier.{Passed.Passed, PmRefusal.PmRefusal}}
use Rattle.multiplier.specs.Passing.{Call, FromHost, FromDevice, Came, Gone, NextUp, PutBackUp, NextDown, PutBackDown, Does, Runs, Past, Suits}
use Rattle.multiplier.specs.{Passing.{PassesOver, past_after, all_past, but_last}, Between.{Answer, FromPort, Gives, IsStep, Notice}}
use Rattle.multiplier.specs.declared.multiplier.Passed.TheVariants as passed
use Rattle.multiplier.proofs.{ArbiterLemmas.{WaitsAtMost, waits_some, Nearer, nearer}, GiveLemmas.gives, PassingLemmas.last_gone, Removals.one_step}

-- so many frames went up; with the turns of others that can pass before the place is served they are within the limit,
-- and so they are once the last one is put back
record IsWithin (place limit size : ℕ) (pm : PmState) : Type 0 where
  now : (k : ℕ) × WaitsAtMost pm.served place k × (size + k ≤ limit)
  back : (before : ℕ) (kind : Source) (stamp : Stamp) → pm.given ≡ Some (Up before kind stamp) → (k : ℕ) × WaitsAtMost before place k × (size + k ≤ limit + 1)

-- ---- which place is served after a call

-- the place served last stays, and no leave to put a frame for the host back is new
record IsNoTurn (old new : PmState) : Type 0 where
  served : new.served ≡ old.served
  given : (before : ℕ) (kind : Source) (stamp : Stamp) → new.given ≡ Some (Up before kind stamp) → old.given ≡ Some (Up before kind stamp)

no_turn_same : (old new : PmState) → new ≡ old → IsNoTurn old new
no_turn_same old new e = record { served = ap (λ (pm : PmState). pm.served) e; given = λ b k s is. sym (ap (λ (pm : PmState). pm.given) e) ∙ is }

no_turn_settled : (old new : PmState) → new.served ≡ old.served → new.given ≡ None → IsNoTurn old new
no_turn_settled old new served none = record { served = served; given = λ b k s is. absurd (let no : None ≡ Some (Up b k s) = sym none ∙ is in cc) }

no_turn_control : (old new : PmState) (frame : Stamped) (result : Result Passed (Stamped × PmRefusal)) → ToControl old frame result new → IsNoTurn old new
no_turn_control old new frame (Ok passed.Control) rule = no_turn_settled old new (ap (λ (pm : PmState). pm.served) rule.2) (ap (λ (pm : PmState). pm.given) rule.2)
no_turn_control old new frame (Err given) rule = no_turn_same old new rule.2
no_turn_control old new frame other rule = absurd rule

no_turn_device : (old new : PmState) (n conn : ℕ) (frame : Stamped) (result : Result Passed (Stamped × PmRefusal)) → ToDevice old n conn frame result new → IsNoTurn old new
no_turn_device old new n conn frame (Ok (passed.Down m)) rule = no_turn_settled old new (ap (λ (pm : PmState). pm.served) rule.2) (ap (λ (pm : PmState). pm.given) rule.2)
no_turn_device old new n conn frame (Err given) rule = no_turn_same old new rule.2
no_turn_device old new n conn frame other rule = absurd rule

no_turn_nobody : (old new : PmState) (result : Result Passed (Stamped × PmRefusal)) → ToNobody old result new → IsNoTurn old new
no_turn_nobody old new (Ok passed.Dropped) rule = no_turn_settled old new (ap (λ (pm : PmState). pm.served) rule) (ap (λ (pm : PmState). pm.given) rule)
no_turn_nobody old new other rule = absurd rule

module _ (old new : PmState) (frame : Stamped) (result : Result Passed (Stamped × PmRefusal)) where
  by_device : (to : Option ℕ) → MatchOption to (ToNobody old result new) (λ conn. ToDevice old (pm_port frame) conn frame result new) → IsNoTurn old new
  by_device None rule = no_turn_nobody old new result rule
  by_device (Some conn) rule = no_turn_device old new (pm_port frame) conn frame result rule

  by_port : (b : Bool) → MatchBool b (ToControl old frame result new) (MatchOption (passes_to old (pm_port frame)) (ToNobody old result new) (λ conn. ToDevice old (pm_port frame) conn frame result new)) → IsNoTurn old new
  by_port true rule = no_turn_control old new frame result rule
  by_port false rule = by_device (passes_to old (pm_port frame)) rule

  no_turn_host : FromHostRule old frame result new → IsNoTurn old new
  no_turn_host rule = by_port (pm_port frame == control_port) rule

no_turn_offer : (old new : PmState) (n : ℕ) (frame : Stamped) (result : Result Offered Stamped) → FromDeviceRule old n frame result new → IsNoTurn old new
no_turn_offer old new n frame (Ok offered.Held) rule = no_turn_settled old new (ap (λ (pm : PmState). pm.served) rule.2) (ap (λ (pm : PmState). pm.given) rule.2)
no_turn_offer old new n frame (Ok offered.Dropped) rule = no_turn_same old new rule.1
no_turn_offer old new n frame (Err frame') rule = no_turn_same old new rule.3

no_turn_came : (old new : PmState) (n conn : ℕ) (result : Result (Unit {0}) PortError) → CameRule old n conn result new → IsNoTurn old new
no_turn_came old new n conn (Ok done) rule = no_turn_settled old new (ap (λ (pm : PmState). pm.served) rule.1) (ap (λ (pm : PmState). pm.given) rule.1)
no_turn_came old new n conn (Err error) rule = no_turn_same old new rule.1

no_turn_gone : (old new : PmState) (n conn : ℕ) (result : Result (Unit {0}) GoneError) → GoneRule old n conn result new → IsNoTurn old new
no_turn_gone old new n conn (Ok done) rule = no_turn_settled old new (ap (λ (pm : PmState). pm.served) rule.1) (ap (λ (pm : PmState). pm.given) rule.1)
no_turn_gone old new n conn (Err error) rule = no_turn_same old new rule.1

no_turn_down : (old new : PmState) (n : ℕ) (result : Option Stamped) → NextDownRule old n result new → IsNoTurn old new
no_turn_down old new n (Some frame) rule = record {
  served = ap (λ (pm : PmState). pm.served) rule.1;
  given = λ b k s is. absurd (let no : Some (Down n frame.stamp) ≡ Some (Up b k s) = sym (ap (λ (pm : PmState). pm.given) rule.1) ∙ is in cc);
}
no_turn_down old new n None rule = no_turn_same old new rule.1

-- ---- one call

stays : (place limit size : ℕ) (old new : PmState) → IsNoTurn old new → IsWithin place limit size old → IsWithin place limit size new
stays place limit size old new kept is = record {
  now = subst (λ (s : ℕ). (k : ℕ) × WaitsAtMost s place k × (size + k ≤ limit)) (sym kept.served) is.now;
  back = λ before kind stamp e. is.back before kind stamp (kept.given before kind stamp e);
}

-- the place that was served and the leave, after a frame went up
record IsTurn (old new : PmState) : Type 0 where
  at : next_place old ≡ Some new.served
  given : (before : ℕ) (kind : Source) (stamp : Stamp) → new.given ≡ Some (Up before kind stamp) → before ≡ old.served

abbrev before_of : ℕ → Option Given → ℕ
before_of d (Some (Up before kind stamp)) = before
before_of d given = d

turn : (old : PmState) (frame : Stamped) (new : PmState) → Gives old frame new → IsTurn old new
turn old frame new (FromPort n was at other is stamped rises e) = record {
  at = at ∙ sym (ap (λ (pm : PmState). Some pm.served) e);
  given = λ b k s is. sym (ap (before_of 0) (sym (ap (λ (pm : PmState). pm.given) e) ∙ is));
}
turn old frame new (Notice at due is e) = record {
  at = at ∙ sym (ap (λ (pm : PmState). Some pm.served) e);
  given = λ b k s leave. sym (ap (before_of 0) (sym (ap (λ (pm : PmState). pm.given) e) ∙ leave));
}
turn old frame new (Answer at is e) = record {
  at = at ∙ sym (ap (λ (pm : PmState). Some pm.served) e);
  given = λ b k s leave. sym (ap (before_of 0) (sym (ap (λ (pm : PmState). pm.given) e) ∙ leave));
}

module _ (place limit : ℕ) (small : place ≤ control_port) where
  passed_over : (up : List Stamped) (old : PmState) (frame : Stamped) (new : PmState) → IsSound old → IsTurn old new → ready old place ≡ true → new.served ≢ place
      → IsWithin place limit (length up) old → IsWithin place limit (length (up ++ frame ∷ [])) new
  passed_over up old frame new sound is ready_is other within =
      let k : ℕ = within.now.0 in
      let less : length up + k ≤ limit = within.now.2 in
      let size : length (up ++ frame ∷ []) ≡ length up + 1 = length-append up (frame ∷ []) in
      let near : Nearer new.served place k = nearer (ready old) old.served place k new.served sound.served small within.now.1 (sym (sym is.at)) ready_is other in
      let j : ℕ = near.0 in
      let closer : j < k = near.1 in
      record {
        now = (j, near.2, omega arith);
        back = λ before kind stamp e. (k, subst (λ (s : ℕ). WaitsAtMost s place k) (sym (is.given before kind stamp e)) within.now.1, omega arith);
      }

  put_back : (up : List Stamped) (before old : PmState) (frame : Stamped) (new : PmState) → Gives before frame old → new ≡ settled before → (front : List Stamped) → up ≡ front ++ frame ∷ []
      → IsWithin place limit (length up) old → IsWithin place limit (length (but_last up)) new
  put_back up before old frame new way is front ends within =
      let leave : (kind : Source) × (stamp : Stamp) × (old.given ≡ Some (Up before.served kind stamp)) = leave_of way in
      let far = within.back before.served leave.0 leave.1 leave.2 in
      let k : ℕ = far.0 in
      let most : length up + k ≤ limit + 1 = far.2 in
      let size : length up ≡ length front + 1 = ap length ends ∙ length-append front (frame ∷ []) in
      let less : length (but_last up) ≡ length front = ap length (last_gone up front frame ends) in
      record {
        now = (k, subst (λ (s : ℕ). WaitsAtMost s place k) (sym (ap (λ (pm : PmState). pm.served) is)) far.1, omega arith);
        back = λ b kind stamp e. absurd (let no : None ≡ Some (Up b kind stamp) = sym (ap (λ (pm : PmState). pm.given) is) ∙ e in cc);
      }
    where
      leave_of : Gives before frame old → (kind : Source) × (stamp : Stamp) × (old.given ≡ Some (Up before.served kind stamp))
      leave_of (FromPort n was at other is stamped rises e) = (_, frame.stamp, ap (λ (pm : PmState). pm.given) e)
      leave_of (Notice at due is e) = (_, frame.stamp, ap (λ (pm : PmState). pm.given) e)
      leave_of (Answer at is e) = (_, frame.stamp, ap (λ (pm : PmState). pm.given) e)

  one_call : (past : Past) (old : PmState) (call : Call) (new : PmState) → IsSound old → Suits past call → PassesOver place old call new
      → IsWithin place limit (length past.up) old → IsWithin place limit (length (past_after past call).up) new
  one_call past old (FromHost frame result made) new sound suits does within = stays place limit (length past.up) old new (no_turn_host old new frame result does.0) within
  one_call past old (FromDevice n frame result) new sound suits does within = stays place limit (length past.up) old new (no_turn_offer old new n frame result does.1) within
  one_call past old (Came n conn result) new sound suits does within = stays place limit (length past.up) old new (no_turn_came old new n conn result does.1) within
  one_call past old (Gone n conn result up down) new sound suits does within = stays place limit (length past.up) old new (no_turn_gone old new n conn result does.1) within
  one_call past old (NextUp (Ok (Some frame))) new sound suits does within = passed_over past.up old frame new sound (turn old frame new (gives old frame new does.0)) does.1 does.2 within
  one_call past old (NextUp (Ok None)) new sound suits does within = stays place limit (length past.up) old new (no_turn_same old new does.1) within
  one_call past old (NextUp (Err e)) new sound suits does within = stays place limit (length past.up) old new (no_turn_same old new does.2) within
  one_call past old (PutBackUp frame) new sound suits does within =
      put_back past.up does.0.0 old frame new (gives does.0.0 frame old does.0.2) (does.1 does.0.0 does.0.2) suits.0.0 suits.0.1 within
  one_call past old (NextDown n (Some frame)) new sound suits does within = stays place limit (length past.up) old new (no_turn_down old new n (Some frame) does.1) within
  one_call past old (NextDown n None) new sound suits does within = stays place limit (length past.up) old new (no_turn_down old new n None does.1) within
  one_call past old (PutBackDown n frame) new sound suits does within =
      stays place limit (length past.up) old new (no_turn_settled old new (ap (λ (pm : PmState). pm.served) (does.1 does.0.0 does.0.2) ∙ sym (ap (λ (pm : PmState). pm.served) does.0.2.1)) (ap (λ (pm : PmState). pm.given) (does.1 does.0.0 does.0.2))) within

  -- what such a call does
  as_does : (old : PmState) (call : Call) (new : PmState) → PassesOver place old call new → Does old call new
  as_does old (NextUp (Ok (Some frame))) new does = does.0
  as_does old other new does = does

  all_calls : (past : Past) (old new : PmState) (calls : List Call) → IsSound old → Runs (PassesOver place) past old calls new → IsWithin place limit (length past.up) old
      → IsWithin place limit (length (all_past past calls).up) new
  all_calls past old new [] sound does within = subst (IsWithin place limit (length past.up)) (sym does) within
  all_calls past old new (call ∷ calls) sound does within =
      let mid : PmState = does.0 in
      let step : IsStep past old call mid = one_step past old call mid sound does.1 (as_does old call mid does.2) in
      all_calls (past_after past call) mid new calls step.sound does.3 (one_call past old call mid sound does.1 does.2 within)

begins : (place size : ℕ) (pm : PmState) → place ≤ control_port → IsSound pm → IsWithin place (size + 15) size pm
begins place size pm small sound =
    let first = waits_some pm.served place sound.served small in
    let k : ℕ = first.0 in
    let most : k ≤ 15 = first.2 in
    record {
      now = (k, first.1, omega arith);
      back = λ before kind stamp e.
          let low : before ≤ control_port = subst IsPlace e sound.given in
          let far = waits_some before place low small in
          let j : ℕ = far.0 in
          let least : j ≤ 15 = far.2 in
          (j, far.1, omega arith);
    }

pub passed_fifteen : (past : Past) (old new : PmState) (calls : List Call) (place : ℕ) → IsSound old → place ≤ control_port → Runs (PassesOver place) past old calls new
    → length (all_past past calls).up ≤ length past.up + 15
passed_fifteen past old new calls place sound small does =
    let within : IsWithin place (length past.up + 15) (length (all_past past calls).up) new = all_calls place (length past.up + 15) small past old new calls sound does (begins place (length past.up) old small sound) in
    let k : ℕ = within.now.0 in
    let most : length (all_past past calls).up + k ≤ length past.up + 15 = within.now.2 in
    omega arith
