-- For `Counts::note`. A connection of which no answer says that it came has sent nothing, so nothing of it was taken.
use Rattle.std.proofs.Common.{◌≡◌, ◌≢◌, ℕ, zero, suc, ◌+◌, ◌<◌, ◌≤◌, List, [], ◌∷◌, ◌++◌, Option, Some, None, Bool, true, false, refl, sym, ap, subst}
use Rattle.std.proofs.{Common.{◌∙◌, append_assoc, inl, inr, map, length, arith, length-append}, lemmas.Bool.{cases_eq, eqb-true, eq-eqb, ne_eqb}}
use Rattle.std.proofs.lemmas.{Bool.{false≢true}, Option.{same_Some, slice_get_within}, List.append-nil, List.Folds.{list_any-append}}
use Rattle.std.specs.{Prelude.{◌&&◌, ◌==◌, ◌||◌, ◌⊎◌, if◌then◌else◌, slice_get, slice_set, IsTrue, Ok, option_map}, Option.option_or, List.flat_map}
use Rattle.multiplier.specs.{Arbiter.control_port, State.PmState}
use Rattle.hba_driver.specs.{declared.mode.Mode.Mode, HostTurns.Host}
use Rattle.pm_world.specs.{Attached.Attached, Places.{Places, Place, Queue, IsOrderly, opening, new_world_in}, Rules.{Outcome, CameActs, GoneActs}}
use Rattle.pm_world.specs.Rules.{DiskSendActs, InjectActs, CameRule, GoneRule, DiskSendRule, InjectRule, DiskTakeRule, PmPresenceRule}
use Rattle.pm_world.specs.{Rules.{PmFromDeviceRule, PmDownRule, PmUpRule, HostTakeRule, OnDevice, OnDeviceAndMultiplier, Rule, Run}, Traffic.sent_by}
use Rattle.pm_world.specs.{Traffic.{taken_by, sent, taken}, Counting.{capped, row_of, first_row, sent_more, taken_more, noted, says_came, has_come}}
use Rattle.pm_world.specs.{Counting.{Tell, AreOfARun}, declared.{counts.ConnCount.ConnCount, step.{Config.Config, Step.Step, Answer.Answer}}}
use Rattle.pm_world.specs.declared.step.Step.TheVariants as step
use Rattle.pm_world.specs.declared.step.Answer.TheVariants as answer
use Rattle.pm_world.proofs.{upward.{Law.nothing_lost, FrameMoves.{IsQuiet, from_host_quiet}}, steps.Lists.{slice_get-set_same, slice_get-set_other}}
use Rattle.pm_world.proofs.{upward.FrameMoves.{push_quiet, tick_quiet, submit_quiet, poll_quiet, put_quiet}, steps.Openings.nothing_stands}
use Rattle.pm_world.proofs.steps.{Orderly.{opening_orderly, run_orderly}, Steps.{at_device, at_both}}

-- a device is plugged in at port n, on connection c
pub record IsPluggedAt (devices : List Place) (n c : ℕ) : Type 0 where
  pub place : Place
  pub is : slice_get devices n ≡ Some place
  pub plugged : IsTrue place.plugged
  pub conn_is : place.conn ≡ c

-- A device is plugged in if it was on the same connection, or if the answer says that the connection
-- came. Only a device that was plugged in sent, on its connection. Only a device that is there comes.
pub record Comes (old : List Place) (a : Answer) (new : List Place) : Type 0 where
  pub comes : (m c : ℕ) → IsPluggedAt new m c → (says_came m c a ≡ true) ⊎ IsPluggedAt old m c
  pub sends : (m c : ℕ) → (sent_by m c a ≡ []) ⊎ IsPluggedAt old m c
  pub within : (m c : ℕ) → says_came m c a ≡ true → m < length old

-- the same for the place at port n, if the step is one of that device
pub record PlaceComes (n : ℕ) (old : Place) (a : Answer) (new : Place) : Type 0 where
  pub comes : IsTrue new.plugged → (says_came n new.conn a ≡ true) ⊎ (IsTrue old.plugged × (old.conn ≡ new.conn))
  pub sends : (m c : ℕ) → (sent_by m c a ≡ []) ⊎ (IsTrue old.plugged × (n ≡ m) × (old.conn ≡ c))
  pub within : (m c : ℕ) → says_came m c a ≡ true → n ≡ m

-- a step of device n
module _ (old : List Place) (n : ℕ) (place : Place) (a : Answer) (after : Place) (is : slice_get old n ≡ Some place) (h : PlaceComes n place a after) where
  here_comes : (c : ℕ) (now : Place) → after ≡ now → IsTrue now.plugged → now.conn ≡ c → (says_came n c a ≡ true) ⊎ IsPluggedAt old n c
  here_comes c now same plugged conn_is =
      elim (h.comes (rw same plugged)) [
        | inl says ↦ inl (rw (ap (λ (p : Place). p.conn) same ∙ conn_is) at says)
        | inr was ↦ inr (record { place = place; is = is; plugged = was.0; conn_is = was.1 ∙ ap (λ (p : Place). p.conn) same ∙ conn_is })
      ]

  pub device_comes : Comes old a (slice_set old n after)
  device_comes = record {
    comes = λ m c at.
        elim (cases_eq m n) [
          | inl e ↦
              let same : after ≡ at.place = same_Some after at.place (sym (slice_get-set_same old n place after is) ∙ ap (λ k. slice_get (slice_set old n after) k) (sym e) ∙ at.is) in
              rw e (here_comes c at.place same at.plugged at.conn_is)
          | inr other ↦ inr (record { place = at.place; is = sym (slice_get-set_other old n m after other) ∙ at.is; plugged = at.plugged; conn_is = at.conn_is })
        ];
    sends = λ m c.
        elim (h.sends m c) [
          | inl none ↦ inl none
          | inr was ↦ inr (record { place = place; is = ap (λ k. slice_get old k) (sym was.1) ∙ is; plugged = was.0; conn_is = was.2 })
        ];
    within = λ m c says. subst (λ k. k < length old) (h.within m c says) (slice_get_within old n place is);
  }

-- an answer that tells of no device that came, and of no frame that a device sent
abbrev IsMute : Answer → Type 0
IsMute (answer.Came port conn) = ⊥
IsMute (answer.Sent port conn number bytes) = ⊥
IsMute _ = Prim.Unit {0}

mute_sends : (a : Answer) → IsMute a → (m c : ℕ) → sent_by m c a ≡ []
mute_sends (answer.Came port conn) mute m c = absurd mute
mute_sends (answer.Sent port conn number bytes) mute m c = absurd mute
mute_sends _ mute m c = refl

mute_comes : {P : Type 0} → (a : Answer) → IsMute a → (m c : ℕ) → says_came m c a ≡ true → P
mute_comes (answer.Came port conn) mute m c says = absurd mute
mute_comes (answer.Sent port conn number bytes) mute m c says = absurd mute
mute_comes _ mute m c says = absurd (false≢true says)

quiet_mute : (a : Answer) → IsQuiet a → IsMute a
quiet_mute (answer.Came port conn) quiet = absurd quiet
quiet_mute (answer.Sent port conn number bytes) quiet = absurd quiet
quiet_mute _ quiet = tt

-- a place that stays plugged as it was, on its connection, sends nothing
place_stays : (n : ℕ) (old : Place) (a : Answer) (new : Place) → new.plugged ≡ old.plugged → new.conn ≡ old.conn → IsMute a → PlaceComes n old a new
place_stays n old a new plugged conn mute = record {
  comes = λ now. inr (rw (← plugged) now, sym conn);
  sends = λ m c. inl (mute_sends a mute m c);
  within = λ m c says. mute_comes a mute m c says;
}

same_place : (n : ℕ) (old : Place) (a : Answer) (new : Place) → new ≡ old → IsMute a → PlaceComes n old a new
same_place n old a new e mute = place_stays n old a new (ap (λ (p : Place). p.plugged) e) (ap (λ (p : Place). p.conn) e) mute

-- what was sent is of one connection
sent_of : (port conn number : ℕ) (bytes : List ℕ) (m c : ℕ) → (sent_by m c (answer.Sent port conn number bytes) ≡ []) ⊎ ((port ≡ m) × (conn ≡ c))
sent_of port conn number bytes m c =
    elim (cases_eq port m) [
      | inl e ↦ elim (cases_eq conn c) [
        | inl f ↦ inr (e, f)
        | inr other ↦ inl (rw (eq-eqb port m e, ne_eqb conn c other))
      ]
      | inr other ↦ inl (rw (ne_eqb port m other))
    ]

place_sends : (n : ℕ) (old : Place) (port conn number : ℕ) (bytes : List ℕ) (new : Place) → IsTrue old.plugged → port ≡ n → conn ≡ old.conn → new.conn ≡ old.conn → PlaceComes n old (answer.Sent port conn number bytes) new
place_sends n old port conn number bytes new plugged port_is conn_is stays = record {
  comes = λ now. inr (plugged, sym stays);
  sends = λ m c.
      elim (sent_of port conn number bytes m c) [
        | inl none ↦ inl none
        | inr of ↦ inr (plugged, sym port_is ∙ of.0, sym conn_is ∙ of.1)
      ];
  within = λ m c says. absurd (false≢true says);
}

first_holds : (p q : Bool) → (p && q) ≡ true → p ≡ true
first_holds true q e = refl
first_holds false q e = absurd (false≢true e)

came_comes : (n : ℕ) (old : Place) (a : Answer) (new : Place) → CameActs n old a new → PlaceComes n old a new
came_comes n old answer.Blocked new acts = same_place n old answer.Blocked new acts.1 tt
came_comes n old (answer.Came port conn) new acts = record {
  comes = λ now. inl (rw (eq-eqb port n acts.0, eq-eqb conn new.conn (acts.1 ∙ sym (ap (λ (p : Place). p.conn) acts.3))));
  sends = λ m c. inl refl;
  within = λ m c says. sym acts.0 ∙ eqb-true port m (first_holds (port == m) (conn == c) says);
}
came_comes n old _ new acts = absurd acts

-- a device that went is not plugged in
gone_comes : (n : ℕ) (old : Place) (a : Answer) (new : Place) → GoneActs n old a new → PlaceComes n old a new
gone_comes n old answer.Blocked new acts = same_place n old answer.Blocked new acts.1 tt
gone_comes n old (answer.Gone port conn) new acts = record {
  comes = λ now. absurd (false≢true (sym (ap (λ (p : Place). p.plugged) acts.2) ∙ now));
  sends = λ m c. inl refl;
  within = λ m c says. absurd (false≢true says);
}
gone_comes n old _ new acts = absurd acts

sends_comes : (n : ℕ) (old : Place) (a : Answer) (new : Place) → DiskSendActs n old a new → PlaceComes n old a new
sends_comes n old answer.Idle new acts = same_place n old answer.Idle new acts.1 tt
sends_comes n old answer.Blocked new acts = same_place n old answer.Blocked new acts.2 tt
sends_comes n old (answer.Sent port conn number bytes) new acts = place_sends n old port conn number bytes new acts.0.0 acts.1 acts.2 (ap (λ (p : Place). p.conn) acts.5)
sends_comes n old _ new acts = absurd acts

inject_comes : (n : ℕ) (given : List ℕ) (old : Place) (a : Answer) (new : Place) → InjectActs n given old a new → PlaceComes n old a new
inject_comes n given old answer.Blocked new acts = same_place n old answer.Blocked new acts.1 tt
inject_comes n given old (answer.Sent port conn number bytes) new acts = place_sends n old port conn number bytes new acts.0.0 acts.1 acts.2 (ap (λ (p : Place). p.conn) acts.5)
inject_comes n given old _ new acts = absurd acts

take_off_comes : (n : ℕ) (old : Place) (a : Answer) (new : Place) → DiskTakeRule n old (Ok a) new → PlaceComes n old a new
take_off_comes n old answer.Idle new acts = same_place n old answer.Idle new acts.1 tt
take_off_comes n old (answer.DiskTook p dropped) new acts =
    place_stays n old (answer.DiskTook p dropped) new (ap (λ (q : Place). q.plugged) acts.2) (ap (λ (q : Place). q.conn) acts.2) tt
take_off_comes n old _ new acts = absurd acts

presence_comes : (n : ℕ) (old : Place) (pm : PmState) (a : Answer) (new : Place) (after : PmState) → PmPresenceRule n old pm (Ok a) new after → PlaceComes n old a new
presence_comes n old pm answer.Idle new after acts = same_place n old answer.Idle new acts.1 tt
presence_comes n old pm (answer.Presence p) new after acts =
    place_stays n old (answer.Presence p) new (ap (λ (q : Place). q.plugged) acts.1) (ap (λ (q : Place). q.conn) acts.1) tt
presence_comes n old pm _ new after acts = absurd acts

from_device_comes : (n : ℕ) (old : Place) (pm : PmState) (a : Answer) (new : Place) (after : PmState) → PmFromDeviceRule n old pm (Ok a) new after → PlaceComes n old a new
from_device_comes n old pm answer.Idle new after acts = same_place n old answer.Idle new acts.1 tt
from_device_comes n old pm answer.Blocked new after acts = same_place n old answer.Blocked new acts.2 tt
from_device_comes n old pm (answer.Offered p dropped) new after acts =
    place_stays n old (answer.Offered p dropped) new (ap (λ (q : Place). q.plugged) acts.1) (ap (λ (q : Place). q.conn) acts.1) tt
from_device_comes n old pm _ new after acts = absurd acts

down_comes : (n : ℕ) (old : Place) (pm : PmState) (a : Answer) (new : Place) (after : PmState) → PmDownRule n old pm (Ok a) new after → PlaceComes n old a new
down_comes n old pm answer.Idle new after acts = same_place n old answer.Idle new acts.2 tt
down_comes n old pm answer.Blocked new after acts = same_place n old answer.Blocked new acts.1 tt
down_comes n old pm (answer.Down p) new after acts =
    place_stays n old (answer.Down p) new (ap (λ (q : Place). q.plugged) acts.2.2) (ap (λ (q : Place). q.conn) acts.2.2) tt
down_comes n old pm _ new after acts = absurd acts

-- a step of no device leaves them
devices_stay : (old : List Place) (a : Answer) (new : List Place) → new ≡ old → IsMute a → Comes old a new
devices_stay old a new same mute = rw same (record {
  comes = λ m c at. inr at;
  sends = λ m c. inl (mute_sends a mute m c);
  within = λ m c says. mute_comes a mute m c says;
})

quiet_stay : (old : Places) (a : Answer) (new : Places) → new.devices ≡ old.devices → IsQuiet a → Comes old.devices a new.devices
quiet_stay old a new same quiet = devices_stay old.devices a new.devices same (quiet_mute a quiet)

up_mute : (pm : PmState) (upward : Queue) (a : Answer) (after : PmState) (new : Queue) → PmUpRule pm upward (Ok a) after new → IsMute a
up_mute pm upward answer.Idle after new acts = tt
up_mute pm upward answer.Blocked after new acts = tt
up_mute pm upward (answer.Up port) after new acts = tt
up_mute pm upward _ after new acts = absurd acts

take_mute : (link : Queue) (host : Host) (a : Answer) (new : Queue) (after : Host) → HostTakeRule link host (Ok a) new after → IsMute a
take_mute link host answer.Idle new after acts = tt
take_mute link host (answer.Took port conn number bytes report) new after acts = tt
take_mute link host _ new after acts = absurd acts

on_device : (old : Places) (n : ℕ) (a : Answer) (new : Places) (R : Place → Outcome → Place → Type 0) → ((place after : Place) → R place (Ok a) after → PlaceComes n place a after) → OnDevice old n (Ok a) new R → Comes old.devices a new.devices
on_device old n a new R comes h =
    let p = at_device old n a new R h in
    rw (ap (λ (w : Places). w.devices) p.new_is) (device_comes old.devices n p.place a p.after p.is (comes p.place p.after p.rule))

on_both : (old : Places) (n : ℕ) (a : Answer) (new : Places) (R : Place → PmState → Outcome → Place → PmState → Type 0) → ((place after : Place) (left : PmState) → R place old.multiplier (Ok a) after left → PlaceComes n place a after) → OnDeviceAndMultiplier old n (Ok a) new R → Comes old.devices a new.devices
on_both old n a new R comes h =
    let p = at_both old n a new R h in
    rw (ap (λ (w : Places). w.devices) p.new_is) (device_comes old.devices n p.place a p.after p.is (comes p.place p.after p.left p.rule))

-- each step
rule_comes : (old : Places) (s : Step) (a : Answer) (new : Places) → Rule old s (Ok a) new → Comes old.devices a new.devices
rule_comes old (step.Came n) a new rule = on_device old n a new (CameRule n) (λ place after r. came_comes n place a after r.1) rule
rule_comes old (step.Gone n) a new rule = on_device old n a new (GoneRule n) (λ place after r. gone_comes n place a after r.1) rule
rule_comes old (step.DiskSend n) a new rule = on_device old n a new (DiskSendRule n) (λ place after r. sends_comes n place a after r.1) rule
rule_comes old (step.Inject n bytes) a new rule = on_device old n a new (InjectRule n bytes) (λ place after r. inject_comes n bytes place a after r.1) rule
rule_comes old (step.DiskTake n) a new rule = on_device old n a new (DiskTakeRule n) (λ place after r. take_off_comes n place a after r) rule
rule_comes old (step.PmPresence n) a new rule = on_both old n a new (PmPresenceRule n) (λ place after left r. presence_comes n place old.multiplier a after left r) rule
rule_comes old (step.PmFromDevice n) a new rule = on_both old n a new (PmFromDeviceRule n) (λ place after left r. from_device_comes n place old.multiplier a after left r) rule
rule_comes old (step.PmDown n) a new rule = on_both old n a new (PmDownRule n) (λ place after left r. down_comes n place old.multiplier a after left r) rule
rule_comes old step.PmFromHost a new rule = quiet_stay old a new (ap (λ (w : Places). w.devices) rule.1) (from_host_quiet old.downward old.multiplier a new.downward new.multiplier rule.0).0
rule_comes old step.PmUp a new rule = devices_stay old.devices a new.devices (ap (λ (w : Places). w.devices) rule.1) (up_mute old.multiplier old.upward a new.multiplier new.upward rule.0)
rule_comes old step.HostTake a new rule = devices_stay old.devices a new.devices (ap (λ (w : Places). w.devices) rule.1) (take_mute old.upward old.host a new.upward new.host rule.0)
rule_comes old step.HostPush a new rule = quiet_stay old a new (ap (λ (w : Places). w.devices) rule.1) (push_quiet old.host old.downward a new.host new.downward rule.0)
rule_comes old step.Tick a new rule = quiet_stay old a new (ap (λ (w : Places). w.devices) rule.1) (tick_quiet old.host a new.host rule.0)
rule_comes old (step.Submit dev request) a new rule = quiet_stay old a new (ap (λ (w : Places). w.devices) rule.1) (submit_quiet dev request old.host a new.host rule.0)
rule_comes old step.Poll a new rule = quiet_stay old a new (ap (λ (w : Places). w.devices) rule.1) (poll_quiet old.host a new.host rule.0)
rule_comes old (step.Put at bytes) a new rule = quiet_stay old a new (ap (λ (w : Places). w.devices) rule.1) (put_quiet at bytes old.host a new.host rule.0)

-- After these answers, what is plugged in came, and what has not come sent nothing.
pub record AllCame (answers : List Answer) (devices : List Place) : Type 0 where
  pub came : (m c : ℕ) → IsPluggedAt devices m c → has_come m c answers ≡ true
  pub unsent : (m c : ℕ) → has_come m c answers ≡ false → sent m c answers ≡ []

or_false : (b : Bool) → (b || false) ≡ b
or_false true = refl
or_false false = refl

has_come-more : (m c : ℕ) (answers : List Answer) (a : Answer) → has_come m c (answers ++ a ∷ []) ≡ (has_come m c answers || says_came m c a)
has_come-more m c answers a = list_any-append (says_came m c) answers (a ∷ []) ∙ ap (λ b. has_come m c answers || b) (or_false (says_came m c a))

flat_map-more : {X Y : Type 0} (f : X → List Y) (xs : List X) (x : X) → flat_map f (xs ++ x ∷ []) ≡ flat_map f xs ++ f x
flat_map-more f [] x = append-nil (f x)
flat_map-more f (y ∷ xs) x = rw (flat_map-more f xs x) (sym (append_assoc (f y) (flat_map f xs) (f x)))

or_true : (p q : Bool) → (p ≡ true) ⊎ (q ≡ true) → (p || q) ≡ true
or_true true q h = refl
or_true false q (inl e) = absurd (cc)
or_true false q (inr e) = e

neither : (p q : Bool) → (p || q) ≡ false → p ≡ false
neither true q e = absurd (cc)
neither false q e = refl

step_keeps : (answers : List Answer) (old : List Place) (a : Answer) (new : List Place) → AllCame answers old → Comes old a new → AllCame (answers ++ a ∷ []) new
step_keeps answers old a new all step = record {
  came = λ m c at.
      rw (has_come-more m c answers a) (or_true (has_come m c answers) (says_came m c a) (elim (step.comes m c at) [
        | inl says ↦ inr says
        | inr was ↦ inl (all.came m c was)
      ]));
  unsent = λ m c none.
      let before : has_come m c answers ≡ false = neither (has_come m c answers) (says_came m c a) (sym (has_come-more m c answers a) ∙ none) in
      rw (flat_map-more (sent_by m c) answers a, all.unsent m c before) (elim (step.sends m c) [
        | inl nothing ↦ nothing
        | inr was ↦ absurd (false≢true (sym before ∙ all.came m c was))
      ]);
}

run_keeps : (before : List Answer) (old : Places) (steps : List Step) (answers : List Answer) (new : Places) → AllCame before old.devices → Run old steps answers new → AllCame (before ++ answers) new.devices
run_keeps before old [] [] new all run = rw (append-nil before, run) all
run_keeps before old (s ∷ steps) (a ∷ answers) new all run =
    let next = step_keeps before old.devices a run.0.devices all (rule_comes old s a run.0 run.1) in
    rw append_assoc at (run_keeps (before ++ a ∷ []) run.0 steps answers new next run.2)
run_keeps before old [] (a ∷ answers) new all run = absurd run
run_keeps before old (s ∷ steps) [] new all run = absurd run

unplugged : (capacity : ℕ) (units : List Attached) (n : ℕ) (place : Place) → slice_get (map (opening capacity) units) n ≡ Some place → place.plugged ≡ false
unplugged capacity [] n place is = absurd (cc)
unplugged capacity (u ∷ units) zero place is = ap (λ (p : Place). p.plugged) (sym (same_Some (opening capacity u) place is))
unplugged capacity (u ∷ units) (suc n) place is = unplugged capacity units n place is

opening_keeps : (mode : Mode) (config : Config) (units : List Attached) → AllCame [] (new_world_in mode config units).devices
opening_keeps mode config units = record {
  came = λ m c at. absurd (false≢true (sym (unplugged config.capacity units m at.place at.is) ∙ at.plugged));
  unsent = λ m c none. refl;
}

-- all answers of a run but the last are those of a run, and the last is that of a step after it
record Front (old : Places) (answers : List Answer) (a : Answer) : Type 0 where
  steps : List Step
  mid : Places
  run : Run old steps answers mid
  last : Step
  new : Places
  rule : Rule mid last (Ok a) new

run_front : (old : Places) (steps : List Step) (answers : List Answer) (a : Answer) (new : Places) → Run old steps (answers ++ a ∷ []) new → Front old answers a
run_front old (s ∷ steps) [] a new run = record { steps = []; mid = old; run = refl; last = s; new = run.0; rule = run.1 }
run_front old (s ∷ steps) (b ∷ answers) a new run =
    let rest = run_front run.0 steps answers a new run.2 in
    record { steps = s ∷ rest.steps; mid = rest.mid; run = (run.0, run.1, rest.run); last = rest.last; new = rest.new; rule = rest.rule }
run_front old [] [] a new run = absurd run
run_front old [] (b ∷ answers) a new run = absurd run

nothing_before : {X : Type 0} (front rest : List X) → front ++ rest ≡ [] → front ≡ []
nothing_before [] rest e = refl
nothing_before (x ∷ front) rest e = absurd (cc)

-- what has not come has sent nothing, and nothing of it was taken
module _ (answers : List Answer) (a : Answer) (all : AreOfARun (answers ++ a ∷ [])) where
  abbrev opening_world : Places
  opening_world = new_world_in all.mode all.config all.units

  front : Front opening_world answers a
  front = run_front opening_world all.steps answers a all.now all.run

  orderly : IsOrderly opening_world
  orderly = opening_orderly all.mode all.config all.units all.fits

  -- the control port is not the port of a device
  comes_at_device : (n c : ℕ) → says_came n c a ≡ true → n ≢ control_port
  comes_at_device n c says e =
      let there : n < length front.mid.devices = (rule_comes front.mid front.last a front.new front.rule).within n c says in
      let most : length front.mid.devices ≤ 15 = (run_orderly opening_world front.steps answers front.mid orderly front.run).most in
      absurd (omega (arith, there, most, e))

  nothing_sent : (n c : ℕ) → has_come n c answers ≡ false → sent n c answers ≡ []
  nothing_sent n c none =
      let keeps = run_keeps [] opening_world front.steps answers front.mid (opening_keeps all.mode all.config all.units) front.run in
      keeps.unsent n c none

  nothing_taken : (n c : ℕ) → has_come n c answers ≡ false → n ≢ control_port → taken n c answers ≡ []
  nothing_taken n c none device =
      let begins = (nothing_lost opening_world front.steps answers front.mid orderly front.run).prefix n c device in
      nothing_before (taken n c answers) begins.0 (begins.1 ∙ rw (nothing_stands all.mode all.config all.units n c, nothing_sent n c none) refl)

  nothing_yet : (n c : ℕ) → has_come n c answers ≡ false → says_came n c a ≡ true → (sent n c answers ≡ []) × (taken n c answers ≡ [])
  nothing_yet n c none says = (nothing_sent n c none, nothing_taken n c none (comes_at_device n c says))

-- the row of a connection that came or did not, of which this much was sent and taken
module _ (n c : ℕ) where
  abbrev told : Bool → List (List ℕ) → List (List ℕ) → Option ConnCount
  told came out back = if came then Some (record { port = n; conn = c; sent = capped (length out); taken = capped (length back) }) else None

  capped_more : (xs : List (List ℕ)) (x : List ℕ) → capped (capped (length xs) + 1) ≡ capped (length (xs ++ x ∷ []))
  capped_more xs x = let e : length (xs ++ x ∷ []) ≡ length xs + 1 = length-append xs (x ∷ []) in omega arith

  module _ (came : Bool) (out back : List (List ℕ)) where
    told_came : (here : Bool) → (came ≡ false → here ≡ true → (out ≡ []) × (back ≡ [])) → (if here then option_or (told came out back) (Some (first_row n c)) else told came out back) ≡ told (came || here) out back
    told_came here empty = by_cases came here empty
      where
        by_cases : (came here : Bool) → (came ≡ false → here ≡ true → (out ≡ []) × (back ≡ [])) → (if here then option_or (told came out back) (Some (first_row n c)) else told came out back) ≡ told (came || here) out back
        by_cases true true empty = refl
        by_cases true false empty = refl
        by_cases false true empty = rw ((empty refl refl).0, (empty refl refl).1)
        by_cases false false empty = refl

    told_sent : (here : Bool) (bytes : List ℕ) → (if here then option_map sent_more (told came out back) else told came out back) ≡ told came (out ++ (if here then bytes ∷ [] else [])) back
    told_sent true bytes = by_cases came
      where
        by_cases : (came : Bool) → option_map sent_more (told came out back) ≡ told came (out ++ bytes ∷ []) back
        by_cases true = rw (capped_more out bytes)
        by_cases false = refl
    told_sent false bytes = rw (append-nil out)

    told_taken : (here : Bool) (bytes : List ℕ) → (if here then option_map taken_more (told came out back) else told came out back) ≡ told came out (back ++ (if here then bytes ∷ [] else []))
    told_taken true bytes = by_cases came
      where
        by_cases : (came : Bool) → option_map taken_more (told came out back) ≡ told came out (back ++ bytes ∷ [])
        by_cases true = rw (capped_more back bytes)
        by_cases false = refl
    told_taken false bytes = rw (append-nil back)

    same : (came : Bool) → told came out back ≡ told (came || false) (out ++ []) (back ++ [])
    same true = rw (append-nil out, append-nil back)
    same false = refl

    noted_told : (a : Answer) → (came ≡ false → says_came n c a ≡ true → (out ≡ []) × (back ≡ [])) → noted n c a (told came out back) ≡ told (came || says_came n c a) (out ++ sent_by n c a) (back ++ taken_by n c a)
    noted_told (answer.Came port conn) empty = told_came (port == n && conn == c) empty ∙ rw (append-nil out, append-nil back)
    noted_told (answer.Sent port conn number bytes) empty = told_sent (port == n && conn == c) bytes ∙ rw (or_false came, append-nil back)
    noted_told (answer.Took port conn number bytes report) empty = told_taken (port == n && conn == c) bytes ∙ rw (or_false came, append-nil out)
    noted_told _ empty = same came

-- Rows that told the answers, and that counted the next one, tell that one too.
pub tells_more : (old new : List ConnCount) (a : Answer) → ((n c : ℕ) → row_of n c new ≡ noted n c a (row_of n c old)) → (answers : List Answer) → AreOfARun (answers ++ a ∷ []) → Tell old answers → Tell new (answers ++ a ∷ [])
tells_more old new a rows answers all tell = record {
  row_is = λ n c.
      rw (has_come-more n c answers a, flat_map-more (sent_by n c) answers a, flat_map-more (taken_by n c) answers a) (rows n c ∙ ap (λ row. noted n c a row) (tell.row_is n c) ∙ noted_told n c (has_come n c answers) (sent n c answers) (taken n c answers) a (nothing_yet answers a all n c));
}
