-- For the fields `live_on` and `lived_on` of `laws`. Each unit lives on through its own history.
use Rattle.std.proofs.Common.{◌≡◌, ◌≢◌, ℕ, zero, suc, List, [], ◌∷◌, ◌++◌, Option, Some, None, true, false, refl, sym, ap, subst, ◌∙◌, append_assoc, inl, inr, map}
use Rattle.std.specs.Prelude.{slice_get, slice_set, option_map, IsSomeAnd, MatchOption, Ok, take}
use Rattle.std.proofs.lemmas.{Bool.{cases_eq, eq-eqb, ne_eqb}, List.append-nil}
use Rattle.fis_view.specs.Frames.{Stamped}
use Rattle.disk_model.specs.Histories.{Happening, Received, Sent, Loaded, Plan}
use Rattle.multiplier.specs.State.{PmState}
use Rattle.pm_world.specs.{Attached.{Attached as Device, plan_of, StandsFor}, Downward.on_down_link}
use Rattle.pm_world.specs.{Units.{happens, MaySendAll, LivesOn, UnitsLiveOn, UnitsLivedOn}, Places.{Places, Place, opening, new_world_in}}
use Rattle.pm_world.specs.Rules.{Outcome, CameActs, GoneActs, DiskSendActs, InjectActs, DiskTakeActs, CameRule, GoneRule, DiskSendRule, InjectRule}
use Rattle.pm_world.specs.{Rules.{DiskTakeRule, PmPresenceRule, PmFromDeviceRule, PmDownRule, OnDevice, OnDeviceAndMultiplier, Rule, Run}, Runs.over}
use Rattle.pm_world.specs.declared.{step.Step.Step, step.Answer.Answer}
use Rattle.pm_world.specs.declared.step.Step.TheVariants as step
use Rattle.pm_world.specs.declared.step.Answer.TheVariants as answer
use Rattle.pm_world.proofs.steps.{Lists.{slice_get-set_same, slice_get-set_other}, Steps.{at_device, at_both}}

-- ---- one unit

-- a unit to which nothing happens
quiet : (old new : Device) → new ≡ old → LivesOn old [] new
quiet old new same = record {
  plan = ap plan_of same;
  stands_for = λ history at. rw same (subst (λ (h : List Happening). StandsFor old h) (sym (append-nil history)) at);
  sends = λ history at. tt;
}

may_send-append : (plan : Plan) (history first second : List Happening) → MaySendAll plan history first → MaySendAll plan (history ++ first) second → MaySendAll plan history (first ++ second)
may_send-append plan history [] second may more = subst (λ (h : List Happening). MaySendAll plan h second) (append-nil history) more
may_send-append plan history (Sent bytes ∷ first) second may more =
    (may.0, may_send-append plan (history ++ Sent bytes ∷ []) first second may.1 (subst (λ (h : List Happening). MaySendAll plan h second) (sym (append_assoc history (Sent bytes ∷ []) first)) more))
may_send-append plan history (Loaded bytes ∷ first) second may more = absurd may
may_send-append plan history (other ∷ first) second may more =
    may_send-append plan (history ++ other ∷ []) first second may
    (subst (λ (h : List Happening). MaySendAll plan h second) (sym (append_assoc history (other ∷ []) first)) more)

lives-append : (a b c : Device) (first second : List Happening) → LivesOn a first b → LivesOn b second c → LivesOn a (first ++ second) c
lives-append a b c first second one two = record {
  plan = two.plan ∙ one.plan;
  stands_for = λ history at. subst (λ (h : List Happening). StandsFor c h) (append_assoc history first second) (two.stands_for (history ++ first) (one.stands_for history at));
  sends = λ history at.
      may_send-append (plan_of a) history first second (one.sends history at)
      (subst (λ (p : Plan). MaySendAll p (history ++ first) second) one.plan (two.sends (history ++ first) (one.stands_for history at)));
}

-- ---- one step

-- a step of device n means nothing to the other units, and its unit lives on through it
record PlaceLives (n : ℕ) (old : Places) (s : Step) (place : Place) (a : Answer) (after : Place) (new : Places) : Type 0 where
  elsewhere : (m : ℕ) → m ≢ n → happens m old s a new ≡ []
  here : LivesOn place.unit (happens n old s a new) after.unit

no_event : (n : ℕ) (old : Places) (s : Step) (place : Place) (a : Answer) (after : Place) (new : Places) → ((m : ℕ) → happens m old s a new ≡ []) → after.unit ≡ place.unit → PlaceLives n old s place a after new
no_event n old s place a after new none same = record {
  elsewhere = λ m other. none m;
  here = subst (λ (events : List Happening). LivesOn place.unit events after.unit) (sym (none n)) (quiet place.unit after.unit same);
}

same_unit : {old new : Place} → new ≡ old → new.unit ≡ old.unit
same_unit e = ap (λ (p : Place). p.unit) e

came_lives : (n : ℕ) (old : Places) (place : Place) (a : Answer) (after : Place) (new : Places) → CameActs n place a after → PlaceLives n old (step.Came n) place a after new
came_lives n old place answer.Blocked after new acts = no_event n old (step.Came n) place answer.Blocked after new (λ m. refl) (same_unit acts.1)
came_lives n old place (answer.Came port conn) after new acts = record {
  elsewhere = λ m other. rw (ne_eqb port m (λ e. other (sym e ∙ acts.0))) refl;
  here = rw (eq-eqb port n acts.0) (record { plan = acts.2.plan; stands_for = acts.2.goes_on; sends = λ history at. tt });
}
came_lives n old place _ after new acts = absurd acts

-- a unit does not see that it goes
gone_lives : (n : ℕ) (old : Places) (place : Place) (a : Answer) (after : Place) (new : Places) → GoneActs n place a after → PlaceLives n old (step.Gone n) place a after new
gone_lives n old place answer.Blocked after new acts = no_event n old (step.Gone n) place answer.Blocked after new (λ m. refl) (same_unit acts.1)
gone_lives n old place (answer.Gone port conn) after new acts = no_event n old (step.Gone n) place (answer.Gone port conn) after new (λ m. refl) (ap (λ (p : Place). p.unit) acts.2)
gone_lives n old place _ after new acts = absurd acts

sends_lives : (n : ℕ) (old : Places) (place : Place) (a : Answer) (after : Place) (new : Places) → DiskSendActs n place a after → PlaceLives n old (step.DiskSend n) place a after new
sends_lives n old place answer.Idle after new acts = no_event n old (step.DiskSend n) place answer.Idle after new (λ m. refl) (same_unit acts.1)
sends_lives n old place answer.Blocked after new acts = no_event n old (step.DiskSend n) place answer.Blocked after new (λ m. refl) (same_unit acts.2)
sends_lives n old place (answer.Sent port conn number bytes) after new acts = record {
  elsewhere = λ m other. rw (ne_eqb port m (λ e. other (sym e ∙ acts.1))) refl;
  here = rw (eq-eqb port n acts.1) (record { plan = acts.4.plan; stands_for = acts.4.goes_on; sends = λ history at. (acts.4.allowed history at, tt) });
}
sends_lives n old place _ after new acts = absurd acts

inject_lives : (n : ℕ) (given : List ℕ) (old : Places) (place : Place) (a : Answer) (after : Place) (new : Places) → InjectActs n given place a after → PlaceLives n old (step.Inject n given) place a after new
inject_lives n given old place answer.Blocked after new acts = no_event n old (step.Inject n given) place answer.Blocked after new (λ m. refl) (same_unit acts.1)
inject_lives n given old place (answer.Sent port conn number bytes) after new acts =
    no_event n old (step.Inject n given) place (answer.Sent port conn number bytes) after new (λ m. refl) (ap (λ (p : Place). p.unit) acts.5)
inject_lives n given old place _ after new acts = absurd acts

-- what is told of the first FIS of a link
first_told : (old : Places) (n : ℕ) (place : Place) (frame : Stamped) (rest : List Stamped) → slice_get old.devices n ≡ Some place → place.down.frames ≡ frame ∷ rest
    → map (λ (f : Stamped). Received f.bytes) (take 1 (on_down_link (slice_get old.devices n))) ≡ Received frame.bytes ∷ []
first_told old n place frame rest is e = rw (is, e) refl

takes_lives : (n : ℕ) (old : Places) (place : Place) (a : Answer) (after : Place) (new : Places) → slice_get old.devices n ≡ Some place → DiskTakeActs n place a after → PlaceLives n old (step.DiskTake n) place a after new
takes_lives n old place answer.Idle after new is acts = no_event n old (step.DiskTake n) place answer.Idle after new (λ m. refl) (same_unit acts.1)
takes_lives n old place (answer.DiskTook port true) after new is acts = no_event n old (step.DiskTake n) place (answer.DiskTook port true) after new (λ m. refl) acts.1.3
takes_lives n old place (answer.DiskTook port false) after new is acts = record {
  elsewhere = λ m other. rw (ne_eqb port m (λ e. other (sym e ∙ acts.0))) refl;
  here =
      let goes = acts.1.3 in
      rw (eq-eqb port n acts.0, first_told old n place acts.1.0 after.down.frames is acts.1.1) (record { plan = goes.plan; stands_for = goes.goes_on; sends = λ history at. tt });
}
takes_lives n old place _ after new is acts = absurd acts

presence_lives : (n : ℕ) (old : Places) (place : Place) (pm : PmState) (a : Answer) (after : Place) (left : PmState) (new : Places) → PmPresenceRule n place pm (Ok a) after left → PlaceLives n old (step.PmPresence n) place a after new
presence_lives n old place pm answer.Idle after left new acts = no_event n old (step.PmPresence n) place answer.Idle after new (λ m. refl) (same_unit acts.1)
presence_lives n old place pm (answer.Presence p) after left new acts = no_event n old (step.PmPresence n) place (answer.Presence p) after new (λ m. refl) (ap (λ (q : Place). q.unit) acts.1)
presence_lives n old place pm _ after left new acts = absurd acts

from_device_lives : (n : ℕ) (old : Places) (place : Place) (pm : PmState) (a : Answer) (after : Place) (left : PmState) (new : Places) → PmFromDeviceRule n place pm (Ok a) after left → PlaceLives n old (step.PmFromDevice n) place a after new
from_device_lives n old place pm answer.Idle after left new acts = no_event n old (step.PmFromDevice n) place answer.Idle after new (λ m. refl) (same_unit acts.1)
from_device_lives n old place pm answer.Blocked after left new acts = no_event n old (step.PmFromDevice n) place answer.Blocked after new (λ m. refl) (same_unit acts.2)
from_device_lives n old place pm (answer.Offered p dropped) after left new acts = no_event n old (step.PmFromDevice n) place (answer.Offered p dropped) after new (λ m. refl) (ap (λ (q : Place). q.unit) acts.1)
from_device_lives n old place pm _ after left new acts = absurd acts

down_lives : (n : ℕ) (old : Places) (place : Place) (pm : PmState) (a : Answer) (after : Place) (left : PmState) (new : Places) → PmDownRule n place pm (Ok a) after left → PlaceLives n old (step.PmDown n) place a after new
down_lives n old place pm answer.Idle after left new acts = no_event n old (step.PmDown n) place answer.Idle after new (λ m. refl) (same_unit acts.2)
down_lives n old place pm answer.Blocked after left new acts = no_event n old (step.PmDown n) place answer.Blocked after new (λ m. refl) (same_unit acts.1)
down_lives n old place pm (answer.Down p) after left new acts = no_event n old (step.PmDown n) place (answer.Down p) after new (λ m. refl) (ap (λ (q : Place). q.unit) acts.2.2)
down_lives n old place pm _ after left new acts = absurd acts

-- what is at a port, before and after these events
abbrev Lived : Option Place → List Happening → Option Place → Type 0
Lived was events now = MatchOption was (now ≡ None) (λ p. IsSomeAnd now (λ q. LivesOn p.unit events q.unit))

stayed : (o : Option Place) → Lived o [] o
stayed None = refl
stayed (Some place) = quiet place.unit place.unit refl

then_lived : (a b c : Option Place) (first second : List Happening) → Lived a first b → Lived b second c → Lived a (first ++ second) c
then_lived None None c first second one two = two
then_lived None (Some q) c first second one two = absurd cc
then_lived (Some p) None c first second one two = absurd one
then_lived (Some p) (Some q) None first second one two = absurd two
then_lived (Some p) (Some q) (Some r) first second one two = lives-append p.unit q.unit r.unit first second one two

device_lives : (old new : Places) (n : ℕ) (place after : Place) (s : Step) (a : Answer) → slice_get old.devices n ≡ Some place → PlaceLives n old s place a after new
    → (m : ℕ) → Lived (slice_get old.devices m) (happens m old s a new) (slice_get (slice_set old.devices n after) m)
device_lives old new n place after s a is lives m =
    elim (cases_eq m n) [
      | inl e ↦ subst (λ (k : ℕ). Lived (slice_get old.devices k) (happens k old s a new) (slice_get (slice_set old.devices n after) k)) (sym e) (at_own is (slice_get-set_same old.devices n place after is))
      | inr other ↦ at_other (slice_get-set_other old.devices n m after other) (lives.elsewhere m other)
    ]
  where
    at_own : {was now : Option Place} → was ≡ Some place → now ≡ Some after → Lived was (happens n old s a new) now
    at_own e f = rw (e, f) lives.here

    at_other : {events : List Happening} {now : Option Place} → now ≡ slice_get old.devices m → events ≡ [] → Lived (slice_get old.devices m) events now
    at_other e f = rw (e, f) (stayed (slice_get old.devices m))

on_device : (old : Places) (n : ℕ) (s : Step) (a : Answer) (new : Places) (R : Place → Outcome → Place → Type 0)
    → ((place after : Place) → slice_get old.devices n ≡ Some place → R place (Ok a) after → PlaceLives n old s place a after new)
    → OnDevice old n (Ok a) new R → (m : ℕ) → Lived (slice_get old.devices m) (happens m old s a new) (slice_get new.devices m)
on_device old n s a new R lives h m =
    let p = at_device old n a new R h in
    let devices : new.devices ≡ slice_set old.devices n p.after = ap (λ (w : Places). w.devices) p.new_is in
    subst (λ (after : List Place). Lived (slice_get old.devices m) (happens m old s a new) (slice_get after m)) (sym devices)
    (device_lives old new n p.place p.after s a p.is (lives p.place p.after p.is p.rule) m)

on_both : (old : Places) (n : ℕ) (s : Step) (a : Answer) (new : Places) (R : Place → PmState → Outcome → Place → PmState → Type 0)
    → ((place after : Place) (left : PmState) → R place old.multiplier (Ok a) after left → PlaceLives n old s place a after new)
    → OnDeviceAndMultiplier old n (Ok a) new R → (m : ℕ) → Lived (slice_get old.devices m) (happens m old s a new) (slice_get new.devices m)
on_both old n s a new R lives h m =
    let p = at_both old n a new R h in
    let devices : new.devices ≡ slice_set old.devices n p.after = ap (λ (w : Places). w.devices) p.new_is in
    subst (λ (after : List Place). Lived (slice_get old.devices m) (happens m old s a new) (slice_get after m)) (sym devices)
    (device_lives old new n p.place p.after s a p.is (lives p.place p.after p.left p.rule) m)

-- a step of no device
none_lives : (old new : Places) → new.devices ≡ old.devices → (m : ℕ) → Lived (slice_get old.devices m) [] (slice_get new.devices m)
none_lives old new same m = subst (λ (after : List Place). Lived (slice_get old.devices m) [] (slice_get after m)) (sym same) (stayed (slice_get old.devices m))

rule_lives : (old : Places) (s : Step) (a : Answer) (new : Places) → Rule old s (Ok a) new → (m : ℕ) → Lived (slice_get old.devices m) (happens m old s a new) (slice_get new.devices m)
rule_lives old (step.Came n) a new rule m = on_device old n (step.Came n) a new (CameRule n) (λ place after is r. came_lives n old place a after new r.1) rule m
rule_lives old (step.Gone n) a new rule m = on_device old n (step.Gone n) a new (GoneRule n) (λ place after is r. gone_lives n old place a after new r.1) rule m
rule_lives old (step.DiskSend n) a new rule m = on_device old n (step.DiskSend n) a new (DiskSendRule n) (λ place after is r. sends_lives n old place a after new r.1) rule m
rule_lives old (step.Inject n bytes) a new rule m = on_device old n (step.Inject n bytes) a new (InjectRule n bytes) (λ place after is r. inject_lives n bytes old place a after new r.1) rule m
rule_lives old (step.DiskTake n) a new rule m = on_device old n (step.DiskTake n) a new (DiskTakeRule n) (λ place after is r. takes_lives n old place a after new is r) rule m
rule_lives old (step.PmPresence n) a new rule m = on_both old n (step.PmPresence n) a new (PmPresenceRule n) (λ place after left r. presence_lives n old place old.multiplier a after left new r) rule m
rule_lives old (step.PmFromDevice n) a new rule m = on_both old n (step.PmFromDevice n) a new (PmFromDeviceRule n) (λ place after left r. from_device_lives n old place old.multiplier a after left new r) rule m
rule_lives old (step.PmDown n) a new rule m = on_both old n (step.PmDown n) a new (PmDownRule n) (λ place after left r. down_lives n old place old.multiplier a after left new r) rule m
rule_lives old other a new rule m = none_lives old new (ap (λ (w : Places). w.devices) rule.1) m

-- ---- a whole run

pub units_live_on : (old : Places) (steps : List Step) (answers : List Answer) (new : Places) (run : Run old steps answers new) → UnitsLiveOn old steps answers new run
units_live_on old [] [] new run n = none_lives old new (ap (λ (w : Places). w.devices) run) n
units_live_on old (s ∷ steps) (a ∷ answers) new run n =
    then_lived (slice_get old.devices n) (slice_get run.0.devices n) (slice_get new.devices n) (happens n old s a run.0) (over (happens n) run.0 steps answers new run.2)
    (rule_lives old s a run.0 run.1 n) (units_live_on run.0 steps answers new run.2 n)
units_live_on old [] (a ∷ answers) new run n = absurd run
units_live_on old (s ∷ steps) [] new run n = absurd run

opened : (capacity : ℕ) (units : List Device) (n : ℕ) (unit : Device) → slice_get units n ≡ Some unit → slice_get (map (opening capacity) units) n ≡ Some (opening capacity unit)
opened capacity [] n unit is = absurd cc
opened capacity (u ∷ units) zero unit is = ap (option_map (opening capacity)) is
opened capacity (u ∷ units) (suc n) unit is = opened capacity units n unit is

-- the units of a new world over all steps since it was made
pub units_lived_on : (old : Places) (steps : List Step) (answers : List Answer) (new : Places) (run : Run old steps answers new) → UnitsLivedOn old steps answers new run
units_lived_on old steps answers new run mode config units right before told made n unit is =
    let first : Lived (slice_get (map (opening config.capacity) units) n) (over (happens n) (new_world_in mode config units) before told old made) (slice_get old.devices n) = units_live_on (new_world_in mode config units) before told old made n in
    let opens : Lived (Some (opening config.capacity unit)) (over (happens n) (new_world_in mode config units) before told old made) (slice_get old.devices n) =
    subst (λ (was : Option Place). Lived was (over (happens n) (new_world_in mode config units) before told old made) (slice_get old.devices n)) (opened config.capacity units n unit is) first in
    then_lived (Some (opening config.capacity unit)) (slice_get old.devices n) (slice_get new.devices n) (over (happens n) (new_world_in mode config units) before told old made) (over (happens n) old steps answers new run)
    opens (units_live_on old steps answers new run n)
