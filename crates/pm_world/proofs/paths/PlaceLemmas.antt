-- For `paths_go_on`. Which connection the unit at a port is plugged in as, in each step that does not plug it in anew.
use Rattle.std.proofs.Common.{◌≡◌, ◌==◌, ℕ, true, false, List, ◌∷◌, sym, ap, subst, ◌∙◌, inl, inr, Option, Some, None, Ok}
use Rattle.std.specs.Prelude.{slice_get, slice_set, MatchOption}
use Rattle.std.proofs.lemmas.Bool.{and_parts, cases_eq, eq-eqb, eqb-true, not-false, true≢false}
use Rattle.fis_view.specs.Frames.{Stamped}
use Rattle.multiplier.specs.State.{PmState}
use Rattle.pm_world.specs.{Downward.on_down_link, Places.{Place, Places, after_sending, with_device, with_multiplier}}
use Rattle.pm_world.specs.Rules.{CameActs, CameRule, DiskSendActs, DiskSendRule, DiskTakeActs, DiskTakeRule, GoneActs, GoneRule, InjectActs}
use Rattle.pm_world.specs.{Rules.{InjectRule, PmDownRule, PmFromDeviceRule, PmPresenceRule, Rule, is_for}, declared.step.Step.Step}
use Rattle.pm_world.specs.{declared.step.Answer.Answer, PathEnds.IsOnly, DevicePaths.StaysOn}
use Rattle.pm_world.specs.declared.step.Step.TheVariants as step
use Rattle.pm_world.specs.declared.step.Answer.TheVariants as answer
use Rattle.pm_world.proofs.steps.{Lists.{slice_get-set_other, slice_get-set_same}, Steps.{AtBoth, AtDevice, at_both, at_device}}

-- ## A place that is written over

-- a place that is written over keeps that it is plugged in, and its connection
pub record KeepsPlace (old new : Place) : Type 0 where
  pub plugged : new.plugged ≡ old.plugged
  pub conn : new.conn ≡ old.conn

pub same_place : (old new : Place) → new ≡ old → KeepsPlace old new
same_place old new is = record { plugged = ap (λ (p : Place). p.plugged) is; conn = ap (λ (p : Place). p.conn) is }

pub keeps_send : (m : ℕ) (old : Place) (a : Answer) (new : Place) → DiskSendActs m old a new → KeepsPlace old new
keeps_send m old answer.Idle new acts = same_place old new acts.1
keeps_send m old answer.Blocked new acts = same_place old new acts.2
keeps_send m old
    (answer.Sent p conn number bytes) new acts = let is : new ≡ after_sending m old bytes new.unit = acts.5 in record {
      plugged = ap
          (λ (p : Place). p.plugged) is;
      conn = ap (λ (p : Place). p.conn) is;
    }
keeps_send m old _ new acts = absurd acts

pub keeps_inject : (m : ℕ) (given : List ℕ) (old : Place) (a : Answer) (new : Place) → InjectActs m given old a new → KeepsPlace old new
keeps_inject m given old answer.Blocked new acts = same_place old new acts.1
keeps_inject m given old
    (answer.Sent p conn number bytes) new acts = let is : new ≡ after_sending m old given old.unit = acts.5 in record {
      plugged = ap
          (λ (p : Place). p.plugged) is;
      conn = ap (λ (p : Place). p.conn) is;
    }
keeps_inject m given old _ new acts = absurd acts

pub keeps_take : (m : ℕ) (old : Place) (a : Answer) (new : Place) → DiskTakeActs m old a new → KeepsPlace old new
keeps_take m old answer.Idle new acts = same_place old new acts.1
keeps_take m old
    (answer.DiskTook p dropped) new acts = let is = acts.2 in record {
      plugged = ap (λ (p : Place). p.plugged) is;
      conn = ap
          (λ (p : Place). p.conn) is;
    }
keeps_take m old _ new acts = absurd acts

pub keeps_presence : (m : ℕ) (old : Place) (pm : PmState) (a : Answer) (new : Place) (after : PmState) → PmPresenceRule m old pm (Ok a) new after
    → KeepsPlace old new
keeps_presence m old pm answer.Idle new after rule = same_place old new rule.1
keeps_presence m old pm
    (answer.Presence p) new after rule = let is = rule.1 in record {
      plugged = ap (λ (p : Place). p.plugged) is;
      conn = ap
          (λ (p : Place). p.conn) is;
    }
keeps_presence m old pm _ new after rule = absurd rule

pub keeps_from_device : (m : ℕ) (old : Place) (pm : PmState) (a : Answer) (new : Place) (after : PmState) → PmFromDeviceRule m old pm (Ok a) new after
    → KeepsPlace old new
keeps_from_device m old pm answer.Idle new after rule = same_place old new rule.1
keeps_from_device m old pm answer.Blocked new after rule = same_place old new rule.2
keeps_from_device m old pm
    (answer.Offered p dropped) new after rule = let is = rule.1 in record {
      plugged = ap (λ (p : Place). p.plugged) is;
      conn = ap
          (λ (p : Place). p.conn) is;
    }
keeps_from_device m old pm _ new after rule = absurd rule

pub keeps_down : (m : ℕ) (old : Place) (pm : PmState) (a : Answer) (new : Place) (after : PmState) → PmDownRule m old pm (Ok a) new after
    → KeepsPlace old new
keeps_down m old pm answer.Idle new after rule = same_place old new rule.2
keeps_down m old pm answer.Blocked new after rule = same_place old new rule.1
keeps_down m old pm
    (answer.Down p) new after rule = let is = rule.2.2 in record { plugged = ap (λ (p : Place). p.plugged) is; conn = ap (λ (p : Place). p.conn) is }
keeps_down m old pm _ new after rule = absurd rule

-- ## Its connection

-- if the place has a unit that is plugged in, it is as connection c
abbrev IsAs : ℕ → Place → Type 0
IsAs c place = place.plugged ≡ true → place.conn ≡ c

abbrev IsOnlyAs : ℕ → Option Place → Type 0
IsOnlyAs c o = MatchOption o (Prim.Unit {0}) (λ place. place.plugged ≡ true → place.conn ≡ c)

as_of : (c : ℕ) (o : Option Place) (place : Place) → o ≡ Some place → IsOnlyAs c o → IsAs c place
as_of c None place is only = absurd cc
as_of c (Some p) place is only = let same : p ≡ place = cc is in subst (IsAs c) same only

keeps_as : (c : ℕ) (old new : Place) → KeepsPlace old new → IsAs c old → IsAs c new
keeps_as c old new keeps is there = keeps.conn ∙ is (sym keeps.plugged ∙ there)

written_as : (n c m : ℕ) (devices : List Place) (place after : Place) → slice_get devices m ≡ Some place → (n ≡ m → IsAs c place → IsAs c after)
    → IsOnlyAs c (slice_get devices n) → IsOnlyAs c (slice_get (slice_set devices m after) n)
written_as n c m devices place after is keeps only = elim (cases_eq n m) [
  | inl same ↦
      let was : IsAs c place = as_of c (slice_get devices n) place (ap (slice_get devices) same ∙ is) only in
      subst (IsOnlyAs c) (sym (ap (slice_get (slice_set devices m after)) same ∙ slice_get-set_same devices m place after is)) (keeps same was)
  | inr other ↦ subst (IsOnlyAs c) (sym (slice_get-set_other devices m n after other)) only
]

came_as : (n c m : ℕ) (old : Place) (a : Answer) (new : Place) → CameActs m old a new → StaysOn n c a → n ≡ m → IsAs c old → IsAs c new
came_as n c m old answer.Blocked new acts stays same is = keeps_as c old new (same_place old new acts.1) is
came_as n c m old (answer.Came p conn) new acts stays same is = absurd (true≢false (sym (eq-eqb p n (acts.0 ∙ sym same)) ∙ stays))
came_as n c m old _ new acts stays same is = absurd acts

gone_as : (c m : ℕ) (old : Place) (a : Answer) (new : Place) → GoneActs m old a new → IsAs c old → IsAs c new
gone_as c m old answer.Blocked new acts is = keeps_as c old new (same_place old new acts.1) is
gone_as c m old (answer.Gone p conn) new acts is = λ there. absurd (true≢false (sym there ∙ ap (λ (q : Place). q.plugged) acts.2))
gone_as c m old _ new acts is = absurd acts

module _ (n c : ℕ) (old : Places) (a : Answer) (new : Places) (only : IsOnly n c old) (stays : StaysOn n c a) where
  at_one : (m : ℕ) (place after : Place) → slice_get old.devices m ≡ Some place → new ≡ with_device old m after → (n ≡ m → IsAs c place → IsAs c after)
      → IsOnly n c new
  at_one m place after is new_is keeps =
      subst (λ (w : Places). IsOnly n c w) (sym new_is) (written_as n c m old.devices place after is keeps only)

  at_two : (m : ℕ) (place after : Place) (left : PmState) → slice_get old.devices m ≡ Some place
      → new ≡ with_multiplier (with_device old m after) left → KeepsPlace place after → IsOnly n c new
  at_two m place after left is new_is keeps =
      subst (λ (w : Places). IsOnly n c w) (sym new_is)
      (written_as n c m old.devices place after is (λ same was. keeps_as c place after keeps was) only)

  pub only_after : (s : Step) → Rule old s (Ok a) new → IsOnly n c new
  only_after (step.Gone m) rule =
      let d : AtDevice old m (Ok a) new (GoneRule m) = at_device old m a new (GoneRule m) rule in
      at_one m d.place d.after d.is d.new_is (λ same was. gone_as c m d.place a d.after d.rule.1 was)
  only_after (step.Came m) rule =
      let d : AtDevice old m (Ok a) new (CameRule m) = at_device old m a new (CameRule m) rule in
      at_one m d.place d.after d.is d.new_is (came_as n c m d.place a d.after d.rule.1 stays)
  only_after (step.DiskSend m) rule =
      let d : AtDevice old m (Ok a) new (DiskSendRule m) = at_device old m a new (DiskSendRule m) rule in
      at_one m d.place d.after d.is d.new_is (λ same was. keeps_as c d.place d.after (keeps_send m d.place a d.after d.rule.1) was)
  only_after (step.Inject m bytes) rule =
      let d : AtDevice old m (Ok a) new (InjectRule m bytes) = at_device old m a new (InjectRule m bytes) rule in
      at_one m d.place d.after d.is d.new_is (λ same was. keeps_as c d.place d.after (keeps_inject m bytes d.place a d.after d.rule.1) was)
  only_after (step.DiskTake m) rule =
      let d : AtDevice old m (Ok a) new (DiskTakeRule m) = at_device old m a new (DiskTakeRule m) rule in
      at_one m d.place d.after d.is d.new_is (λ same was. keeps_as c d.place d.after (keeps_take m d.place a d.after d.rule) was)
  only_after (step.PmPresence m) rule =
      let d : AtBoth old m (Ok a) new (PmPresenceRule m) = at_both old m a new (PmPresenceRule m) rule in
      at_two m d.place d.after d.left d.is d.new_is (keeps_presence m d.place old.multiplier a d.after d.left d.rule)
  only_after (step.PmFromDevice m) rule =
      let d : AtBoth old m (Ok a) new (PmFromDeviceRule m) = at_both old m a new (PmFromDeviceRule m) rule in
      at_two m d.place d.after d.left d.is d.new_is (keeps_from_device m d.place old.multiplier a d.after d.left d.rule)
  only_after (step.PmDown m) rule =
      let d : AtBoth old m (Ok a) new (PmDownRule m) = at_both old m a new (PmDownRule m) rule in
      at_two m d.place d.after d.left d.is d.new_is (keeps_down m d.place old.multiplier a d.after d.left d.rule)
  only_after other rule = subst (λ (w : Places). IsOnly n c w) (sym rule.1) only

-- ## What the unit takes

-- it takes on its own connection
pub takes_own : (n c : ℕ) (old new : Places) (s : Step) (f : Stamped) (rest : List Stamped) → IsOnly n c old
    → Rule old s (Ok (answer.DiskTook n false)) new → on_down_link (slice_get old.devices n) ≡ f ∷ rest → f.stamp.conn ≡ c
takes_own n c old new (step.DiskTake m) f rest only rule first =
    let d : AtDevice old m (Ok (answer.DiskTook n false)) new (DiskTakeRule m) = at_device old m (answer.DiskTook n false) new (DiskTakeRule m) rule in
    let acts : DiskTakeActs m d.place (answer.DiskTook n false) d.after = d.rule in
    let at : slice_get old.devices n ≡ Some d.place = ap (slice_get old.devices) acts.0 ∙ d.is in
    let frame : Stamped = acts.1.0 in
    let meant : is_for d.place acts.1.0 ≡ true = not-false (is_for d.place acts.1.0) (sym acts.1.2) in
    let both = and_parts d.place.plugged (acts.1.0.stamp.conn == d.place.conn) meant in
    let link : d.place.down.frames ≡ f ∷ rest = sym (ap on_down_link at) ∙ first in
    let same : f ≡ acts.1.0 = first_is f acts.1.0 rest d.after.down.frames d.place.down.frames link acts.1.1 in
    ap (λ (g : Stamped). g.stamp.conn) same ∙ eqb-true acts.1.0.stamp.conn d.place.conn both.1 ∙ as_of c (slice_get old.devices n) d.place at only both.0
  where
    first_is : (f g : Stamped) (xs ys all : List Stamped) → all ≡ f ∷ xs → all ≡ g ∷ ys → f ≡ g
    first_is f g xs ys all here there = let e : f ∷ xs ≡ g ∷ ys = sym here ∙ there in cc e
takes_own n c old new (step.Came m) f rest only rule first = absurd (at_device old m (answer.DiskTook n false) new (CameRule m) rule).rule.1
takes_own n c old new (step.Gone m) f rest only rule first = absurd (at_device old m (answer.DiskTook n false) new (GoneRule m) rule).rule.1
takes_own n c old new (step.DiskSend m) f rest only rule first = absurd (at_device old m (answer.DiskTook n false) new (DiskSendRule m) rule).rule.1
takes_own n c old new (step.Inject m bytes) f rest only rule first = absurd (at_device old m (answer.DiskTook n false) new (InjectRule m bytes) rule).rule.1
takes_own n c old new (step.PmPresence m) f rest only rule first = absurd (at_both old m (answer.DiskTook n false) new (PmPresenceRule m) rule).rule
takes_own n c old new (step.PmFromDevice m) f rest only rule first = absurd (at_both old m (answer.DiskTook n false) new (PmFromDeviceRule m) rule).rule
takes_own n c old new (step.PmDown m) f rest only rule first = absurd (at_both old m (answer.DiskTook n false) new (PmDownRule m) rule).rule
takes_own n c old new other f rest only rule first = absurd rule.0
