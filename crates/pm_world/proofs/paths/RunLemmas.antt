-- For `paths_go_on`. A disk and the host stay linked over each run of a world.
use Rattle.std.proofs.Common.{◌≡◌, ◌≢◌, ◌==◌, eqb, ℕ, Bool, true, false, List, [], ◌∷◌, refl, sym, ap, subst, ◌∙◌, inl, inr, Option, Some, None, Ok}
use Rattle.std.specs.Prelude.{if◌then◌else◌, slice_get, slice_set, MatchOption}
use Rattle.std.proofs.lemmas.Bool.{cases_eq, eq-eqb, eqb-true, true≢false}
use Rattle.multiplier.specs.State.{PmState}
use Rattle.disk_model.specs.Histories.{Happening, Plugged, Sent}
use Rattle.pm_world.specs.{Units.happens, Places.{Place, Places, with_device, with_multiplier}}
use Rattle.pm_world.specs.Rules.{CameActs, CameRule, DiskSendActs, DiskSendRule, DiskTakeRule, GoneActs, GoneRule, InjectActs, InjectRule, PmDownRule}
use Rattle.pm_world.specs.{Rules.{PmFromDeviceRule, PmPresenceRule, Rule, came_refusal, largest}, declared.{step.Step.Step, step.Answer.Answer}}
use Rattle.pm_world.specs.PathEnds.{AreAmong, IsThere, IsAway, IsUnremoved, befalls, descending, injects, unplugs}
use Rattle.pm_world.specs.DevicePaths.{GoesOnPath, PluggedIsOnPath, StaysOn, UnitPathsGoOn}
use Rattle.pm_world.specs.declared.step.Step.TheVariants as step
use Rattle.pm_world.specs.declared.step.StepError.TheVariants as error
use Rattle.pm_world.specs.declared.step.Answer.TheVariants as answer
use Rattle.pm_world.proofs.{downward.DownMoves.rule_moves_down, steps.Lists.{slice_get-set_other, slice_get-set_same}}
use Rattle.pm_world.proofs.{steps.Steps.{AtBoth, AtDevice, at_both, at_device}, paths.KeptLemmas.{came_unremoved, unremoved}}
use Rattle.pm_world.proofs.paths.PlaceLemmas.{KeepsPlace, keeps_down, keeps_from_device, keeps_inject, keeps_presence, keeps_send, keeps_take}
use Rattle.pm_world.proofs.paths.PathLemmas.{away_after, none_on, rests_below, paths_go_on}

-- ## The unit stays there

abbrev pub IsPlugged : ℕ → Option Place → Type 0
IsPlugged c o = MatchOption o ⊥ (λ place. (place.plugged ≡ true) × (place.conn ≡ c))

-- if there is a unit, it is this one
pub record IsPlace (c : ℕ) (o : Option Place) (place : Place) : Type 0 where
  pub plugged : place.plugged ≡ true
  pub conn : place.conn ≡ c

pub place_of : (c : ℕ) (o : Option Place) (place : Place) → o ≡ Some place → IsPlugged c o → IsPlace c o place
place_of c None place is there = absurd there
place_of c (Some p) place is there =
    let same : p ≡ place = cc is in
    record { plugged = subst (λ (q : Place). q.plugged ≡ true) same there.0; conn = subst (λ (q : Place). q.conn ≡ c) same there.1 }

written_there : (n c m : ℕ) (devices : List Place) (place after : Place) → slice_get devices m ≡ Some place → (n ≡ m → KeepsPlace place after)
    → IsPlugged c (slice_get devices n) → IsPlugged c (slice_get (slice_set devices m after) n)
written_there n c m devices place after is keeps there = elim (cases_eq n m) [
  | inl same ↦
      let p : IsPlace c (slice_get devices n) place = place_of c (slice_get devices n) place (ap (slice_get devices) same ∙ is) there in
      let k : KeepsPlace place after = keeps same in
      subst (IsPlugged c) (sym (ap (slice_get (slice_set devices m after)) same ∙ slice_get-set_same devices m place after is)) (
        k.plugged
            ∙ p.plugged,
        k.conn ∙ p.conn,
      )
  | inr other ↦ subst (IsPlugged c) (sym (slice_get-set_other devices m n after other)) there
]

-- a unit that is plugged in does not come
refuses_plugged : (place : Place) (b : Bool) → place.plugged ≡ b → came_refusal place ≡ None → b ≡ false
refuses_plugged place true is none =
    let some : came_refusal place ≡ Some error.AlreadyThere =
    ap (λ (b : Bool). if b then Some error.AlreadyThere else (if place.conn == largest then Some error.Spent else None)) is in
    cc (sym none ∙ some)
refuses_plugged place false is none = refl

not_here : (n c m : ℕ) (old : Places) (place : Place) → slice_get old.devices m ≡ Some place → came_refusal place ≡ None → IsThere n c old → n ≢ m
not_here n c m old place is none there same =
    let p : IsPlace c (slice_get old.devices n) place = place_of c (slice_get old.devices n) place (ap (slice_get old.devices) same ∙ is) there in
    true≢false (sym p.plugged ∙ refuses_plugged place place.plugged refl none)

module _ (n c : ℕ) (old : Places) (a : Answer) (new : Places) (there : IsThere n c old) where
  at_one : (m : ℕ) (place after : Place) → slice_get old.devices m ≡ Some place → new ≡ with_device old m after → (n ≡ m → KeepsPlace place after)
      → IsThere n c new
  at_one m place after is new_is keeps =
      subst (λ (w : Places). IsThere n c w) (sym new_is) (written_there n c m old.devices place after is keeps there)

  at_two : (m : ℕ) (place after : Place) (left : PmState) → slice_get old.devices m ≡ Some place
      → new ≡ with_multiplier (with_device old m after) left → (n ≡ m → KeepsPlace place after) → IsThere n c new
  at_two m place after left is new_is keeps =
      subst (λ (w : Places). IsThere n c w) (sym new_is) (written_there n c m old.devices place after is keeps there)

  pub there_after : (s : Step) → unplugs n s ≡ false → Rule old s (Ok a) new → IsThere n c new
  there_after (step.Gone m) clean rule =
      let d : AtDevice old m (Ok a) new (GoneRule m) = at_device old m a new (GoneRule m) rule in
      at_one m d.place d.after d.is d.new_is (λ same. absurd (true≢false (sym (eq-eqb m n (sym same)) ∙ clean)))
  there_after (step.Came m) clean rule =
      let d : AtDevice old m (Ok a) new (CameRule m) = at_device old m a new (CameRule m) rule in
      at_one m d.place d.after d.is d.new_is (λ same. absurd (not_here n c m old d.place d.is d.rule.0 there same))
  there_after (step.DiskSend m) clean rule =
      let d : AtDevice old m (Ok a) new (DiskSendRule m) = at_device old m a new (DiskSendRule m) rule in
      at_one m d.place d.after d.is d.new_is (λ same. keeps_send m d.place a d.after d.rule.1)
  there_after (step.Inject m bytes) clean rule =
      let d : AtDevice old m (Ok a) new (InjectRule m bytes) = at_device old m a new (InjectRule m bytes) rule in
      at_one m d.place d.after d.is d.new_is (λ same. keeps_inject m bytes d.place a d.after d.rule.1)
  there_after (step.DiskTake m) clean rule =
      let d : AtDevice old m (Ok a) new (DiskTakeRule m) = at_device old m a new (DiskTakeRule m) rule in
      at_one m d.place d.after d.is d.new_is (λ same. keeps_take m d.place a d.after d.rule)
  there_after (step.PmPresence m) clean rule =
      let d : AtBoth old m (Ok a) new (PmPresenceRule m) = at_both old m a new (PmPresenceRule m) rule in
      at_two m d.place d.after d.left d.is d.new_is (λ same. keeps_presence m d.place old.multiplier a d.after d.left d.rule)
  there_after (step.PmFromDevice m) clean rule =
      let d : AtBoth old m (Ok a) new (PmFromDeviceRule m) = at_both old m a new (PmFromDeviceRule m) rule in
      at_two m d.place d.after d.left d.is d.new_is (λ same. keeps_from_device m d.place old.multiplier a d.after d.left d.rule)
  there_after (step.PmDown m) clean rule =
      let d : AtBoth old m (Ok a) new (PmDownRule m) = at_both old m a new (PmDownRule m) rule in
      at_two m d.place d.after d.left d.is d.new_is (λ same. keeps_down m d.place old.multiplier a d.after d.left d.rule)
  there_after other clean rule = subst (λ (w : Places). IsThere n c w) (sym rule.1) there

-- ## What an answer tells of the unit

-- a step that sends is a step of the unit, if nothing is injected
record IsSending (n c : ℕ) (old : Places) (s : Step) (port conn number : ℕ) (bytes : List ℕ) (new : Places) : Type 0 where
  conn_is : conn ≡ c
  happened : happens n old s (answer.Sent port conn number bytes) new ≡ Sent bytes ∷ []

pub if_some : (b : Bool) (xs : List Happening) → b ≡ true → (if b then xs else []) ≡ xs
if_some true xs e = refl
if_some false xs e = cc e

pub if_none : (b : Bool) (xs : List Happening) → b ≡ false → (if b then xs else []) ≡ []
if_none true xs e = cc e
if_none false xs e = refl

module _ (n c : ℕ) (old new : Places) (port conn number : ℕ) (bytes : List ℕ) (there : IsThere n c old) (here : eqb port n ≡ true) where
  abbrev a : Answer
  a = answer.Sent port conn number bytes

  sending : (s : Step) → injects n s ≡ false → Rule old s (Ok (answer.Sent port conn number bytes)) new
      → IsSending n c old s port conn number bytes new
  sending (step.DiskSend m) clean rule =
      let d : AtDevice old m (Ok a) new (DiskSendRule m) = at_device old m a new (DiskSendRule m) rule in
      let acts : DiskSendActs m d.place a d.after = d.rule.1 in
      let at : m ≡ n = sym acts.1 ∙ eqb-true port n here in
      let p : IsPlace c (slice_get old.devices n) d.place =
      place_of c (slice_get old.devices n) d.place (ap (slice_get old.devices) (sym at) ∙ d.is) there in
      record { conn_is = acts.2 ∙ p.conn; happened = if_some (port == n) (Sent bytes ∷ []) here }
  sending (step.Inject m given) clean rule =
      let d : AtDevice old m (Ok a) new (InjectRule m given) = at_device old m a new (InjectRule m given) rule in
      let acts : InjectActs m given d.place a d.after = d.rule.1 in
      absurd (true≢false (sym (ap (λ (k : ℕ). eqb k n) (sym acts.1) ∙ here) ∙ clean))
  sending (step.Gone m) clean rule = absurd (at_device old m a new (GoneRule m) rule).rule.1
  sending (step.Came m) clean rule = absurd (at_device old m a new (CameRule m) rule).rule.1
  sending (step.DiskTake m) clean rule = absurd (at_device old m a new (DiskTakeRule m) rule).rule
  sending (step.PmPresence m) clean rule = absurd (at_both old m a new (PmPresenceRule m) rule).rule
  sending (step.PmFromDevice m) clean rule = absurd (at_both old m a new (PmFromDeviceRule m) rule).rule
  sending (step.PmDown m) clean rule = absurd (at_both old m a new (PmDownRule m) rule).rule
  sending other clean rule = absurd rule.0

-- a FIS of another port
pub sent_elsewhere : (n : ℕ) (old : Places) (s : Step) (port conn number : ℕ) (bytes : List ℕ) (new : Places) → eqb port n ≡ false
    → happens n old s (answer.Sent port conn number bytes) new ≡ []
sent_elsewhere n old (step.DiskSend m) port conn number bytes new other = if_none (port == n) (Sent bytes ∷ []) other
sent_elsewhere n old _ port conn number bytes new other = refl

-- the unit that is there does not come
coming : (n c : ℕ) (old new : Places) (port conn : ℕ) (s : Step) → IsThere n c old → Rule old s (Ok (answer.Came port conn)) new → eqb port n ≡ false
coming n c old new port conn (step.Came m) there rule =
    let d : AtDevice old m (Ok (answer.Came port conn)) new (CameRule m) = at_device old m (answer.Came port conn) new (CameRule m) rule in
    let acts : CameActs m d.place (answer.Came port conn) d.after = d.rule.1 in
    let other : n ≢ m = not_here n c m old d.place d.is d.rule.0 there in
    by_test (eqb port n) refl acts.0 other
  where
    by_test : (b : Bool) → eqb port n ≡ b → port ≡ m → n ≢ m → b ≡ false
    by_test true is at other = absurd (other (sym (eqb-true port n is) ∙ at))
    by_test false is at other = refl
coming n c old new port conn (step.Gone m) there rule = absurd (at_device old m (answer.Came port conn) new (GoneRule m) rule).rule.1
coming n c old new port conn (step.DiskSend m) there rule = absurd (at_device old m (answer.Came port conn) new (DiskSendRule m) rule).rule.1
coming n c old new port conn (step.Inject m given) there rule = absurd (at_device old m (answer.Came port conn) new (InjectRule m given) rule).rule.1
coming n c old new port conn (step.DiskTake m) there rule = absurd (at_device old m (answer.Came port conn) new (DiskTakeRule m) rule).rule
coming n c old new port conn (step.PmPresence m) there rule = absurd (at_both old m (answer.Came port conn) new (PmPresenceRule m) rule).rule
coming n c old new port conn (step.PmFromDevice m) there rule = absurd (at_both old m (answer.Came port conn) new (PmFromDeviceRule m) rule).rule
coming n c old new port conn (step.PmDown m) there rule = absurd (at_both old m (answer.Came port conn) new (PmDownRule m) rule).rule
coming n c old new port conn other there rule = absurd rule.0

pub came_elsewhere : (n : ℕ) (old : Places) (s : Step) (port conn : ℕ) (new : Places) → eqb port n ≡ false
    → happens n old s (answer.Came port conn) new ≡ []
came_elsewhere n old (step.Came m) port conn new other = if_none (port == n) (Plugged ∷ []) other
came_elsewhere n old _ port conn new other = refl

-- the unit takes a FIS in a step of its own
taking : (n : ℕ) (old new : Places) (port : ℕ) (s : Step) → Rule old s (Ok (answer.DiskTook port false)) new
    → befalls n old (answer.DiskTook port false) ≡ happens n old s (answer.DiskTook port false) new
taking n old new port (step.DiskTake m) rule = refl
taking n old new port (step.Came m) rule = absurd (at_device old m (answer.DiskTook port false) new (CameRule m) rule).rule.1
taking n old new port (step.Gone m) rule = absurd (at_device old m (answer.DiskTook port false) new (GoneRule m) rule).rule.1
taking n old new port (step.DiskSend m) rule = absurd (at_device old m (answer.DiskTook port false) new (DiskSendRule m) rule).rule.1
taking n old new port (step.Inject m given) rule = absurd (at_device old m (answer.DiskTook port false) new (InjectRule m given) rule).rule.1
taking n old new port (step.PmPresence m) rule = absurd (at_both old m (answer.DiskTook port false) new (PmPresenceRule m) rule).rule
taking n old new port (step.PmFromDevice m) rule = absurd (at_both old m (answer.DiskTook port false) new (PmFromDeviceRule m) rule).rule
taking n old new port (step.PmDown m) rule = absurd (at_both old m (answer.DiskTook port false) new (PmDownRule m) rule).rule
taking n old new port other rule = absurd rule.0

-- the unit that is not unplugged does not go
pub going : (n : ℕ) (old new : Places) (port conn : ℕ) (s : Step) → unplugs n s ≡ false → Rule old s (Ok (answer.Gone port conn)) new → eqb port n ≡ false
going n old new port conn (step.Gone m) stays rule =
    let d : AtDevice old m (Ok (answer.Gone port conn)) new (GoneRule m) = at_device old m (answer.Gone port conn) new (GoneRule m) rule in
    let acts : GoneActs m d.place (answer.Gone port conn) d.after = d.rule.1 in
    ap (λ (k : ℕ). eqb k n) acts.0 ∙ stays
going n old new port conn (step.Came m) stays rule = absurd (at_device old m (answer.Gone port conn) new (CameRule m) rule).rule.1
going n old new port conn (step.DiskSend m) stays rule = absurd (at_device old m (answer.Gone port conn) new (DiskSendRule m) rule).rule.1
going n old new port conn (step.Inject m given) stays rule = absurd (at_device old m (answer.Gone port conn) new (InjectRule m given) rule).rule.1
going n old new port conn (step.DiskTake m) stays rule = absurd (at_device old m (answer.Gone port conn) new (DiskTakeRule m) rule).rule
going n old new port conn (step.PmPresence m) stays rule = absurd (at_both old m (answer.Gone port conn) new (PmPresenceRule m) rule).rule
going n old new port conn (step.PmFromDevice m) stays rule = absurd (at_both old m (answer.Gone port conn) new (PmFromDeviceRule m) rule).rule
going n old new port conn (step.PmDown m) stays rule = absurd (at_both old m (answer.Gone port conn) new (PmDownRule m) rule).rule
going n old new port conn other stays rule = absurd rule.0

-- it tells the unit nothing
pub gone_tells : (n : ℕ) (old : Places) (s : Step) (port conn : ℕ) (new : Places) → [] ≡ happens n old s (answer.Gone port conn) new
gone_tells n old (step.Came m) port conn new = refl
gone_tells n old _ port conn new = refl

-- ## One step

-- what is told of the unit is what its step means to it, and it stays on its connection
pub record TellsOf (n c : ℕ) (old : Places) (s : Step) (a : Answer) (new : Places) : Type 0 where
  pub same : befalls n old a ≡ happens n old s a new
  pub stays : StaysOn n c a

tells_sent : (n c : ℕ) (old : Places) (s : Step) (port conn number : ℕ) (bytes : List ℕ) (new : Places) (b : Bool) → eqb port n ≡ b → IsThere n c old
    → injects n s ≡ false → Rule old s (Ok (answer.Sent port conn number bytes)) new → TellsOf n c old s (answer.Sent port conn number bytes) new
tells_sent n c old s port conn number bytes new true here there clean rule =
    let k : IsSending n c old s port conn number bytes new = sending n c old new port conn number bytes there here s clean rule in
    record { same = if_some (port == n) (Sent bytes ∷ []) here ∙ sym k.happened; stays = λ e. k.conn_is }
tells_sent n c old s port conn number bytes new false other there clean rule = record {
  same = if_none (port == n) (Sent bytes ∷ []) other ∙ sym (sent_elsewhere n old s port conn number bytes new other);
  stays = λ here. absurd (true≢false (sym here ∙ other));
}

pub tells_of : (n c : ℕ) (old : Places) (s : Step) (a : Answer) (new : Places) → IsThere n c old → unplugs n s ≡ false → injects n s ≡ false
    → Rule old s (Ok a) new → TellsOf n c old s a new
tells_of n c old s (answer.Gone port conn) new there stays clean rule =
    record { same = gone_tells n old s port conn new; stays = going n old new port conn s stays rule }
tells_of n c old s (answer.Came port conn) new there stays clean rule =
    let other : eqb port n ≡ false = coming n c old new port conn s there rule in
    record { same = if_none (port == n) (Plugged ∷ []) other ∙ sym (came_elsewhere n old s port conn new other); stays = other }
tells_of n c old s (answer.Sent port conn number bytes) new there stays clean rule =
    tells_sent n c old s port conn number bytes new (port == n) refl there clean rule
tells_of n c old s (answer.DiskTook port false) new there stays clean rule = record { same = taking n old new port s rule; stays = tt }
tells_of n c old s (answer.DiskTook port true) new there stays clean rule = record { same = dropped_tells s; stays = tt }
  where
    dropped_tells : (s : Step) → [] ≡ happens n old s (answer.DiskTook port true) new
    dropped_tells (step.Came m) = refl
    dropped_tells _ = refl
tells_of n c old s a new there stays clean rule = record { same = quiet_tells s; stays = tt }
  where
    quiet_tells : (s : Step) → [] ≡ happens n old s a new
    quiet_tells (step.Came m) = refl
    quiet_tells _ = refl

-- so its path goes on
pub unit_paths_go_on : UnitPathsGoOn
unit_paths_go_on n c old new s a down up device orderly rule there stays clean w =
    let t : TellsOf n c old s a new = tells_of n c old s a new there stays clean rule in
    let g : GoesOnPath n c old a new (befalls n old a) down up = paths_go_on n c old new s a down up device orderly rule t.stays w in
    (there_after n c old a new there s stays rule, subst (λ (xs : List Happening). GoesOnPath n c old a new xs down up) t.same g)

-- ## The plugging

pub plugged_is_on_wire : PluggedIsOnPath
plugged_is_on_wire n c old new device orderly rule empty below mode config units fits before told made =
    let d : AtDevice old n (Ok (answer.Came n c)) new (CameRule n) = at_device old n (answer.Came n c) new (CameRule n) rule in
    let acts : CameActs n d.place (answer.Came n c) d.after = d.rule.1 in
    let after_is = acts.3 in
    let here : slice_get new.devices n ≡ Some d.after =
    ap (λ (w : Places). slice_get w.devices n) d.new_is ∙ slice_get-set_same old.devices n d.place d.after d.is in
    let kept : IsUnremoved n c new = came_unremoved n c old new orderly rule mode config units fits before told made in
    let still : (k : ℕ) → IsAway n k new =
    λ k. (away_after n k old new (step.Came n) (answer.Came n c) device orderly rule (empty k) refl).1 in
    let low : descending n new ≡ [] = rests_below n old new (rule_moves_down old (step.Came n) (answer.Came n c) new orderly rule) ∙ below in (
      subst (IsPlugged c) (sym here) (ap (λ (p : Place). p.plugged) after_is, ap (λ (p : Place). p.conn) after_is ∙ sym acts.1),
      record {
        above = (still c).1 (unremoved n c new kept);
        alone = λ k other. still k;
        kept = kept;
        only = subst (λ (o : Option Place). MatchOption o (Prim.Unit {0}) (λ place. place.plugged ≡ true → place.conn ≡ c)) (sym here)
            (λ there. ap (λ (p : Place). p.conn) after_is ∙ sym acts.1);
        below = subst
            (λ (xs : List (List ℕ)). AreAmong xs []) (sym (none_on n c new low)) tt;
      },
    )
