-- For `paths_go_on`. A connection that is not unplugged is not removed, whatever a world does.
use Rattle.std.proofs.Common.{◌≡◌, ◌≢◌, ℕ, suc, ◌+◌, ◌<◌, ◌≤◌, Bool, true, false, List, [], ◌∷◌, ◌++◌, map, refl, sym, ap, subst, ◌∙◌, inl, inr}
use Rattle.std.proofs.{Common.{Option, Some, Ok, zero, arith}, lemmas.{Bool.{cases_eq, eq-eqb, true≢false}, Option.same_Some}}
use Rattle.std.specs.Prelude.{if◌then◌else◌, is_none, slice_get, slice_set}
use Rattle.multiplier.proofs.Door as ports
use Rattle.multiplier.proofs.Door.{not_up_to}
use Rattle.multiplier.specs.{Rules.{with_device as connected, without_device}, State.{PmState, port_at}}
use Rattle.pm_ports.specs.Port.{PortState, came_refusal as port_came_refusal, gone_refusal as port_gone_refusal, with_connection, with_removal}
use Rattle.hba_driver.specs.declared.mode.Mode.{Mode}
use Rattle.pm_world.specs.{Attached.Attached, Links.on_presence, Places.{IsOrderly, Place, Places, new_world_in, opening, with_device}}
use Rattle.pm_world.specs.{Places.with_multiplier, Rules.{CameActs, CameRule, DiskSendActs, DiskSendRule, DiskTakeActs, DiskTakeRule, GoneActs}}
use Rattle.pm_world.specs.Rules.{GoneRule, InjectActs, InjectRule, PmDownRule, PmFromDeviceRule, PmPresenceRule, Rule, Run, recorded}
use Rattle.pm_world.specs.{Runs.AfterEveryRun, Traffic.is_removed, declared.{link.Change.Change, step.{Config.Config, Step.Step, Answer.Answer}}}
use Rattle.pm_world.specs.{PathEnds.{AreBefore, IsBefore, IsUnremoved}, DevicePaths.StaysOn}
use Rattle.pm_world.specs.declared.link.Change.TheVariants as change
use Rattle.pm_world.specs.declared.step.Step.TheVariants as step
use Rattle.pm_world.specs.declared.step.Answer.TheVariants as answer
use Rattle.pm_world.proofs.steps.{Lists.{slice_get-set_other, slice_get-set_same}, Openings.port_opening, Orderly.{device_roomy, down_roomy}}
use Rattle.pm_world.proofs.steps.{Orderly.{heard_roomy, known, opening_orderly, orderly_after, roomy, up_roomy}, Steps.{AtBoth, AtDevice, at_both}}
use Rattle.pm_world.proofs.steps.Steps.{at_device}

-- if no removal is recorded, the connection is not removed
pub unremoved : (n c : ℕ) (now : Places) → IsUnremoved n c now → is_removed n c now ≡ false
unremoved n c now is =
    let low : (port_at now.multiplier n).gone < c = is.recorded in
    not_up_to (port_at now.multiplier n).gone c (λ most. absurd (omega (arith, low, most)))

-- ## Changes

before_more : (k : ℕ) (xs : List Change) (x : Change) → AreBefore k xs → IsBefore k x → AreBefore k (xs ++ x ∷ [])
before_more k [] x b last = (last, tt)
before_more k (y ∷ xs) x b last = (b.0, before_more k xs x b.1 last)

one_weaker : (k l : ℕ) (x : Change) → k ≤ l → IsBefore k x → IsBefore l x
one_weaker k l (change.Came conn) most b = tt
one_weaker k l (change.Gone conn) most b = let less : conn < k = b in omega (arith, less, most)

before_weaker : (k l : ℕ) (xs : List Change) → k ≤ l → AreBefore k xs → AreBefore l xs
before_weaker k l [] most b = tt
before_weaker k l (x ∷ xs) most b = (one_weaker k l x most b.0, before_weaker k l xs most b.1)

unremoved_weaker : (n k l : ℕ) (now : Places) → k ≤ l → IsUnremoved n k now → IsUnremoved n l now
unremoved_weaker n k l now most is =
    let low : (port_at now.multiplier n).gone < k = is.recorded in
    record { recorded = omega (arith, low, most); posted = before_weaker k l (on_presence (slice_get now.devices n)) most is.posted }

-- ## The place of a device

-- what goes from port n is of a connection before this one
abbrev pub GoesBefore : (n k : ℕ) → Answer → Type 0
GoesBefore n k (answer.Gone port conn) = port ≡ n → conn < k
GoesBefore n k a = Prim.Unit {0}

record PlaceKeeps (m : ℕ) (place : Place) (a : Answer) (after : Place) : Type 0 where
  conn : place.conn ≤ after.conn
  changes : (k : ℕ) → GoesBefore m k a → AreBefore k place.presence.changes → AreBefore k after.presence.changes
  goes : GoesBefore m (suc place.conn) a
  other : (n : ℕ) → n ≢ m → (k : ℕ) → GoesBefore n k a

not_less : (x y : ℕ) → y ≡ x → x ≤ y
not_less x y e = omega (arith, e)

same_keeps : (m : ℕ) (place : Place) (a : Answer) (after : Place) → after.presence.changes ≡ place.presence.changes → after.conn ≡ place.conn
    → ((n k : ℕ) → GoesBefore n k a) → PlaceKeeps m place a after
same_keeps m place a after changes conn quiet = record {
  conn = not_less place.conn after.conn conn;
  changes = λ k goes b. subst (AreBefore k) (sym changes) b;
  goes = quiet m (suc place.conn);
  other = λ n other k. quiet n k;
}

still_keeps : (m : ℕ) (place : Place) (a : Answer) (after : Place) → after ≡ place → ((n k : ℕ) → GoesBefore n k a) → PlaceKeeps m place a after
still_keeps m place a after is quiet =
    same_keeps m place a after (ap (λ (p : Place). p.presence.changes) is) (ap (λ (p : Place). p.conn) is) quiet

keeps_came : (m : ℕ) (place : Place) (a : Answer) (after : Place) → CameActs m place a after → PlaceKeeps m place a after
keeps_came m place answer.Blocked after acts = still_keeps m place answer.Blocked after acts.1 (λ n k. tt)
keeps_came m place (answer.Came p c) after acts =
    let is = acts.3 in
    let up : after.conn ≡ place.conn + 1 = ap (λ (p : Place). p.conn) is in
    record {
      conn = omega (arith, up);
      changes = λ k goes b.
          subst (AreBefore k) (sym (ap (λ (p : Place). p.presence.changes) is))
          (before_more k place.presence.changes (change.Came (place.conn + 1)) b tt);
      goes = tt;
      other = λ n other k. tt;
    }
keeps_came m place _ after acts = absurd acts

keeps_gone : (m : ℕ) (place : Place) (a : Answer) (after : Place) → GoneActs m place a after → PlaceKeeps m place a after
keeps_gone m place answer.Blocked after acts = still_keeps m place answer.Blocked after acts.1 (λ n k. tt)
keeps_gone m place (answer.Gone p c) after acts =
    let is = acts.2 in
    let its : c ≡ place.conn = acts.1 in
    record {
      conn = not_less place.conn after.conn (ap (λ (p : Place). p.conn) is);
      changes = λ k goes b.
          subst (AreBefore k) (sym (ap (λ (p : Place). p.presence.changes) is))
          (before_more k place.presence.changes (change.Gone place.conn) b (subst (λ (d : ℕ). d < k) its (goes acts.0)));
      goes = λ here. omega (arith, its);
      other = λ n other k here. absurd (other (sym here ∙ acts.0));
    }
keeps_gone m place _ after acts = absurd acts

keeps_send : (m : ℕ) (place : Place) (a : Answer) (after : Place) → DiskSendActs m place a after → PlaceKeeps m place a after
keeps_send m place answer.Idle after acts = still_keeps m place answer.Idle after acts.1 (λ n k. tt)
keeps_send m place answer.Blocked after acts = still_keeps m place answer.Blocked after acts.2 (λ n k. tt)
keeps_send m place (answer.Sent p c number bytes) after acts =
    same_keeps m place (answer.Sent p c number bytes) after (ap (λ (p : Place). p.presence.changes) acts.5) (ap (λ (p : Place). p.conn) acts.5)
    (λ n k. tt)
keeps_send m place _ after acts = absurd acts

keeps_inject : (m : ℕ) (given : List ℕ) (place : Place) (a : Answer) (after : Place) → InjectActs m given place a after → PlaceKeeps m place a after
keeps_inject m given place answer.Blocked after acts = still_keeps m place answer.Blocked after acts.1 (λ n k. tt)
keeps_inject m given place (answer.Sent p c number bytes) after acts =
    same_keeps m place (answer.Sent p c number bytes) after (ap (λ (p : Place). p.presence.changes) acts.5) (ap (λ (p : Place). p.conn) acts.5)
    (λ n k. tt)
keeps_inject m given place _ after acts = absurd acts

keeps_take : (m : ℕ) (place : Place) (a : Answer) (after : Place) → DiskTakeActs m place a after → PlaceKeeps m place a after
keeps_take m place answer.Idle after acts = still_keeps m place answer.Idle after acts.1 (λ n k. tt)
keeps_take m place (answer.DiskTook p dropped) after acts =
    same_keeps m place (answer.DiskTook p dropped) after (ap (λ (p : Place). p.presence.changes) acts.2) (ap (λ (p : Place). p.conn) acts.2)
    (λ n k. tt)
keeps_take m place _ after acts = absurd acts

keeps_presence : (m : ℕ) (place : Place) (pm : PmState) (a : Answer) (after : Place) (left : PmState) → PmPresenceRule m place pm (Ok a) after left
    → PlaceKeeps m place a after
keeps_presence m place pm answer.Idle after left rule = still_keeps m place answer.Idle after rule.1 (λ n k. tt)
keeps_presence m place pm (answer.Presence p) after left rule =
    let read : place.presence.changes ≡ rule.2.0 ∷ after.presence.changes = rule.2.1 in
    record {
      conn = not_less place.conn after.conn (ap (λ (p : Place). p.conn) rule.1);
      changes = λ k goes b. let whole : AreBefore k (rule.2.0 ∷ after.presence.changes) = subst (AreBefore k) read b in whole.1;
      goes = tt;
      other = λ n other k. tt;
    }
keeps_presence m place pm _ after left rule = absurd rule

keeps_from_device : (m : ℕ) (place : Place) (pm : PmState) (a : Answer) (after : Place) (left : PmState)
    → PmFromDeviceRule m place pm (Ok a) after left → PlaceKeeps m place a after
keeps_from_device m place pm answer.Idle after left rule = still_keeps m place answer.Idle after rule.1 (λ n k. tt)
keeps_from_device m place pm answer.Blocked after left rule = still_keeps m place answer.Blocked after rule.2 (λ n k. tt)
keeps_from_device m place pm (answer.Offered p dropped) after left rule =
    same_keeps m place (answer.Offered p dropped) after (ap (λ (p : Place). p.presence.changes) rule.1) (ap (λ (p : Place). p.conn) rule.1)
    (λ n k. tt)
keeps_from_device m place pm _ after left rule = absurd rule

keeps_down : (m : ℕ) (place : Place) (pm : PmState) (a : Answer) (after : Place) (left : PmState) → PmDownRule m place pm (Ok a) after left
    → PlaceKeeps m place a after
keeps_down m place pm answer.Idle after left rule = still_keeps m place answer.Idle after rule.2 (λ n k. tt)
keeps_down m place pm answer.Blocked after left rule = still_keeps m place answer.Blocked after rule.1 (λ n k. tt)
keeps_down m place pm (answer.Down p) after left rule =
    same_keeps m place (answer.Down p) after (ap (λ (p : Place). p.presence.changes) rule.2.2) (ap (λ (p : Place). p.conn) rule.2.2) (λ n k. tt)
keeps_down m place pm _ after left rule = absurd rule

-- ## What a port records

recorded_gone : (n k m : ℕ) (pm : PmState) (c : Change) → (n ≡ m → IsBefore k c) → (port_at pm n).gone < k → (port_at (recorded pm m c) n).gone < k
recorded_gone n k m pm (change.Came conn) before low = by_test (is_none (port_came_refusal (port_at pm m) conn))
  where
    by_test : (b : Bool) → (port_at (if b then connected pm m conn else pm) n).gone < k
    by_test true =
        subst (λ (x : ℕ). x < k) (sym (ports.kept_part (λ (q : PortState). q.gone) pm.ports m (with_connection (port_at pm m) conn) refl n)) low
    by_test false = low
recorded_gone n k m pm (change.Gone conn) before low = by_test (is_none (port_gone_refusal (port_at pm m) conn))
  where
    by_test : (b : Bool) → (port_at (if b then without_device pm m conn else pm) n).gone < k
    by_test true = elim (cases_eq n m) [
      | inl same ↦
          let less : conn < k = before same in
          ports.each_port (λ (j : ℕ) (q : PortState). (port_at pm j).gone < k → q.gone < k) pm.ports m (with_removal (port_at pm m) conn)
          (λ was. less) (λ j was. was) n low
      | inr other ↦ subst (λ (q : PortState). q.gone < k) (sym (ports.other_port pm.ports m n (with_removal (port_at pm m) conn) other)) low
    ]
    by_test false = low

presence_gone : (n k m : ℕ) (place : Place) (pm : PmState) (a : Answer) (after : Place) (left : PmState) → PmPresenceRule m place pm (Ok a) after left
    → (n ≡ m → AreBefore k place.presence.changes) → (port_at pm n).gone < k → (port_at left n).gone < k
presence_gone n k m place pm answer.Idle after left rule before low = subst (λ (q : PmState). (port_at q n).gone < k) (sym rule.2) low
presence_gone n k m place pm (answer.Presence p) after left rule before low =
    let first : n ≡ m → IsBefore k rule.2.0 =
    λ same. (let whole : AreBefore k (rule.2.0 ∷ after.presence.changes) = subst (AreBefore k) rule.2.1 (before same) in whole.0) in
    subst (λ (q : PmState). (port_at q n).gone < k) (sym rule.2.2) (recorded_gone n k m pm rule.2.0 first low)
presence_gone n k m place pm _ after left rule before low = absurd rule

-- ## One step

module _ (n k : ℕ) (old new : Places) (a : Answer) (u : IsUnremoved n k old) (goes : GoesBefore n k a) where
  at_place : (m : ℕ) (place after : Place) (left : PmState) → slice_get old.devices m ≡ Some place
      → new ≡ with_multiplier (with_device old m after) left → (port_at left n).gone < k → PlaceKeeps m place a after → IsUnremoved n k new
  at_place m place after left is new_is low keeps = subst (IsUnremoved n k) (sym new_is) (record {
    recorded = low;
    posted = elim (cases_eq n m) [
      | inl same ↦
          subst (λ (o : Option Place). AreBefore k (on_presence o))
          (sym (ap (slice_get (slice_set old.devices m after)) same ∙ slice_get-set_same old.devices m place after is))
          (keeps.changes k (subst (λ (j : ℕ). GoesBefore j k a) same goes)
          (subst (λ (o : Option Place). AreBefore k (on_presence o)) (ap (slice_get old.devices) same ∙ is) u.posted))
      | inr other ↦
          subst (λ (o : Option Place). AreBefore k (on_presence o)) (sym (slice_get-set_other old.devices m n after other)) u.posted
    ];
  })

  low_as : (left : PmState) → known (port_at left n) ≡ known (port_at old.multiplier n) → (port_at left n).gone < k
  low_as left same = subst (λ (x : ℕ). x < k) (sym (ap (λ (t : Option ℕ × ℕ × ℕ). t.2) same)) u.recorded

  aside : new.devices ≡ old.devices → known (port_at new.multiplier n) ≡ known (port_at old.multiplier n) → IsUnremoved n k new
  aside devices same = record {
    recorded = low_as new.multiplier same;
    posted = subst (λ (ds : List Place). AreBefore k (on_presence (slice_get ds n))) (sym devices) u.posted;
  }

  quiet : new.devices ≡ old.devices → new.multiplier ≡ old.multiplier → IsUnremoved n k new
  quiet devices same = aside devices (ap (λ (pm : PmState). known (port_at pm n)) same)

  pub unremoved_after : (s : Step) → IsOrderly old → Rule old s (Ok a) new → IsUnremoved n k new
  unremoved_after (step.Came m) orderly rule =
      let d : AtDevice old m (Ok a) new (CameRule m) = at_device old m a new (CameRule m) rule in
      at_place m d.place d.after old.multiplier d.is d.new_is u.recorded (keeps_came m d.place a d.after d.rule.1)
  unremoved_after (step.Gone m) orderly rule =
      let d : AtDevice old m (Ok a) new (GoneRule m) = at_device old m a new (GoneRule m) rule in
      at_place m d.place d.after old.multiplier d.is d.new_is u.recorded (keeps_gone m d.place a d.after d.rule.1)
  unremoved_after (step.DiskSend m) orderly rule =
      let d : AtDevice old m (Ok a) new (DiskSendRule m) = at_device old m a new (DiskSendRule m) rule in
      at_place m d.place d.after old.multiplier d.is d.new_is u.recorded (keeps_send m d.place a d.after d.rule.1)
  unremoved_after (step.Inject m bytes) orderly rule =
      let d : AtDevice old m (Ok a) new (InjectRule m bytes) = at_device old m a new (InjectRule m bytes) rule in
      at_place m d.place d.after old.multiplier d.is d.new_is u.recorded (keeps_inject m bytes d.place a d.after d.rule.1)
  unremoved_after (step.DiskTake m) orderly rule =
      let d : AtDevice old m (Ok a) new (DiskTakeRule m) = at_device old m a new (DiskTakeRule m) rule in
      at_place m d.place d.after old.multiplier d.is d.new_is u.recorded (keeps_take m d.place a d.after d.rule)
  unremoved_after (step.PmPresence m) orderly rule =
      let d : AtBoth old m (Ok a) new (PmPresenceRule m) = at_both old m a new (PmPresenceRule m) rule in
      let before : n ≡ m → AreBefore k d.place.presence.changes =
      λ same. subst (λ (o : Option Place). AreBefore k (on_presence o)) (ap (slice_get old.devices) same ∙ d.is) u.posted in
      at_place m d.place d.after d.left d.is d.new_is (presence_gone n k m d.place old.multiplier a d.after d.left d.rule before u.recorded)
      (keeps_presence m d.place old.multiplier a d.after d.left d.rule)
  unremoved_after (step.PmFromDevice m) orderly rule =
      let d : AtBoth old m (Ok a) new (PmFromDeviceRule m) = at_both old m a new (PmFromDeviceRule m) rule in
      let like = device_roomy m d.place old.multiplier a d.after d.left d.rule (roomy orderly) in
      at_place m d.place d.after d.left d.is d.new_is (low_as d.left (like.1.1 n))
      (keeps_from_device m d.place old.multiplier a d.after d.left d.rule)
  unremoved_after (step.PmDown m) orderly rule =
      let d : AtBoth old m (Ok a) new (PmDownRule m) = at_both old m a new (PmDownRule m) rule in
      let like = down_roomy m d.place old.multiplier a d.after d.left d.rule (roomy orderly) in
      at_place m d.place d.after d.left d.is d.new_is (low_as d.left (like.1.1 n)) (keeps_down m d.place old.multiplier a d.after d.left d.rule)
  unremoved_after step.PmFromHost orderly rule =
      let like = heard_roomy old.downward old.multiplier a new.downward new.multiplier rule.0 (roomy orderly) in
      aside (ap (λ (w : Places). w.devices) rule.1) (like.1.1 n)
  unremoved_after step.PmUp orderly rule =
      let like = up_roomy old.multiplier old.upward a new.multiplier new.upward rule.0 (roomy orderly) in
      aside (ap (λ (w : Places). w.devices) rule.1) (like.1.1 n)
  unremoved_after other orderly rule = quiet (ap (λ (w : Places). w.devices) rule.1) (ap (λ (w : Places). w.multiplier) rule.1)

stays_goes : (n c : ℕ) (a : Answer) → StaysOn n c a → GoesBefore n c a
stays_goes n c (answer.Gone port conn) stays = λ here. absurd (true≢false (sym (eq-eqb port n here) ∙ stays))
stays_goes n c _ stays = tt

-- a step that does not unplug a connection leaves it unremoved
pub stays_unremoved : (n c : ℕ) (old new : Places) (s : Step) (a : Answer) → IsOrderly old → Rule old s (Ok a) new → StaysOn n c a
    → IsUnremoved n c old → IsUnremoved n c new
stays_unremoved n c old new s a orderly rule stays is = unremoved_after n c old new a is (stays_goes n c a stays) s orderly rule

-- ## Since the world was made

-- no connection after the last that came is removed
abbrev IsAhead : ℕ → Places → Type 0
IsAhead n now = (place : Place) → slice_get now.devices n ≡ Some place → IsUnremoved n (suc place.conn) now

-- the place at a port before a step
pub record Was (n : ℕ) (old : Places) (a : Answer) (after : Place) : Type 0 where
  pub place : Place
  pub is : slice_get old.devices n ≡ Some place
  pub conn : place.conn ≤ after.conn
  pub goes : GoesBefore n (suc place.conn) a

module _ (n : ℕ) (old new : Places) (a : Answer) (q : Place) (now : slice_get new.devices n ≡ Some q) where
  was_at : (m : ℕ) (place after : Place) → slice_get old.devices m ≡ Some place → new.devices ≡ slice_set old.devices m after
      → PlaceKeeps m place a after → Was n old a q
  was_at m place after is new_is keeps = elim (cases_eq n m) [
    | inl same ↦
        let there : slice_get new.devices n ≡ Some after =
        ap (λ (ds : List Place). slice_get ds n) new_is ∙ ap (slice_get (slice_set old.devices m after)) same
        ∙ slice_get-set_same old.devices m place after is in
        let its : after ≡ q = same_Some after q (sym there ∙ now) in
        record {
          place = place;
          is = ap (slice_get old.devices) same ∙ is;
          conn = subst (λ (p : Place). place.conn ≤ p.conn) its keeps.conn;
          goes = subst (λ (j : ℕ). GoesBefore j (suc place.conn) a) (sym same) keeps.goes;
        }
    | inr other ↦ record {
      place = q;
      is = sym (slice_get-set_other old.devices m n after other) ∙ sym (ap (λ (ds : List Place). slice_get ds n) new_is) ∙ now;
      conn = not_less q.conn q.conn refl;
      goes = keeps.other n other (suc q.conn);
    }
  ]

  was_same : new.devices ≡ old.devices → GoesBefore n (suc q.conn) a → Was n old a q
  was_same devices goes = record {
    place = q;
    is = sym (ap (λ (ds : List Place). slice_get ds n) devices) ∙ now;
    conn = not_less q.conn q.conn refl;
    goes = goes;
  }

  never_goes : (R : Answer → Type 0) → ((port conn : ℕ) → R (answer.Gone port conn) → ⊥) → (b : Answer) → R b → (j k : ℕ) → GoesBefore j k b
  never_goes R never (answer.Gone port conn) rule j k = absurd (never port conn rule)
  never_goes R never _ rule j k = tt

  rests : (s : Step) → Rule old s (Ok a) new → ((port conn : ℕ) → Rule old s (Ok (answer.Gone port conn)) new → ⊥) → new.devices ≡ old.devices
      → Was n old a q
  rests s rule never devices = was_same devices (never_goes (λ (b : Answer). Rule old s (Ok b) new) never a rule n (suc q.conn))

  pub was : (s : Step) → Rule old s (Ok a) new → Was n old a q
  was (step.Came m) rule =
      let d : AtDevice old m (Ok a) new (CameRule m) = at_device old m a new (CameRule m) rule in
      was_at m d.place d.after d.is (ap (λ (w : Places). w.devices) d.new_is) (keeps_came m d.place a d.after d.rule.1)
  was (step.Gone m) rule =
      let d : AtDevice old m (Ok a) new (GoneRule m) = at_device old m a new (GoneRule m) rule in
      was_at m d.place d.after d.is (ap (λ (w : Places). w.devices) d.new_is) (keeps_gone m d.place a d.after d.rule.1)
  was (step.DiskSend m) rule =
      let d : AtDevice old m (Ok a) new (DiskSendRule m) = at_device old m a new (DiskSendRule m) rule in
      was_at m d.place d.after d.is (ap (λ (w : Places). w.devices) d.new_is) (keeps_send m d.place a d.after d.rule.1)
  was (step.Inject m bytes) rule =
      let d : AtDevice old m (Ok a) new (InjectRule m bytes) = at_device old m a new (InjectRule m bytes) rule in
      was_at m d.place d.after d.is (ap (λ (w : Places). w.devices) d.new_is) (keeps_inject m bytes d.place a d.after d.rule.1)
  was (step.DiskTake m) rule =
      let d : AtDevice old m (Ok a) new (DiskTakeRule m) = at_device old m a new (DiskTakeRule m) rule in
      was_at m d.place d.after d.is (ap (λ (w : Places). w.devices) d.new_is) (keeps_take m d.place a d.after d.rule)
  was (step.PmPresence m) rule =
      let d : AtBoth old m (Ok a) new (PmPresenceRule m) = at_both old m a new (PmPresenceRule m) rule in
      was_at m d.place d.after d.is (ap (λ (w : Places). w.devices) d.new_is) (keeps_presence m d.place old.multiplier a d.after d.left d.rule)
  was (step.PmFromDevice m) rule =
      let d : AtBoth old m (Ok a) new (PmFromDeviceRule m) = at_both old m a new (PmFromDeviceRule m) rule in
      was_at m d.place d.after d.is (ap (λ (w : Places). w.devices) d.new_is) (keeps_from_device m d.place old.multiplier a d.after d.left d.rule)
  was (step.PmDown m) rule =
      let d : AtBoth old m (Ok a) new (PmDownRule m) = at_both old m a new (PmDownRule m) rule in
      was_at m d.place d.after d.is (ap (λ (w : Places). w.devices) d.new_is) (keeps_down m d.place old.multiplier a d.after d.left d.rule)
  was other rule = rests other rule (λ p c r. absurd r.0) (ap (λ (w : Places). w.devices) rule.1)

ahead_after : (n : ℕ) (old new : Places) (s : Step) (a : Answer) → IsOrderly old → Rule old s (Ok a) new → IsAhead n old → IsAhead n new
ahead_after n old new s a orderly rule ahead q now =
    let w : Was n old a q = was n old new a q now s rule in
    let most : w.place.conn ≤ q.conn = w.conn in
    unremoved_weaker n (suc w.place.conn) (suc q.conn) new (omega (arith, most))
    (unremoved_after n (suc w.place.conn) old new a (ahead w.place w.is) w.goes s orderly rule)

run_ahead : (n : ℕ) (old : Places) (steps : List Step) (answers : List Answer) (new : Places) → IsOrderly old → Run old steps answers new
    → IsAhead n old → IsAhead n new
run_ahead n old [] [] new orderly run ahead = subst (IsAhead n) (sym run) ahead
run_ahead n old (s ∷ steps) (a ∷ answers) new orderly run ahead =
    run_ahead n run.0 steps answers new (orderly_after old s a run.0 orderly run.1) run.2 (ahead_after n old run.0 s a orderly run.1 ahead)
run_ahead n old [] (a ∷ answers) new orderly run ahead = absurd run
run_ahead n old (s ∷ steps) [] new orderly run ahead = absurd run

pub none_posted : (capacity : ℕ) (units : List Attached) (n k : ℕ) → AreBefore k (on_presence (slice_get (map (opening capacity) units) n))
none_posted capacity [] n k = tt
none_posted capacity (u ∷ units) zero k = tt
none_posted capacity (u ∷ units) (suc n) k = none_posted capacity units n k

opening_ahead : (mode : Mode) (config : Config) (units : List Attached) (n : ℕ) → IsAhead n (new_world_in mode config units)
opening_ahead mode config units n place is =
    let none : (port_at (new_world_in mode config units).multiplier n).gone ≡ 0 = ap (λ (p : PortState). p.gone) (port_opening config units n) in
    record { recorded = omega (arith, none); posted = none_posted config.capacity units n (suc place.conn) }

-- so a connection that comes is not removed
pub came_unremoved : (n c : ℕ) (old new : Places) → IsOrderly old → Rule old (step.Came n) (Ok (answer.Came n c)) new
    → AfterEveryRun old (λ mode config units before told made. IsUnremoved n c new)
came_unremoved n c old new orderly rule mode config units fits before told made =
    let d : AtDevice old n (Ok (answer.Came n c)) new (CameRule n) = at_device old n (answer.Came n c) new (CameRule n) rule in
    let acts : CameActs n d.place (answer.Came n c) d.after = d.rule.1 in
    let next : c ≡ d.place.conn + 1 = acts.1 in
    let most : suc d.place.conn ≤ c = omega (arith, next) in
    let ahead : IsAhead n old =
    run_ahead n (new_world_in mode config units) before told old (opening_orderly mode config units fits) made (opening_ahead mode config units n) in
    unremoved_weaker n (suc d.place.conn) c new most
    (unremoved_after n (suc d.place.conn) old new (answer.Came n c) (ahead d.place d.is) tt (step.Came n) orderly rule)
