-- For the field `removals` of `laws`. What the ports of the multiplier record is what answers tell, in the same order.
use Rattle.std.proofs.Common.{◌≡◌, ◌≢◌, ℕ, zero, suc, ◌+◌, ◌<◌, ◌≤◌, max, Bool, true, false, cond, eqb, List, [], ◌∷◌, ◌++◌, append_assoc, length}
use Rattle.std.proofs.{Common.{take, map, Option, Some, None, refl, sym, ap, ◌∙◌, subst, arith, inl, inr, length-append}, lemmas.Bool.cases_eq}
use Rattle.std.proofs.lemmas.{Bool.{eq-eqb, leb-true, ne_eqb}, List.append-nil, List.Elements.filter-append, Option.{same_Some, slice_get_within}}
use Rattle.std.specs.{Prelude.{◌==◌, filter, is_none, is_some, nat_le, if◌then◌else◌, slice_get, Ok}, List.flat_map}
use Rattle.hba_driver.specs.declared.{mode.Mode.Mode, request.Request.Request}
use Rattle.pm_ports.specs.Port.{is_present, with_connection, with_removal, came_refusal as port_came_refusal, gone_refusal as port_gone_refusal}
use Rattle.pm_ports.specs.declared.port.{GoneError.TheVariants.NotThere, PortError.TheVariants.{AlreadyThere, OldConnection}}
use Rattle.multiplier.specs.{Arbiter.control_port, State.{PmState, port_at, rising}, Rules.{with_device as connected, without_device}}
use Rattle.multiplier.proofs.Door as ports
use Rattle.multiplier.proofs.Door.{up_to}
use Rattle.pm_world.specs.{Attached.Attached, Downward.times, Links.{changed_by, is_recorded, on_presence}, Places.{Places, Place, IsOrderly}}
use Rattle.pm_world.specs.Places.{is_config, new_world_in, opening, with_device, with_downward, with_host, with_multiplier, with_upward}
use Rattle.pm_world.specs.{Removals.{IsSeen, TellsRemovals, highest_gone, is_up, recorded_at}, Traffic.{is_removed, is_took, taken}, Rules.CameActs}
use Rattle.pm_world.specs.Rules.{CameRule, DiskSendActs, DiskSendRule, DiskTakeRule, GoneActs, GoneRule, InjectActs, InjectRule, OnDevice, Outcome}
use Rattle.pm_world.specs.Rules.{PmDownRule, PmFromDeviceRule, PmFromHostRule, PmPresenceRule, PmUpRule, HostTakeRule, HostPushRule, TickRule}
use Rattle.pm_world.specs.Rules.{SubmitRule, PollRule, PutRule, Rule, Run, came_refusal, gone_refusal, largest, recorded}
use Rattle.pm_world.specs.declared.{link.Change.Change, step.{Config.Config, Step.Step, Answer.Answer, StepError.StepError}}
use Rattle.pm_world.specs.declared.link.Change.TheVariants as change
use Rattle.pm_world.specs.declared.step.Step.TheVariants as step
use Rattle.pm_world.specs.declared.step.Answer.TheVariants as answer
use Rattle.pm_world.specs.declared.step.StepError.TheVariants as error
use Rattle.pm_world.proofs.{steps.{Lists.{slice_get-set_same, slice_get-set_other}, Openings.port_opening}, upward.Law.{in_parts, nothing_after}}
use Rattle.pm_world.proofs.{upward.{Law.run_append, FrameMoves.{Moves, rule_moves}}, steps.Orderly.{known, roomy, device_roomy, down_roomy}}
use Rattle.pm_world.proofs.steps.{Orderly.{heard_roomy, up_roomy, opening_orderly, orderly_after, run_orderly}, Steps.{at_device, at_both}}

-- ---- changes, one after another

-- what a port knows: the connection that is present, the last one, and the highest that is gone
abbrev pub Known : Type 0
Known = Option ℕ × ℕ × ℕ

-- after a change that it lets in
abbrev pub one : Change → Known → Known
one (change.Came conn) k = (Some conn, conn, k.2)
one (change.Gone conn) k = (None, k.1, conn)

abbrev pub all : List Change → Known → Known
all [] k = k
all (c ∷ cs) k = all cs (one c k)

abbrev pub LetIn : Change → Known → Type 0
LetIn (change.Came conn) k = (k.0 ≡ None) × (k.1 < conn)
LetIn (change.Gone conn) k = k.0 ≡ Some conn

abbrev pub AreLetIn : List Change → Known → Type 0
AreLetIn [] k = Prim.Unit {0}
AreLetIn (c ∷ cs) k = LetIn c k × AreLetIn cs (one c k)

all-append : (xs ys : List Change) (k : Known) → all (xs ++ ys) k ≡ all ys (all xs k)
all-append [] ys k = refl
all-append (x ∷ xs) ys k = all-append xs ys (one x k)

one_more : (xs : List Change) (y : Change) (k : Known) → AreLetIn xs k → LetIn y (all xs k) → AreLetIn (xs ++ y ∷ []) k
one_more [] y k h last = (last, tt)
one_more (x ∷ xs) y k h last = (h.0, one_more xs y (one x k) h.1 last)

both_in : (xs ys : List Change) (k : Known) → AreLetIn xs k → AreLetIn ys (all xs k) → AreLetIn (xs ++ ys) k
both_in [] ys k h more = more
both_in (x ∷ xs) ys k h more = (h.0, both_in xs ys (one x k) h.1 more)

-- the connection that is present is the last, and above those that are gone; none of these is above the last
record IsSensible (k : Known) : Type 0 where
  there : (conn : ℕ) → k.0 ≡ Some conn → (conn ≡ k.1) × (k.2 ≤ conn)
  last : k.2 ≤ k.1

sensible_came : (conn : ℕ) (k : Known) → k.1 < conn → IsSensible k → IsSensible (one (change.Came conn) k)
sensible_came conn k above is =
    let most : k.2 ≤ k.1 = is.last in
    record {
      there = λ c e. let same : conn ≡ c = same_Some conn c e in (sym same, omega (arith, same, most, above));
      last = omega (arith, most, above);
    }

sensible_gone : (conn : ℕ) (k : Known) → k.0 ≡ Some conn → IsSensible k → IsSensible (one (change.Gone conn) k)
sensible_gone conn k there is =
    let same : conn ≡ k.1 = (is.there conn there).0 in
    record { there = λ c e. absurd (cc); last = omega (arith, same) }

-- what is gone is the highest that went
gone_is : (cs : List Change) (k : Known) → AreLetIn cs k → IsSensible k → (all cs k).2 ≡ max k.2 (highest_gone cs)
gone_is [] k h is = omega arith
gone_is (change.Came conn ∷ cs) k h is = gone_is cs (one (change.Came conn) k) h.1 (sensible_came conn k h.0.1 is)
gone_is (change.Gone conn ∷ cs) k h is =
    let rest : (all cs (one (change.Gone conn) k)).2 ≡ max conn (highest_gone cs) = gone_is cs (one (change.Gone conn) k) h.1 (sensible_gone conn k h.0 is) in
    let below : k.2 ≤ conn = (is.there conn h.0).1 in
    rest ∙ omega (arith, below)

-- ---- the place of a device, and its port

-- the changes led to what the place is
abbrev pub Stands : Option Place → Known → Type 0
Stands None k = Prim.Unit {0}
Stands (Some place) k = (k.0 ≡ (if place.plugged then Some place.conn else None)) × (k.1 ≡ place.conn)

-- the port lets in all that is on the presence link, and then knows what the place is
pub record IsLed (o : Option Place) (k : Known) : Type 0 where
  pub let_in : AreLetIn (on_presence o) k
  pub stands : Stands o (all (on_presence o) k)

-- what an answer does to the presence link at port n and to what the port knows
pub record Records (n : ℕ) (o : Option Place) (k : Known) (a : Answer) (after : Option Place) (left : Known) : Type 0 where
  pub read : List Change
  pub link : read ++ on_presence after ≡ on_presence o ++ changed_by n a
  pub count : length read ≡ times (is_recorded n) (a ∷ [])
  pub let_in : AreLetIn read k
  pub knows : left ≡ all read k
  pub led : IsLed after left

-- the last connection that came is not above that of the place, and never falls
last_rises : (cs : List Change) (k : Known) → AreLetIn cs k → k.1 ≤ (all cs k).1
last_rises [] k h = omega arith
last_rises (change.Came conn ∷ cs) k h =
    let above : k.1 < conn = h.0.1 in
    let more : conn ≤ (all cs (one (change.Came conn) k)).1 = last_rises cs (one (change.Came conn) k) h.1 in
    omega (arith, above, more)
last_rises (change.Gone conn ∷ cs) k h = last_rises cs (one (change.Gone conn) k) h.1

pub led_last : (place : Place) (k : Known) → IsLed (Some place) k → k.1 ≤ place.conn
led_last place k led =
    let more : k.1 ≤ (all place.presence.changes k).1 = last_rises place.presence.changes k led.let_in in
    let is : (all place.presence.changes k).1 ≡ place.conn = led.stands.1 in
    omega (arith, more, is)

pub records_last : (n : ℕ) (o : Option Place) (k : Known) (a : Answer) (after : Option Place) (left : Known) → Records n o k a after left → k.1 ≤ left.1
records_last n o k a after left r =
    let more : k.1 ≤ (all r.read k).1 = last_rises r.read k r.let_in in
    let is : left.1 ≡ (all r.read k).1 = ap (λ (x : Known). x.1) r.knows in
    omega (arith, more, is)

-- the answer tells of no change at port n
record IsStill (n : ℕ) (a : Answer) : Type 0 where
  came : changed_by n a ≡ []
  recorded : is_recorded n a ≡ false

none_counted : (n : ℕ) (a : Answer) → is_recorded n a ≡ false → times (is_recorded n) (a ∷ []) ≡ 0
none_counted n a e = rw e refl

-- nothing is changed at a port
record SamePlace (o after : Option Place) : Type 0 where
  link : on_presence after ≡ on_presence o
  stands : (k : Known) → Stands o k → Stands after k

still : (n : ℕ) (o : Option Place) (k : Known) (a : Answer) (after : Option Place) (left : Known) → IsStill n a → SamePlace o after → left ≡ k → IsLed o k → Records n o k a after left
still n o k a after left quiet same e led = record {
  read = [];
  link = same.link ∙ sym (append-nil (on_presence o)) ∙ ap (λ cs. on_presence o ++ cs) (sym quiet.came);
  count = sym (none_counted n a quiet.recorded);
  let_in = tt;
  knows = e;
  led = subst (IsLed after) (sym e) (record {
    let_in = subst (λ cs. AreLetIn cs k) (sym same.link) led.let_in;
    stands = subst (λ cs. Stands after (all cs k)) (sym same.link) (same.stands (all (on_presence o) k) led.stands);
  });
}

same_place : {o after : Option Place} → after ≡ o → SamePlace o after
same_place {o} e = subst (SamePlace o) (sym e) (record { link = refl; stands = λ k is. is })

-- the same changes, plugged or not, on the same connection
abbrev SameSeat : Place → Place → Type 0
SameSeat place after = (after.presence.changes ≡ place.presence.changes) × (after.plugged ≡ place.plugged) × (after.conn ≡ place.conn)

same_seat : {place after : Place} → after ≡ place → SameSeat place after
same_seat e = (ap (λ (p : Place). p.presence.changes) e, ap (λ (p : Place). p.plugged) e, ap (λ (p : Place). p.conn) e)

stands_so : (b c : Bool) (x y : ℕ) (k : Known) → c ≡ b → y ≡ x → (k.0 ≡ (if b then Some x else None)) × (k.1 ≡ x) → (k.0 ≡ (if c then Some y else None)) × (k.1 ≡ y)
stands_so b c x y k e f h = rw (e, f) h

seat_place : (place after : Place) → SameSeat place after → SamePlace (Some place) (Some after)
seat_place place after same = record { link = same.0; stands = λ k is. stands_so place.plugged after.plugged place.conn after.conn k same.1 same.2 is }

-- ---- a step of a device

abbrev PlaceRecords : ℕ → Place → Answer → Place → Type 0
PlaceRecords n place (answer.Came port conn) after =
    (port ≡ n) × (place.plugged ≡ false) × (conn ≡ place.conn + 1)
    × (after.presence.changes ≡ place.presence.changes ++ change.Came conn ∷ []) × (after.plugged ≡ true) × (after.conn ≡ conn)
PlaceRecords n place (answer.Gone port conn) after =
    (port ≡ n) × (place.plugged ≡ true) × (conn ≡ place.conn)
    × (after.presence.changes ≡ place.presence.changes ++ change.Gone conn ∷ []) × (after.plugged ≡ false) × (after.conn ≡ conn)
PlaceRecords n place (answer.Presence port) after = ⊥
PlaceRecords n place _ after = SameSeat place after

not_plugged : (b full : Bool) → (let o : Option StepError = (if b then Some error.AlreadyThere else if full then Some error.Spent else None) in o) ≡ None → b ≡ false
not_plugged true full e = absurd (cc)
not_plugged false full e = refl

is_plugged : (b : Bool) → (let o : Option StepError = (if b then None else Some error.NotThere) in o) ≡ None → b ≡ true
is_plugged true e = refl
is_plugged false e = absurd (cc)

came_records : (n : ℕ) (place : Place) (a : Answer) (after : Place) → came_refusal place ≡ None → CameActs n place a after → PlaceRecords n place a after
came_records n place answer.Blocked after none acts = same_seat acts.1
came_records n place (answer.Came port conn) after none acts = (
  acts.0,
  not_plugged place.plugged (place.conn == largest) none,
  acts.1,
  ap (λ (p : Place). p.presence.changes) acts.3 ∙ ap (λ c. place.presence.changes ++ change.Came c ∷ []) (sym acts.1),
  ap (λ (p : Place). p.plugged) acts.3,
  ap (λ (p : Place). p.conn) acts.3 ∙ sym acts.1,
)
came_records n place _ after none acts = absurd acts

gone_records : (n : ℕ) (place : Place) (a : Answer) (after : Place) → gone_refusal place ≡ None → GoneActs n place a after → PlaceRecords n place a after
gone_records n place answer.Blocked after none acts = same_seat acts.1
gone_records n place (answer.Gone port conn) after none acts = (
  acts.0,
  is_plugged place.plugged none,
  acts.1,
  ap (λ (p : Place). p.presence.changes) acts.2 ∙ ap (λ c. place.presence.changes ++ change.Gone c ∷ []) (sym acts.1),
  ap (λ (p : Place). p.plugged) acts.2,
  ap (λ (p : Place). p.conn) acts.2 ∙ sym acts.1,
)
gone_records n place _ after none acts = absurd acts

send_records : (n : ℕ) (place : Place) (a : Answer) (after : Place) → DiskSendActs n place a after → PlaceRecords n place a after
send_records n place answer.Idle after acts = same_seat acts.1
send_records n place answer.Blocked after acts = same_seat acts.2
send_records n place (answer.Sent port conn number bytes) after acts =
    (ap (λ (p : Place). p.presence.changes) acts.5, ap (λ (p : Place). p.plugged) acts.5, ap (λ (p : Place). p.conn) acts.5)
send_records n place _ after acts = absurd acts

inject_records : (n : ℕ) (given : List ℕ) (place : Place) (a : Answer) (after : Place) → InjectActs n given place a after → PlaceRecords n place a after
inject_records n given place answer.Blocked after acts = same_seat acts.1
inject_records n given place (answer.Sent port conn number bytes) after acts =
    (ap (λ (p : Place). p.presence.changes) acts.5, ap (λ (p : Place). p.plugged) acts.5, ap (λ (p : Place). p.conn) acts.5)
inject_records n given place _ after acts = absurd acts

take_records : (n : ℕ) (place : Place) (a : Answer) (after : Place) → DiskTakeRule n place (Ok a) after → PlaceRecords n place a after
take_records n place answer.Idle after acts = same_seat acts.1
take_records n place (answer.DiskTook port dropped) after acts =
    (ap (λ (p : Place). p.presence.changes) acts.2, ap (λ (p : Place). p.plugged) acts.2, ap (λ (p : Place). p.conn) acts.2)
take_records n place _ after acts = absurd acts

-- a change that is posted
posted_led : (place after : Place) (c : Change) (k : Known) → after.presence.changes ≡ place.presence.changes ++ c ∷ [] → IsLed (Some place) k
    → LetIn c (all place.presence.changes k) → Stands (Some after) (one c (all place.presence.changes k)) → IsLed (Some after) k
posted_led place after c k e led last stands = record {
  let_in = subst (λ cs. AreLetIn cs k) (sym e) (one_more place.presence.changes c k led.let_in last);
  stands = subst (Stands (Some after)) (sym (ap (λ cs. all cs k) e ∙ all-append place.presence.changes (c ∷ []) k)) stands;
}

told_here : (n port : ℕ) (c : Change) → port ≡ n → (if port == n then c ∷ [] else []) ≡ c ∷ []
told_here n port c e = let b : eqb n n ≡ true = eq-eqb n n refl in rw (e, b) refl

place_records : (n : ℕ) (place : Place) (a : Answer) (after : Place) (k : Known) → PlaceRecords n place a after → IsLed (Some place) k → Records n (Some place) k a (Some after) k
place_records n place (answer.Came port conn) after k is led =
    let were : (all place.presence.changes k).0 ≡ None = led.stands.0 ∙ ap (λ (b : Bool). let o : Option ℕ = (if b then Some place.conn else None) in o) is.1 in
    let last : (all place.presence.changes k).1 ≡ place.conn = led.stands.1 in
    let next : conn ≡ place.conn + 1 = is.2 in
    record {
      read = [];
      link = is.3 ∙ ap (λ cs. place.presence.changes ++ cs) (sym (told_here n port (change.Came conn) is.0));
      count = refl;
      let_in = tt;
      knows = refl;
      led = posted_led place after (change.Came conn) k is.3 led (were, omega (arith, last, next)) (rw (is.4, is.5) (refl, refl));
    }
place_records n place (answer.Gone port conn) after k is led =
    let were : (all place.presence.changes k).0 ≡ Some place.conn = led.stands.0 ∙ ap (λ (b : Bool). let o : Option ℕ = (if b then Some place.conn else None) in o) is.1 in
    record {
      read = [];
      link = is.3 ∙ ap (λ cs. place.presence.changes ++ cs) (sym (told_here n port (change.Gone conn) is.0));
      count = refl;
      let_in = tt;
      knows = refl;
      led = posted_led place after (change.Gone conn) k is.3 led (were ∙ ap Some (sym is.2)) (rw (is.4, is.5) (refl, led.stands.1 ∙ sym is.2));
    }
place_records n place (answer.Presence port) after k is led = absurd is
place_records n place a after k is led = still n (Some place) k a (Some after) k (record { came = refl; recorded = refl }) (seat_place place after is) refl led

-- at another port nothing is told
not_here : (n m port : ℕ) (c : Change) → m ≢ n → port ≡ n → (let o : List Change = (if port == m then c ∷ [] else []) in o) ≡ []
not_here n m port c other e =
    let b : eqb port m ≡ false = ne_eqb port m (λ same. other (sym same ∙ e)) in
    rw b refl

elsewhere : (n m : ℕ) (place : Place) (a : Answer) (after : Place) → m ≢ n → PlaceRecords n place a after → IsStill m a
elsewhere n m place (answer.Came port conn) after other is = record { came = not_here n m port (change.Came conn) other is.0; recorded = refl }
elsewhere n m place (answer.Gone port conn) after other is = record { came = not_here n m port (change.Gone conn) other is.0; recorded = refl }
elsewhere n m place (answer.Presence port) after other is = absurd is
elsewhere n m place _ after other is = record { came = refl; recorded = refl }

-- what a step does at port m
abbrev pub RecordsAt : ℕ → Places → Answer → Places → Type 0
RecordsAt m old a new =
    IsLed (slice_get old.devices m) (known (port_at old.multiplier m))
    → Records m (slice_get old.devices m) (known (port_at old.multiplier m)) a (slice_get new.devices m) (known (port_at new.multiplier m))

-- a step of device n and the multiplier, whose ports know what they knew
module _ (old : Places) (n : ℕ) (place : Place) (a : Answer) (after : Place) (left : PmState) (is : slice_get old.devices n ≡ Some place)
    (same : (m : ℕ) → known (port_at left m) ≡ known (port_at old.multiplier m)) (h : PlaceRecords n place a after) where
  abbrev Then : Places
  Then = with_multiplier (with_device old n after) left

  here_records : RecordsAt n old a Then
  here_records led =
      let k = known (port_at old.multiplier n) in
      let was : IsLed (Some place) k = subst (λ o. IsLed o k) is led in
      let records = place_records n place a after k h was in
      subst (λ o. Records n o k a (slice_get Then.devices n) (known (port_at left n))) (sym is)
      (subst (λ o. Records n (Some place) k a o (known (port_at left n))) (sym (slice_get-set_same old.devices n place after is))
      (subst (λ x. Records n (Some place) k a (Some after) x) (sym (same n)) records))

  other_records : (m : ℕ) → m ≢ n → RecordsAt m old a Then
  other_records m other led =
      still m (slice_get old.devices m) (known (port_at old.multiplier m)) a (slice_get Then.devices m) (known (port_at left m))
      (elsewhere n m place a after other h) (same_place (slice_get-set_other old.devices n m after other)) (same m) led

  device_records : (m : ℕ) → RecordsAt m old a Then
  device_records m =
      elim (cases_eq m n) [
        | inl e ↦ subst (λ x. RecordsAt x old a Then) (sym e) here_records
        | inr other ↦ other_records m other
      ]

on_device : (old : Places) (n : ℕ) (a : Answer) (new : Places) (R : Place → Outcome → Place → Type 0) → ((place after : Place) → R place (Ok a) after → PlaceRecords n place a after)
    → OnDevice old n (Ok a) new R → (m : ℕ) → RecordsAt m old a new
on_device old n a new R records rule m =
    let p = at_device old n a new R rule in
    subst (RecordsAt m old a) (sym p.new_is) (device_records old n p.place a p.after old.multiplier p.is (λ x. refl) (records p.place p.after p.rule) m)

-- ---- a step of a device and the multiplier

not_full : (b : Bool) → (conn last : ℕ) → last < conn → nat_le conn last ≡ b → is_none (if b then Some OldConnection else None) ≡ true
not_full true conn last above e = let most : conn ≤ last = leb-true conn last e in absurd (omega (arith, most, above))
not_full false conn last above e = refl

comes_in : (present : Option ℕ) (last conn : ℕ) → present ≡ None → last < conn → is_none (if is_some present then Some AlreadyThere else if nat_le conn last then Some OldConnection else None) ≡ true
comes_in None last conn e above = not_full (nat_le conn last) conn last above refl
comes_in (Some x) last conn e above = absurd (cc)

goes_out : (present : Option ℕ) (conn : ℕ) → present ≡ Some conn → is_none (if is_present present conn then None else Some NotThere) ≡ true
goes_out None conn e = absurd (cc)
goes_out (Some x) conn e =
    let same : x ≡ conn = same_Some x conn e in
    let b : eqb conn conn ≡ true = eq-eqb conn conn refl in
    rw (same, b) refl

-- a change that is let in is recorded
recorded_known : (pm : PmState) (n : ℕ) (c : Change) → n < length pm.ports → LetIn c (known (port_at pm n)) → known (port_at (recorded pm n c) n) ≡ one c (known (port_at pm n))
recorded_known pm n (change.Came conn) lt let_in =
    let none : is_none (port_came_refusal (port_at pm n) conn) ≡ true = comes_in (port_at pm n).present (port_at pm n).last conn let_in.0 let_in.1 in
    ap (λ (b : Bool). known (port_at (if b then connected pm n conn else pm) n)) none
    ∙ ap known (ports.this_port pm.ports n (with_connection (port_at pm n) conn) lt)
recorded_known pm n (change.Gone conn) lt let_in =
    let none : is_none (port_gone_refusal (port_at pm n) conn) ≡ true = goes_out (port_at pm n).present conn let_in in
    ap (λ (b : Bool). known (port_at (if b then without_device pm n conn else pm) n)) none
    ∙ ap known (ports.this_port pm.ports n (with_removal (port_at pm n) conn) lt)

-- and at another port nothing is
recorded_other : (pm : PmState) (n m : ℕ) (c : Change) → m ≢ n → known (port_at (recorded pm n c) m) ≡ known (port_at pm m)
recorded_other pm n m (change.Came conn) other = by_test (is_none (port_came_refusal (port_at pm n) conn))
  where
    by_test : (b : Bool) → known (port_at (if b then connected pm n conn else pm) m) ≡ known (port_at pm m)
    by_test true = ap known (ports.other_port pm.ports n m (with_connection (port_at pm n) conn) other)
    by_test false = refl
recorded_other pm n m (change.Gone conn) other = by_test (is_none (port_gone_refusal (port_at pm n) conn))
  where
    by_test : (b : Bool) → known (port_at (if b then without_device pm n conn else pm) m) ≡ known (port_at pm m)
    by_test true = ap known (ports.other_port pm.ports n m (with_removal (port_at pm n) conn) other)
    by_test false = refl

counted_here : (n port : ℕ) → port ≡ n → times (is_recorded n) (answer.Presence port ∷ []) ≡ 1
counted_here n port e = let b : eqb n n ≡ true = eq-eqb n n refl in rw (e, b) refl

-- the first change on the presence link is read
read_records : (n port : ℕ) (place after : Place) (c : Change) (k left : Known) → port ≡ n → place.presence.changes ≡ c ∷ after.presence.changes → after.plugged ≡ place.plugged → after.conn ≡ place.conn
    → (LetIn c k → left ≡ one c k) → IsLed (Some place) k → Records n (Some place) k (answer.Presence port) (Some after) left
read_records n port place after c k left here first plugged conn reads led =
    let let_in : AreLetIn (c ∷ after.presence.changes) k = subst (λ cs. AreLetIn cs k) first led.let_in in
    let stands : Stands (Some place) (all (c ∷ after.presence.changes) k) = subst (λ cs. Stands (Some place) (all cs k)) first led.stands in
    let now : left ≡ one c k = reads let_in.0 in
    record {
      read = c ∷ [];
      link = sym first ∙ sym (append-nil place.presence.changes);
      count = sym (counted_here n port here);
      let_in = (let_in.0, tt);
      knows = now;
      led = subst (IsLed (Some after)) (sym now) (record {
        let_in = let_in.1;
        stands = stands_so place.plugged after.plugged place.conn after.conn (all after.presence.changes (one c k)) plugged conn stands;
      });
    }

module _ (old : Places) (n : ℕ) (place after : Place) (left : PmState) (is : slice_get old.devices n ≡ Some place) (lt : n < length old.multiplier.ports) where
  abbrev Both : Places
  Both = with_multiplier (with_device old n after) left

  presence_here : (port : ℕ) (c : Change) → port ≡ n → place.presence.changes ≡ c ∷ after.presence.changes → after.plugged ≡ place.plugged → after.conn ≡ place.conn
      → left ≡ recorded old.multiplier n c → RecordsAt n old (answer.Presence port) Both
  presence_here port c here first plugged conn now led =
      let k = known (port_at old.multiplier n) in
      let was : IsLed (Some place) k = subst (λ o. IsLed o k) is led in
      let reads : LetIn c k → known (port_at left n) ≡ one c k = λ let_in. ap (λ (q : PmState). known (port_at q n)) now ∙ recorded_known old.multiplier n c lt let_in in
      let records = read_records n port place after c k (known (port_at left n)) here first plugged conn reads was in
      subst (λ o. Records n o k (answer.Presence port) (slice_get Both.devices n) (known (port_at left n))) (sym is)
      (subst (λ o. Records n (Some place) k (answer.Presence port) o (known (port_at left n))) (sym (slice_get-set_same old.devices n place after is)) records)

  presence_other : (port : ℕ) (c : Change) (m : ℕ) → m ≢ n → port ≡ n → left ≡ recorded old.multiplier n c → RecordsAt m old (answer.Presence port) Both
  presence_other port c m other here now led =
      let b : eqb port m ≡ false = ne_eqb port m (λ same. other (sym same ∙ here)) in
      still m (slice_get old.devices m) (known (port_at old.multiplier m)) (answer.Presence port) (slice_get Both.devices m) (known (port_at left m))
      (record { came = refl; recorded = b }) (same_place (slice_get-set_other old.devices n m after other))
      (ap (λ (q : PmState). known (port_at q m)) now ∙ recorded_other old.multiplier n m c other) led

  presence_records : (a : Answer) → PmPresenceRule n place old.multiplier (Ok a) after left → (m : ℕ) → RecordsAt m old a Both
  presence_records answer.Idle acts m = device_records old n place answer.Idle after left is (λ x. ap (λ (q : PmState). known (port_at q x)) acts.2) (same_seat acts.1) m
  presence_records (answer.Presence port) acts m =
      elim (cases_eq m n) [
        | inl e ↦ subst (λ x. RecordsAt x old (answer.Presence port) Both) (sym e)
            (presence_here port acts.2.0 acts.0 acts.2.1 (ap (λ (p : Place). p.plugged) acts.1) (ap (λ (p : Place). p.conn) acts.1) acts.2.2)
        | inr other ↦ presence_other port acts.2.0 m other acts.0 acts.2.2
      ]
  presence_records _ acts m = absurd acts

from_device_seat : (n : ℕ) (place : Place) (pm : PmState) (a : Answer) (after : Place) (left : PmState) → PmFromDeviceRule n place pm (Ok a) after left → PlaceRecords n place a after
from_device_seat n place pm answer.Idle after left acts = same_seat acts.1
from_device_seat n place pm answer.Blocked after left acts = same_seat acts.2
from_device_seat n place pm (answer.Offered port dropped) after left acts =
    (ap (λ (p : Place). p.presence.changes) acts.1, ap (λ (p : Place). p.plugged) acts.1, ap (λ (p : Place). p.conn) acts.1)
from_device_seat n place pm _ after left acts = absurd acts

down_seat : (n : ℕ) (place : Place) (pm : PmState) (a : Answer) (after : Place) (left : PmState) → PmDownRule n place pm (Ok a) after left → PlaceRecords n place a after
down_seat n place pm answer.Idle after left acts = same_seat acts.2
down_seat n place pm answer.Blocked after left acts = same_seat acts.1
down_seat n place pm (answer.Down port) after left acts =
    (ap (λ (p : Place). p.presence.changes) acts.2.2, ap (λ (p : Place). p.plugged) acts.2.2, ap (λ (p : Place). p.conn) acts.2.2)
down_seat n place pm _ after left acts = absurd acts

-- ---- a step of no device

apart : (old : Places) (a : Answer) (new : Places) → ((m : ℕ) → IsStill m a) → new.devices ≡ old.devices → ((m : ℕ) → known (port_at new.multiplier m) ≡ known (port_at old.multiplier m)) → (m : ℕ) → RecordsAt m old a new
apart old a new quiet devices same m led =
    still m (slice_get old.devices m) (known (port_at old.multiplier m)) a (slice_get new.devices m) (known (port_at new.multiplier m))
    (quiet m) (same_place (ap (λ ds. slice_get ds m) devices)) (same m) led

heard_still : (old : Places) (a : Answer) (new : Places) → PmFromHostRule old.downward old.multiplier (Ok a) new.downward new.multiplier → (m : ℕ) → IsStill m a
heard_still old answer.Idle new acts m = record { came = refl; recorded = refl }
heard_still old answer.Blocked new acts m = record { came = refl; recorded = refl }
heard_still old (answer.Passed p) new acts m = record { came = refl; recorded = refl }
heard_still old _ new acts m = absurd acts

up_still : (old : Places) (a : Answer) (new : Places) → PmUpRule old.multiplier old.upward (Ok a) new.multiplier new.upward → (m : ℕ) → IsStill m a
up_still old answer.Idle new acts m = record { came = refl; recorded = refl }
up_still old answer.Blocked new acts m = record { came = refl; recorded = refl }
up_still old (answer.Up n) new acts m = record { came = refl; recorded = refl }
up_still old _ new acts m = absurd acts

take_still : (old : Places) (a : Answer) (new : Places) → HostTakeRule old.upward old.host (Ok a) new.upward new.host → (m : ℕ) → IsStill m a
take_still old answer.Idle new acts m = record { came = refl; recorded = refl }
take_still old (answer.Took port conn number bytes report) new acts m = record { came = refl; recorded = refl }
take_still old _ new acts m = absurd acts

push_still : (old : Places) (a : Answer) (new : Places) → HostPushRule old.host old.downward (Ok a) new.host new.downward → (m : ℕ) → IsStill m a
push_still old answer.Idle new acts m = record { came = refl; recorded = refl }
push_still old answer.Blocked new acts m = record { came = refl; recorded = refl }
push_still old answer.Pushed new acts m = record { came = refl; recorded = refl }
push_still old _ new acts m = absurd acts

tick_still : (old : Places) (a : Answer) (new : Places) → TickRule old.host (Ok a) new.host → (m : ℕ) → IsStill m a
tick_still old answer.Idle new acts m = record { came = refl; recorded = refl }
tick_still old answer.Ticked new acts m = record { came = refl; recorded = refl }
tick_still old _ new acts m = absurd acts

submit_still : (dev : ℕ) (request : Request) (old : Places) (a : Answer) (new : Places) → SubmitRule dev request old.host (Ok a) new.host → (m : ℕ) → IsStill m a
submit_still dev request old (answer.Refused e) new acts m = record { came = refl; recorded = refl }
submit_still dev request old (answer.Submitted ticket) new acts m = record { came = refl; recorded = refl }
submit_still dev request old _ new acts m = absurd acts

poll_still : (old : Places) (a : Answer) (new : Places) → PollRule old.host (Ok a) new.host → (m : ℕ) → IsStill m a
poll_still old answer.Idle new acts m = record { came = refl; recorded = refl }
poll_still old (answer.Polled completion) new acts m = record { came = refl; recorded = refl }
poll_still old _ new acts m = absurd acts

put_still : (at : ℕ) (bytes : List ℕ) (old : Places) (a : Answer) (new : Places) → PutRule at bytes old.host (Ok a) new.host → (m : ℕ) → IsStill m a
put_still at bytes old answer.Put new acts m = record { came = refl; recorded = refl }
put_still at bytes old _ new acts m = absurd acts

-- a step that leaves devices and multiplier
aside : (old : Places) (a : Answer) (new after : Places) → ((m : ℕ) → IsStill m a) → new ≡ after → after.devices ≡ old.devices → after.multiplier ≡ old.multiplier → (m : ℕ) → RecordsAt m old a new
aside old a new after quiet e devices same =
    apart old a new quiet (ap (λ (w : Places). w.devices) e ∙ devices) (λ m. ap (λ (w : Places). known (port_at w.multiplier m)) e ∙ ap (λ (q : PmState). known (port_at q m)) same)

-- ---- each step, and a whole run

pub rule_records : (old : Places) (s : Step) (a : Answer) (new : Places) → IsOrderly old → Rule old s (Ok a) new → (m : ℕ) → RecordsAt m old a new
rule_records old (step.Came n) a new orderly rule m = on_device old n a new (CameRule n) (λ place after r. came_records n place a after r.0 r.1) rule m
rule_records old (step.Gone n) a new orderly rule m = on_device old n a new (GoneRule n) (λ place after r. gone_records n place a after r.0 r.1) rule m
rule_records old (step.DiskSend n) a new orderly rule m = on_device old n a new (DiskSendRule n) (λ place after r. send_records n place a after r.1) rule m
rule_records old (step.Inject n bytes) a new orderly rule m = on_device old n a new (InjectRule n bytes) (λ place after r. inject_records n bytes place a after r.1) rule m
rule_records old (step.DiskTake n) a new orderly rule m = on_device old n a new (DiskTakeRule n) (λ place after r. take_records n place a after r) rule m
rule_records old (step.PmPresence n) a new orderly rule m =
    let p = at_both old n a new (PmPresenceRule n) rule in
    let lt : n < length old.devices = slice_get_within old.devices n p.place p.is in
    let most = orderly.most in
    let room = orderly.room in
    subst (RecordsAt m old a) (sym p.new_is) (presence_records old n p.place p.after p.left p.is (omega arith) a p.rule m)
rule_records old (step.PmFromDevice n) a new orderly rule m =
    let p = at_both old n a new (PmFromDeviceRule n) rule in
    let like = device_roomy n p.place old.multiplier a p.after p.left p.rule (roomy orderly) in
    subst (RecordsAt m old a) (sym p.new_is)
    (device_records old n p.place a p.after p.left p.is like.1.1 (from_device_seat n p.place old.multiplier a p.after p.left p.rule) m)
rule_records old (step.PmDown n) a new orderly rule m =
    let p = at_both old n a new (PmDownRule n) rule in
    let like = down_roomy n p.place old.multiplier a p.after p.left p.rule (roomy orderly) in
    subst (RecordsAt m old a) (sym p.new_is)
    (device_records old n p.place a p.after p.left p.is like.1.1 (down_seat n p.place old.multiplier a p.after p.left p.rule) m)
rule_records old step.PmFromHost a new orderly rule m =
    let like = heard_roomy old.downward old.multiplier a new.downward new.multiplier rule.0 (roomy orderly) in
    apart old a new (heard_still old a new rule.0) (ap (λ (w : Places). w.devices) rule.1) like.1.1 m
rule_records old step.PmUp a new orderly rule m =
    let like = up_roomy old.multiplier old.upward a new.multiplier new.upward rule.0 (roomy orderly) in
    apart old a new (up_still old a new rule.0) (ap (λ (w : Places). w.devices) rule.1) like.1.1 m
rule_records old step.HostTake a new orderly rule m = aside old a new (with_host (with_upward old new.upward) new.host) (take_still old a new rule.0) rule.1 refl refl m
rule_records old step.HostPush a new orderly rule m = aside old a new (with_downward (with_host old new.host) new.downward) (push_still old a new rule.0) rule.1 refl refl m
rule_records old step.Tick a new orderly rule m = aside old a new (with_host old new.host) (tick_still old a new rule.0) rule.1 refl refl m
rule_records old (step.Submit dev request) a new orderly rule m = aside old a new (with_host old new.host) (submit_still dev request old a new rule.0) rule.1 refl refl m
rule_records old step.Poll a new orderly rule m = aside old a new (with_host old new.host) (poll_still old a new rule.0) rule.1 refl refl m
rule_records old (step.Put at bytes) a new orderly rule m = aside old a new (with_host old new.host) (put_still at bytes old a new rule.0) rule.1 refl refl m

-- one answer and more are counted one after another
times_more : (says : Answer → Bool) (a : Answer) (answers : List Answer) → times says (a ∷ answers) ≡ times says (a ∷ []) + times says answers
times_more says a answers = by_test (says a)
  where
    by_test : (b : Bool) → length (cond b (a ∷ filter says answers) (filter says answers)) ≡ length (cond b (a ∷ []) []) + length (filter says answers)
    by_test true = omega arith
    by_test false = omega arith

times-append : (says : Answer → Bool) (first later : List Answer) → times says (first ++ later) ≡ times says first + times says later
times-append says first later = ap length (filter-append says first later) ∙ length-append (filter says first) (filter says later)

-- what a run reads off the presence link of port n
record RunRecords (n : ℕ) (old : Places) (answers : List Answer) (new : Places) : Type 0 where
  read : List Change
  link : read ++ on_presence (slice_get new.devices n) ≡ on_presence (slice_get old.devices n) ++ flat_map (changed_by n) answers
  count : length read ≡ times (is_recorded n) answers
  let_in : AreLetIn read (known (port_at old.multiplier n))
  knows : known (port_at new.multiplier n) ≡ all read (known (port_at old.multiplier n))

run_records : (old : Places) (steps : List Step) (answers : List Answer) (new : Places) → IsOrderly old → Run old steps answers new → (n : ℕ)
    → IsLed (slice_get old.devices n) (known (port_at old.multiplier n)) → RunRecords n old answers new
run_records old [] [] new orderly run n led = record {
  read = [];
  link = ap (λ (w : Places). on_presence (slice_get w.devices n)) run ∙ sym (append-nil (on_presence (slice_get old.devices n)));
  count = refl;
  let_in = tt;
  knows = ap (λ (w : Places). known (port_at w.multiplier n)) run;
}
run_records old (s ∷ steps) (a ∷ answers) new orderly run n led =
    let mid = run.0 in
    let first = rule_records old s a mid orderly run.1 n led in
    let rest = run_records mid steps answers new (orderly_after old s a mid orderly run.1) run.2 n first.led in
    let one : length first.read ≡ times (is_recorded n) (a ∷ []) = first.count in
    let more : length rest.read ≡ times (is_recorded n) answers = rest.count in
    record {
      read = first.read ++ rest.read;
      link =
          append_assoc first.read rest.read (on_presence (slice_get new.devices n))
          ∙ ap (λ cs. first.read ++ cs) rest.link
          ∙ sym (append_assoc first.read (on_presence (slice_get mid.devices n)) (flat_map (changed_by n) answers))
          ∙ ap (λ cs. cs ++ flat_map (changed_by n) answers) first.link
          ∙ append_assoc (on_presence (slice_get old.devices n)) (changed_by n a) (flat_map (changed_by n) answers);
      count = length-append first.read rest.read ∙ omega (arith, one, more) ∙ sym (times_more (is_recorded n) a answers);
      let_in = both_in first.read rest.read (known (port_at old.multiplier n)) first.let_in (subst (AreLetIn rest.read) first.knows rest.let_in);
      knows = rest.knows ∙ ap (all rest.read) first.knows ∙ sym (all-append first.read rest.read (known (port_at old.multiplier n)));
    }
run_records old [] (a ∷ answers) new orderly run n led = absurd run
run_records old (s ∷ steps) [] new orderly run n led = absurd run

-- ---- since the world was made

-- what a port knows if no device came to it
abbrev pub nothing_known : Known
nothing_known = (None, 0, 0)

pub opening_led : (capacity : ℕ) (units : List Attached) (n : ℕ) → IsLed (slice_get (map (opening capacity) units) n) nothing_known
opening_led capacity [] n = record { let_in = tt; stands = tt }
opening_led capacity (u ∷ units) zero = record { let_in = tt; stands = (refl, refl) }
opening_led capacity (u ∷ units) (suc n) = opening_led capacity units n

nothing_posted : (capacity : ℕ) (units : List Attached) (n : ℕ) → on_presence (slice_get (map (opening capacity) units) n) ≡ []
nothing_posted capacity [] n = refl
nothing_posted capacity (u ∷ units) zero = refl
nothing_posted capacity (u ∷ units) (suc n) = nothing_posted capacity units n

take_front : (xs ys : List Change) → take (length xs) (xs ++ ys) ≡ xs
take_front [] ys = refl
take_front (x ∷ xs) ys = ap (λ l. x ∷ l) (take_front xs ys)

-- the highest removal that was recorded is what a port knows as gone
pub gone_recorded : (mode : Mode) (config : Config) (units : List Attached) → is_config config (length units) ≡ true → (steps : List Step) (answers : List Answer) (now : Places)
    → Run (new_world_in mode config units) steps answers now → (n : ℕ) → (port_at now.multiplier n).gone ≡ highest_gone (recorded_at n answers)
gone_recorded mode config units fits steps answers now run n =
    let opens : known (port_at (new_world_in mode config units).multiplier n) ≡ nothing_known = ap known (port_opening config units n) in
    let led = subst (IsLed (slice_get (new_world_in mode config units).devices n)) (sym opens) (opening_led config.capacity units n) in
    let r = run_records (new_world_in mode config units) steps answers now (opening_orderly mode config units fits) run n led in
    let told : r.read ++ on_presence (slice_get now.devices n) ≡ flat_map (changed_by n) answers = r.link ∙ ap (λ cs. cs ++ flat_map (changed_by n) answers) (nothing_posted config.capacity units n) in
    let read : recorded_at n answers ≡ r.read =
    ap (λ k. take k (flat_map (changed_by n) answers)) (sym r.count) ∙ ap (take (length r.read)) (sym told) ∙ take_front r.read (on_presence (slice_get now.devices n)) in
    let let_in : AreLetIn r.read nothing_known = subst (AreLetIn r.read) opens r.let_in in
    let knows : known (port_at now.multiplier n) ≡ all r.read nothing_known = r.knows ∙ ap (all r.read) opens in
    let highest : (all r.read nothing_known).2 ≡ max 0 (highest_gone r.read) = gone_is r.read nothing_known let_in sensible in
    ap (λ (k : Known). k.2) knows ∙ highest ∙ (omega arith) ∙ ap highest_gone (sym read)
  where
    sensible : IsSensible nothing_known
    sensible = record { there = λ conn e. absurd (cc); last = omega arith }

-- ---- what the host has seen

-- as many frames were taken as went up, except those that are on the link
step_counts : (old : Places) (a : Answer) (new : Places) → Moves old a new → times is_took (a ∷ []) + length new.upward.frames ≡ length old.upward.frames + times is_up (a ∷ [])
step_counts old (answer.Sent port conn number bytes) new m = let same : length new.upward.frames ≡ length old.upward.frames = ap length m.2.upward in omega (arith, same)
step_counts old (answer.Up port) new (inl rose) =
    let more : length new.upward.frames ≡ length old.upward.frames + 1 = ap length rose.1.upward ∙ length-append old.upward.frames (rising port rose.0 ∷ []) in omega (arith, more)
step_counts old (answer.Up port) new (inr said) =
    let more : length new.upward.frames ≡ length old.upward.frames + 1 = ap length said.1.1.upward ∙ length-append old.upward.frames (said.1.0 ∷ []) in omega (arith, more)
step_counts old (answer.Took port conn number bytes report) new m =
    let less : length old.upward.frames ≡ suc (length new.upward.frames) = ap length m.2.upward in omega (arith, less)
step_counts old _ new m = let same : length new.upward.frames ≡ length old.upward.frames = ap length m.upward in omega (arith, same)

run_counts : (old : Places) (steps : List Step) (answers : List Answer) (new : Places) → IsOrderly old → Run old steps answers new
    → times is_took answers + length new.upward.frames ≡ length old.upward.frames + times is_up answers
run_counts old [] [] new orderly run = let same : length new.upward.frames ≡ length old.upward.frames = ap (λ (w : Places). length w.upward.frames) run in omega (arith, same)
run_counts old (s ∷ steps) (a ∷ answers) new orderly run =
    let mid = run.0 in
    let first = step_counts old a mid (rule_moves old s a mid orderly run.1) in
    let rest = run_counts mid steps answers new (orderly_after old s a mid orderly run.1) run.2 in
    let taken = times_more is_took a answers in
    let up = times_more is_up a answers in
    omega (arith, first, rest, taken, up)
run_counts old [] (a ∷ answers) new orderly run = absurd run
run_counts old (s ∷ steps) [] new orderly run = absurd run

-- so what is taken after that is not of a connection whose removal was seen
seen_over : (mode : Mode) (config : Config) (units : List Attached) → is_config config (length units) ≡ true → (steps : List Step) (answers : List Answer) (now : Places)
    → Run (new_world_in mode config units) steps answers now → (n c : ℕ) → n ≢ control_port → (first second later : List Answer) → first ++ (second ++ later) ≡ answers → IsSeen n c first second
    → taken n c later ≡ []
seen_over mode config units fits steps answers now run n c device first second later e is =
    let opens = new_world_in mode config units in
    let orderly = opening_orderly mode config units fits in
    let parts = in_parts first (second ++ later) opens steps now (subst (λ (all_told : List Answer). Run opens steps all_told now) (sym e) run) in
    let gone : (port_at parts.mid.multiplier n).gone ≡ highest_gone (recorded_at n first) = gone_recorded mode config units fits parts.before first parts.mid parts.begins n in
    let most : c ≤ highest_gone (recorded_at n first) = is.recorded in
    let removed : is_removed n c parts.mid ≡ true = up_to (port_at parts.mid.multiplier n).gone c is.some (omega (arith, gone, most)) in
    let counts : times is_took first + length parts.mid.upward.frames ≡ 0 + times is_up first = run_counts opens parts.before first parts.mid orderly parts.begins in
    let both : times is_took (first ++ second) ≡ times is_took first + times is_took second = times-append is_took first second in
    let more : times is_up first < times is_took (first ++ second) = is.taken in
    let took : length parts.mid.upward.frames < times is_took second = omega (arith, counts, both, more) in
    let after = nothing_after parts.mid parts.after (second ++ later) now (run_orderly opens parts.before first parts.mid orderly parts.begins) parts.goes_on in
    after.none n c device removed second later refl took c is.some (omega arith)

pub tells_removals : (old : Places) (steps : List Step) (answers : List Answer) (new : Places) → Run old steps answers new → TellsRemovals old answers new
tells_removals old steps answers new run = record {
  recorded = λ mode config units fits before told made.
      gone_recorded mode config units fits (before ++ steps) (told ++ answers) new (run_append (new_world_in mode config units) old new before told steps answers made run);
  seen = λ mode config units fits before told made.
      seen_over mode config units fits (before ++ steps) (told ++ answers) new (run_append (new_world_in mode config units) old new before told steps answers made run);
}
