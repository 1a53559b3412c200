-- For `rested_disks_have_signed`. A unit that was unplugged is not there again as the same connection.
use Rattle.std.proofs.Common.{◌≡◌, ◌≢◌, ℕ, ◌+◌, ◌<◌, ◌≤◌, true, false, refl, sym, ap, subst, ◌∙◌, Option, Some, None, Ok, arith}
use Rattle.std.proofs.lemmas.Bool.{true≢false}
use Rattle.std.specs.Prelude.{slice_get, slice_set, MatchOption}
use Rattle.pm_world.specs.{PathEnds.IsThere, Places.{Place, Places}, Rules.{CameActs, CameRule, DiskSendRule, DiskTakeRule, GoneActs, GoneRule}}
use Rattle.pm_world.specs.{Rules.{InjectRule, PmDownRule, PmFromDeviceRule, PmPresenceRule, Rule}, declared.step.{Answer.Answer, Step.Step}}
use Rattle.pm_world.specs.declared.step.Answer.TheVariants as answer
use Rattle.pm_world.specs.declared.step.Step.TheVariants as step
use Rattle.world_rests.proofs.{Parts.{AtBoth, AtDevice, at_both, at_device, set_each}, SignWorld.{KeepsPlace, keeps_down, keeps_from_device}}
use Rattle.world_rests.proofs.SignWorld.{keeps_inject, keeps_presence, keeps_send, keeps_take, same_place}

-- it was plugged in as this connection or a later one, and if it is plugged in, it is as a later one
abbrev IsPastPlace : ℕ → Place → Type 0
IsPastPlace c place = (c ≤ place.conn) × (place.plugged ≡ true → c < place.conn)

abbrev pub IsPast : (n c : ℕ) → Places → Type 0
IsPast n c now = (place : Place) → slice_get now.devices n ≡ Some place → (c ≤ place.conn) × (place.plugged ≡ true → c < place.conn)

pub past_away : {X : Type 0} (n c : ℕ) (now : Places) → IsPast n c now → IsThere n c now → X
past_away {X} n c now past there = by_place (slice_get now.devices n) refl there
  where
    by_place : (o : Option Place) → slice_get now.devices n ≡ o → MatchOption o ⊥ (λ place. (place.plugged ≡ true) × (place.conn ≡ c)) → X
    by_place None at there = absurd there
    by_place (Some place) at there =
        let less : c < place.conn = (past place at).1 there.0 in
        let same : place.conn ≡ c = there.1 in
        absurd (omega (arith, less, same))

module _ (n c : ℕ) (old : Places) (a : Answer) (new : Places) where
  set_past : (m : ℕ) (place after : Place) → slice_get old.devices m ≡ Some place → new.devices ≡ slice_set old.devices m after → (n ≡ m → IsPastPlace c after)
      → ((x : Place) → n ≢ m → slice_get old.devices n ≡ Some x → IsPastPlace c x) → IsPast n c new
  set_past m place after is devices here others x at =
      set_each (λ (j : ℕ) (y : Place). j ≡ n → IsPastPlace c y) old.devices m after (λ same. here (sym same))
      (λ j y other there same. others y (λ e. other (same ∙ e)) (ap (slice_get old.devices) (sym same) ∙ there)) n x
      (ap (λ ds. slice_get ds n) (sym devices) ∙ at) refl

  module _ (past : IsPast n c old) where
    at_place : (m : ℕ) (place after : Place) → slice_get old.devices m ≡ Some place → new.devices ≡ slice_set old.devices m after
        → (IsPastPlace c place → IsPastPlace c after) → IsPast n c new
    at_place m place after is devices goes =
        set_past m place after is devices (λ same. goes (past place (ap (slice_get old.devices) same ∙ is))) (λ x other there. past x there)

    kept : (place after : Place) → KeepsPlace place after → IsPastPlace c place → IsPastPlace c after
    kept place after keeps was =
        let most : c ≤ place.conn = was.0 in
        let same : after.conn ≡ place.conn = keeps.conn in (
          omega (arith, most, same),
          λ there. let less : c < place.conn = was.1 (sym keeps.plugged ∙ there) in omega (arith, less, same),
        )

    comes : (m : ℕ) (place after : Place) (b : Answer) → CameActs m place b after → IsPastPlace c place → IsPastPlace c after
    comes m place after answer.Blocked acts was = kept place after (same_place place after acts.1) was
    comes m place after (answer.Came p conn) acts was =
        let most : c ≤ place.conn = was.0 in
        let next : after.conn ≡ place.conn + 1 = ap (λ (q : Place). q.conn) acts.3 in (omega (arith, most, next), λ there. omega (arith, most, next))
    comes m place after _ acts was = absurd acts

    goes_off : (m : ℕ) (place after : Place) (b : Answer) → GoneActs m place b after → IsPastPlace c place → IsPastPlace c after
    goes_off m place after answer.Blocked acts was = kept place after (same_place place after acts.1) was
    goes_off m place after (answer.Gone p conn) acts was =
        let most : c ≤ place.conn = was.0 in
        let same : after.conn ≡ place.conn = ap (λ (q : Place). q.conn) acts.2 in
        (omega (arith, most, same), λ there. absurd (true≢false (sym there ∙ ap (λ (q : Place). q.plugged) acts.2)))
    goes_off m place after _ acts was = absurd acts

    pub past_after : (s : Step) → Rule old s (Ok a) new → IsPast n c new
    past_after (step.Came m) rule =
        let d : AtDevice old m (Ok a) new (CameRule m) = at_device old m a new (CameRule m) rule in
        at_place m d.place d.after d.is (ap (λ (w : Places). w.devices) d.new_is) (comes m d.place d.after a d.rule.1)
    past_after (step.Gone m) rule =
        let d : AtDevice old m (Ok a) new (GoneRule m) = at_device old m a new (GoneRule m) rule in
        at_place m d.place d.after d.is (ap (λ (w : Places). w.devices) d.new_is) (goes_off m d.place d.after a d.rule.1)
    past_after (step.DiskSend m) rule =
        let d : AtDevice old m (Ok a) new (DiskSendRule m) = at_device old m a new (DiskSendRule m) rule in
        at_place m d.place d.after d.is (ap (λ (w : Places). w.devices) d.new_is) (kept d.place d.after (keeps_send m d.place a d.after d.rule.1))
    past_after (step.Inject m bytes) rule =
        let d : AtDevice old m (Ok a) new (InjectRule m bytes) = at_device old m a new (InjectRule m bytes) rule in
        at_place m d.place d.after d.is (ap (λ (w : Places). w.devices) d.new_is) (kept d.place d.after (keeps_inject m bytes d.place a d.after d.rule.1))
    past_after (step.DiskTake m) rule =
        let d : AtDevice old m (Ok a) new (DiskTakeRule m) = at_device old m a new (DiskTakeRule m) rule in
        at_place m d.place d.after d.is (ap (λ (w : Places). w.devices) d.new_is) (kept d.place d.after (keeps_take m d.place a d.after d.rule))
    past_after (step.PmPresence m) rule =
        let d : AtBoth old m (Ok a) new (PmPresenceRule m) = at_both old m a new (PmPresenceRule m) rule in
        at_place m d.place d.after d.is (ap (λ (w : Places). w.devices) d.new_is)
        (kept d.place d.after (keeps_presence m d.place old.multiplier a d.after d.left d.rule))
    past_after (step.PmFromDevice m) rule =
        let d : AtBoth old m (Ok a) new (PmFromDeviceRule m) = at_both old m a new (PmFromDeviceRule m) rule in
        at_place m d.place d.after d.is (ap (λ (w : Places). w.devices) d.new_is)
        (kept d.place d.after (keeps_from_device m d.place old.multiplier a d.after d.left d.rule))
    past_after (step.PmDown m) rule =
        let d : AtBoth old m (Ok a) new (PmDownRule m) = at_both old m a new (PmDownRule m) rule in
        at_place m d.place d.after d.is (ap (λ (w : Places). w.devices) d.new_is)
        (kept d.place d.after (keeps_down m d.place old.multiplier a d.after d.left d.rule))
    past_after other rule = λ x at. past x (ap (λ (w : Places). slice_get w.devices n) (sym rule.1) ∙ at)

-- the unit that is unplugged
pub gone_past : (n c conn : ℕ) (old new : Places) → IsThere n c old → Rule old (step.Gone n) (Ok (answer.Gone n conn)) new → IsPast n c new
gone_past n c conn old new there rule =
    let d : AtDevice old n (Ok (answer.Gone n conn)) new (GoneRule n) = at_device old n (answer.Gone n conn) new (GoneRule n) rule in
    let acts : GoneActs n d.place (answer.Gone n conn) d.after = d.rule.1 in
    let is : d.place.conn ≡ c = (subst (λ (o : Option Place). MatchOption o ⊥ (λ place. (place.plugged ≡ true) × (place.conn ≡ c))) d.is there).1 in
    let same : d.after.conn ≡ d.place.conn = ap (λ (q : Place). q.conn) acts.2 in
    set_past n c old (answer.Gone n conn) new n d.place d.after d.is (ap (λ (w : Places). w.devices) d.new_is)
    (λ own. (omega (arith, is, same), λ again. absurd (true≢false (sym again ∙ ap (λ (q : Place). q.plugged) acts.2)))) (λ x other at. absurd (other refl))
