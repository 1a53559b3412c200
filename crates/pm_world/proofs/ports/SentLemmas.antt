-- For `connections_follow`. What a unit sends is of its connection. So nothing is on its way of a connection that is
-- still to come.
use Rattle.std.proofs.Common.{◌≡◌, ◌≢◌, ◌==◌, ◌&&◌, ℕ, ◌<◌, ◌≤◌, Bool, true, false, List, [], ◌∷◌, ◌++◌, length, refl, sym, ap, subst, ◌∙◌, inl, inr}
use Rattle.std.proofs.{Common.{Option, Some, None, Ok, arith}, lemmas.Bool.{and_parts, eqb-true}}
use Rattle.std.specs.{Prelude.{if◌then◌else◌, slice_get}, List.flat_map}
use Rattle.multiplier.specs.Arbiter.{control_port}
use Rattle.hba_driver.specs.declared.mode.Mode.TheVariants.{Switching}
use Rattle.pm_world.specs.{Attached.Attached, Links.on_presence, Places.{Place, Places, is_config, new_world}, Rules.{CameRule, DiskSendActs}}
use Rattle.pm_world.specs.Rules.{DiskSendRule, DiskTakeRule, GoneRule, InjectActs, InjectRule, PmDownRule, PmFromDeviceRule, PmPresenceRule, Rule}
use Rattle.pm_world.specs.{Rules.Run, Traffic.{NothingLost, all_marked, is_removed, sent_by, taken_by, transit}, declared.step.Config.Config}
use Rattle.pm_world.specs.{declared.step.{Step.Step, Answer.Answer}, Connections.IsUnused}
use Rattle.pm_world.specs.declared.step.Step.TheVariants as step
use Rattle.pm_world.specs.declared.step.Answer.TheVariants as answer
use Rattle.pm_world.proofs.{upward.{Law.nothing_lost, Recorded.{IsLed, all}}, steps.{Openings.nothing_stands, Steps.{AtDevice, at_both, at_device}}}
use Rattle.pm_world.proofs.{paths.{KeptLemmas.{Was, was}, PathLemmas.none_both}, ports.FirmLemmas.{IsFirm, firm_after, opening_firm, seen_at}}
use Rattle.pm_world.proofs.ports.FirmLemmas.{whole_closed}

-- ## Who sends

-- the unit at the port, which is plugged in, sends on its connection
pub record IsSender (old : Places) (port conn : ℕ) : Type 0 where
  pub place : Place
  pub is : slice_get old.devices port ≡ Some place
  pub plugged : place.plugged ≡ true
  pub conn_is : conn ≡ place.conn

pub sender : (old new : Places) (port conn number : ℕ) (bytes : List ℕ) (s : Step) → Rule old s (Ok (answer.Sent port conn number bytes)) new
    → IsSender old port conn
sender old new port conn number bytes (step.DiskSend m) rule =
    let d : AtDevice old m (Ok (answer.Sent port conn number bytes)) new (DiskSendRule m) = at_device old m (answer.Sent port conn number bytes) new (DiskSendRule m) rule in
    let acts : DiskSendActs m d.place (answer.Sent port conn number bytes) d.after = d.rule.1 in
    record { place = d.place; is = ap (slice_get old.devices) acts.1 ∙ d.is; plugged = acts.0.0; conn_is = acts.2 }
sender old new port conn number bytes (step.Inject m given) rule =
    let d : AtDevice old m (Ok (answer.Sent port conn number bytes)) new (InjectRule m given) = at_device old m (answer.Sent port conn number bytes) new (InjectRule m given) rule in
    let acts : InjectActs m given d.place (answer.Sent port conn number bytes) d.after = d.rule.1 in
    record { place = d.place; is = ap (slice_get old.devices) acts.1 ∙ d.is; plugged = acts.0.0; conn_is = acts.2 }
sender old new port conn number bytes (step.Came m) rule = absurd (at_device old m (answer.Sent port conn number bytes) new (CameRule m) rule).rule.1
sender old new port conn number bytes (step.Gone m) rule = absurd (at_device old m (answer.Sent port conn number bytes) new (GoneRule m) rule).rule.1
sender old new port conn number bytes (step.DiskTake m) rule = absurd (at_device old m (answer.Sent port conn number bytes) new (DiskTakeRule m) rule).rule
sender old new port conn number bytes (step.PmPresence m) rule = absurd (at_both old m (answer.Sent port conn number bytes) new (PmPresenceRule m) rule).rule
sender old new port conn number bytes (step.PmFromDevice m) rule = absurd (at_both old m (answer.Sent port conn number bytes) new (PmFromDeviceRule m) rule).rule
sender old new port conn number bytes (step.PmDown m) rule = absurd (at_both old m (answer.Sent port conn number bytes) new (PmDownRule m) rule).rule
sender old new port conn number bytes other rule = absurd rule.0

-- ## Connections on which nothing is sent

same_place : (p q : Place) (o : Option Place) → o ≡ Some p → o ≡ Some q → p ≡ q
same_place p q o here there = let e : Some p ≡ Some q = sym here ∙ there in cc e

-- a unit that is plugged in is not on connection 0
plugged_some : (n : ℕ) (old : Places) (place : Place) → slice_get old.devices n ≡ Some place → place.plugged ≡ true → IsFirm n old → 0 < place.conn
plugged_some n old place is plugged f =
    let led : IsLed (Some place) (seen_at n old) = subst (λ (o : Option Place). IsLed o (seen_at n old)) is f.led in
    let there : (all (on_presence (Some place)) (seen_at n old)).0 ≡ Some place.conn =
    led.stands.0 ∙ ap (λ (b : Bool). let o : Option ℕ = (if b then Some place.conn else None) in o) plugged in
    ((whole_closed n old f).there place.conn (ap (λ (o : Option Place). (all (on_presence o) (seen_at n old)).0) is ∙ there)).0

none_sent : (n d : ℕ) (old : Places) (s : Step) (a : Answer) (new : Places) → IsFirm n old → IsUnused n d old → Rule old s (Ok a) new → sent_by n d a ≡ []
none_sent n d old s (answer.Sent port conn number bytes) new f unused rule = by_test (port == n && conn == d) refl
  where
    by_test : (b : Bool) → (port == n && conn == d) ≡ b → (if b then bytes ∷ [] else []) ≡ []
    by_test false is = refl
    by_test true is =
        let both = and_parts (port == n) (conn == d) is in
        let w : IsSender old port conn = sender old new port conn number bytes s rule in
        let at : slice_get old.devices n ≡ Some w.place = ap (slice_get old.devices) (sym (eqb-true port n both.0)) ∙ w.is in
        let conn_is : w.place.conn ≡ d = sym w.conn_is ∙ eqb-true conn d both.1 in
        elim unused [
          | inl zero ↦
              let some : 0 < w.place.conn = plugged_some n old w.place at w.plugged f in
              absurd (omega (arith, some, conn_is, zero))
          | inr later ↦
              let its : later.place ≡ w.place = same_place later.place w.place (slice_get old.devices n) later.is at in
              let same : later.place.conn ≡ w.place.conn = ap (λ (p : Place). p.conn) its in
              let less : later.place.conn < d = later.less in
              absurd (omega (arith, same, less, conn_is))
        ]
none_sent n d old s a new f unused rule = refl

unused_before : (n d : ℕ) (old : Places) (s : Step) (a : Answer) (new : Places) → Rule old s (Ok a) new → IsUnused n d new → IsUnused n d old
unused_before n d old s a new rule (inl zero) = inl zero
unused_before n d old s a new rule (inr later) =
    let w : Was n old a later.place = was n old new a later.place later.is s rule in
    let most : w.place.conn ≤ later.place.conn = w.conn in
    let less : later.place.conn < d = later.less in
    inr (record { place = w.place; is = w.is; less = omega (arith, most, less) })

run_unsent : (n d : ℕ) → n < 15 → (old : Places) (steps : List Step) (answers : List Answer) (new : Places) → IsFirm n old → Run old steps answers new
    → IsUnused n d new → (flat_map (sent_by n d) answers ≡ []) × IsUnused n d old
run_unsent n d below old [] [] new f run unused = (refl, subst (IsUnused n d) run unused)
run_unsent n d below old (s ∷ steps) (a ∷ answers) new f run unused =
    let rest = run_unsent n d below run.0 steps answers new (firm_after n below old s a run.0 run.1 f) run.2 unused in
    let before : IsUnused n d old = unused_before n d old s a run.0 run.1 rest.1 in
    let none : sent_by n d a ≡ [] = none_sent n d old s a run.0 f before run.1 in
    (ap (λ (xs : List (List ℕ)). xs ++ flat_map (sent_by n d) answers) none ∙ rest.0, before)
run_unsent n d below old [] (a ∷ answers) new f run unused = absurd run
run_unsent n d below old (s ∷ steps) [] new f run unused = absurd run

-- so nothing of it is on its way
pub none_on_way : (n d : ℕ) → n < 15 → (config : Config) (units : List Attached) → is_config config (length units) ≡ true → (steps : List Step) (answers : List Answer)
    (now : Places) → Run (new_world config units) steps answers now → IsUnused n d now → is_removed n d now ≡ false → transit n d now ≡ []
none_on_way n d below config units fits steps answers now run unused there =
    let f : IsFirm n (new_world config units) = opening_firm config units fits n in
    let device : n ≢ control_port = λ e. absurd (omega (arith, e, below)) in
    let unsent = (run_unsent n d below (new_world config units) steps answers now f run unused).0 in
    let lost : NothingLost (new_world config units) answers now = nothing_lost (new_world config units) steps answers now f.orderly run in
    (none_both (flat_map (taken_by n d) answers) (transit n d now)
    (lost.conserved n d device there ∙ ap (λ (xs : List (List ℕ)). xs ++ all_marked n (flat_map (sent_by n d) answers)) (nothing_stands Switching config units n d)
    ∙ ap (all_marked n) unsent)).1
