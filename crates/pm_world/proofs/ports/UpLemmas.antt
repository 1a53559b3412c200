-- For `connections_follow`. What a step does to the host's link, and which step an answer belongs to.
use Rattle.std.proofs.Common.{◌≡◌, ℕ, ◌<◌, ◌==◌, ◌&&◌, ◌⊎◌, Bool, true, false, List, [], ◌∷◌, ◌++◌, Ok, refl, sym, ap, subst, ◌∙◌, inl, inr}
use Rattle.std.specs.Prelude.{if◌then◌else◌}
use Rattle.std.proofs.lemmas.Bool.{eqb-true}
use Rattle.fis_view.specs.Frames.{Stamped}
use Rattle.hba_fbs.specs.declared.report.TakeReport.{TakeReport}
use Rattle.multiplier.specs.declared.multiplier.Passed.{Passed}
use Rattle.multiplier.proofs.Door.{gives}
use Rattle.pm_world.specs.{Cleared.is_up_from, Places.{IsOrderly, Places, Queue}}
use Rattle.pm_world.specs.Rules.{CameRule, DiskSendRule, DiskTakeRule, GoneRule, InjectRule, PmDownRule, PmFromDeviceRule, PmPresenceRule, Rule}
use Rattle.pm_world.specs.{declared.{step.Step.Step, step.Answer.Answer}, Stale.{identified_by, orders_clear}}
use Rattle.pm_world.specs.declared.step.Step.TheVariants as step
use Rattle.pm_world.specs.declared.step.Answer.TheVariants as answer
use Rattle.pm_world.proofs.{upward.FrameMoves.rule_moves, steps.Steps.{at_both, at_device}, ports.KeepingLemmas.{IsPassed, given_passed}}
use Rattle.hba_driver.specs.Known.{is_identity}

-- ## The steps of some answers

-- a frame goes up in the step that serves for it
pub up_step : (old : Places) (s : Step) (port : ℕ) (new : Places) → Rule old s (Ok (answer.Up port)) new → s ≡ step.PmUp
up_step old (step.Came n) port new rule = absurd ((at_device old n (answer.Up port) new (CameRule n) rule).rule.1)
up_step old (step.Gone n) port new rule = absurd ((at_device old n (answer.Up port) new (GoneRule n) rule).rule.1)
up_step old (step.DiskSend n) port new rule = absurd ((at_device old n (answer.Up port) new (DiskSendRule n) rule).rule.1)
up_step old (step.Inject n bytes) port new rule = absurd ((at_device old n (answer.Up port) new (InjectRule n bytes) rule).rule.1)
up_step old (step.DiskTake n) port new rule = absurd ((at_device old n (answer.Up port) new (DiskTakeRule n) rule).rule)
up_step old (step.PmPresence n) port new rule = absurd ((at_both old n (answer.Up port) new (PmPresenceRule n) rule).rule)
up_step old (step.PmFromDevice n) port new rule = absurd ((at_both old n (answer.Up port) new (PmFromDeviceRule n) rule).rule)
up_step old (step.PmDown n) port new rule = absurd ((at_both old n (answer.Up port) new (PmDownRule n) rule).rule)
up_step old step.PmUp port new rule = refl
up_step old other port new rule = absurd (rule.0)

-- and a frame goes down in the step that serves for it
pub passed_step : (old : Places) (s : Step) (p : Passed) (new : Places) → Rule old s (Ok (answer.Passed p)) new → s ≡ step.PmFromHost
passed_step old (step.Came n) p new rule = absurd ((at_device old n (answer.Passed p) new (CameRule n) rule).rule.1)
passed_step old (step.Gone n) p new rule = absurd ((at_device old n (answer.Passed p) new (GoneRule n) rule).rule.1)
passed_step old (step.DiskSend n) p new rule = absurd ((at_device old n (answer.Passed p) new (DiskSendRule n) rule).rule.1)
passed_step old (step.Inject n bytes) p new rule = absurd ((at_device old n (answer.Passed p) new (InjectRule n bytes) rule).rule.1)
passed_step old (step.DiskTake n) p new rule = absurd ((at_device old n (answer.Passed p) new (DiskTakeRule n) rule).rule)
passed_step old (step.PmPresence n) p new rule = absurd ((at_both old n (answer.Passed p) new (PmPresenceRule n) rule).rule)
passed_step old (step.PmFromDevice n) p new rule = absurd ((at_both old n (answer.Passed p) new (PmFromDeviceRule n) rule).rule)
passed_step old (step.PmDown n) p new rule = absurd ((at_both old n (answer.Passed p) new (PmDownRule n) rule).rule)
passed_step old step.PmFromHost p new rule = refl
passed_step old other p new rule = absurd (rule.0)

-- the step in which a device takes a FIS
pub record IsTake (old : Places) (s : Step) (port : ℕ) (dropped : Bool) (new : Places) : Type 0 where
  pub at : ℕ
  pub is : s ≡ step.DiskTake at

pub took_step : (old : Places) (s : Step) (port : ℕ) (dropped : Bool) (new : Places) → Rule old s (Ok (answer.DiskTook port dropped)) new → IsTake old s port dropped new
took_step old (step.Came n) port d new rule = absurd ((at_device old n (answer.DiskTook port d) new (CameRule n) rule).rule.1)
took_step old (step.Gone n) port d new rule = absurd ((at_device old n (answer.DiskTook port d) new (GoneRule n) rule).rule.1)
took_step old (step.DiskSend n) port d new rule = absurd ((at_device old n (answer.DiskTook port d) new (DiskSendRule n) rule).rule.1)
took_step old (step.Inject n bytes) port d new rule = absurd ((at_device old n (answer.DiskTook port d) new (InjectRule n bytes) rule).rule.1)
took_step old (step.DiskTake n) port d new rule = record { at = n; is = refl }
took_step old (step.PmPresence n) port d new rule = absurd ((at_both old n (answer.DiskTook port d) new (PmPresenceRule n) rule).rule)
took_step old (step.PmFromDevice n) port d new rule = absurd ((at_both old n (answer.DiskTook port d) new (PmFromDeviceRule n) rule).rule)
took_step old (step.PmDown n) port d new rule = absurd ((at_both old n (answer.DiskTook port d) new (PmDownRule n) rule).rule)
took_step old other port d new rule = absurd (rule.0)

-- ## The host's link

-- what was identified by the first frame of the link
pub record Identifies (n : ℕ) (f : Stamped) (ids : List ℕ) : Type 0 where
  pub is : (ids ≡ []) ⊎ ((ids ≡ f.stamp.conn ∷ []) × (f.stamp.port ≡ n))

-- nothing moves on the link; or a frame enters it, which passed its port if it is of port n; or the
-- first frame is taken
pub data UpChange (n : ℕ) (old : Places) (s : Step) (a : Answer) (new : Places) : Type 0 where
  Same : new.upward.frames ≡ old.upward.frames → identified_by n old s a new ≡ [] → UpChange n old s a new
  Rose : (f : Stamped) → new.upward.frames ≡ old.upward.frames ++ f ∷ [] → identified_by n old s a new ≡ []
      → (f.stamp.port ≡ n → IsPassed n old.multiplier f) → (is_up_from n s a ≡ false → (f.stamp.port == n) ≡ false) → orders_clear n old a ≡ false → UpChange n old s a new
  Left : (f : Stamped) → old.upward.frames ≡ f ∷ new.upward.frames → Identifies n f (identified_by n old s a new) → orders_clear n old a ≡ false → UpChange n old s a new

module _ (n : ℕ) (old : Places) (new : Places) (below : n < 15) (orderly : IsOrderly old) where
  rose : (port : ℕ) → Rule old step.PmUp (Ok (answer.Up port)) new → UpChange n old step.PmUp (answer.Up port) new
  rose port rule =
      let acts = rule.0 in
      let f : Stamped = acts.1.0 in
      Rose f (ap (λ (q : Queue). q.frames) acts.1.3) refl
      (λ here. given_passed n old.multiplier f new.multiplier below orderly.answer here (gives old.multiplier f new.multiplier acts.1.2))
      (λ none. ap (λ (k : ℕ). k == n) acts.1.1 ∙ none) refl

  took : (s : Step) (port conn number : ℕ) (bytes : List ℕ) (report : TakeReport) → Rule old s (Ok (answer.Took port conn number bytes report)) new → UpChange n old s (answer.Took port conn number bytes report) new
  took s port conn number bytes report rule =
      let m = rule_moves old s (answer.Took port conn number bytes report) new orderly rule in
      Left m.0 m.2.upward (record { is = by_test m.0 (port == n) refl m.1.port_is m.1.conn_is }) refl
    where
      test : Bool
      test = is_identity old.host.port report.wrote

      by_both : (b : Bool) (f : Stamped) → port ≡ n → f.stamp.port ≡ port → f.stamp.conn ≡ conn
          → ((if true && b then conn ∷ [] else []) ≡ []) ⊎ (((if true && b then conn ∷ [] else []) ≡ f.stamp.conn ∷ []) × (f.stamp.port ≡ n))
      by_both true f is port_is conn_is = inr (ap (λ (c : ℕ). c ∷ []) (sym conn_is), port_is ∙ is)
      by_both false f is port_is conn_is = inl refl

      by_test : (f : Stamped) (b : Bool) → (port == n) ≡ b → f.stamp.port ≡ port → f.stamp.conn ≡ conn
          → ((if b && test then conn ∷ [] else []) ≡ []) ⊎ (((if b && test then conn ∷ [] else []) ≡ f.stamp.conn ∷ []) × (f.stamp.port ≡ n))
      by_test f true is port_is conn_is = by_both test f (eqb-true port n is) port_is conn_is
      by_test f false is port_is conn_is = inl refl

  pub up_change : (s : Step) (a : Answer) → Rule old s (Ok a) new → UpChange n old s a new
  up_change s (answer.Up port) rule =
      let e : s ≡ step.PmUp = up_step old s port new rule in
      subst (λ (t : Step). UpChange n old t (answer.Up port) new) (sym e) (rose port (subst (λ (t : Step). Rule old t (Ok (answer.Up port)) new) e rule))
  up_change s (answer.Took port conn number bytes report) rule = took s port conn number bytes report rule
  up_change s (answer.Sent port conn number bytes) rule = Same (rule_moves old s (answer.Sent port conn number bytes) new orderly rule).2.upward refl
  up_change s a rule = Same (rule_moves old s a new orderly rule).upward refl
