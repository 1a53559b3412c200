-- For `World::step`. A refusal changes nothing.
use Rattle.std.proofs.Common.{◌≡◌, ℕ, List, Option, Some, None, refl, sym, ap, subst, ◌∙◌}
use Rattle.std.specs.Prelude.{slice_get, Ok, Err, MatchOption, OnErr}
use Rattle.multiplier.specs.State.{PmState}
use Rattle.hba_driver.specs.HostTurns.{Host}
use Rattle.pm_world.specs.Places.{IsOrderly, Places, Place, Queue, with_device, with_multiplier, with_upward, with_downward, with_host}
use Rattle.pm_world.specs.Rules.{Outcome, CameRule, GoneRule, DiskSendRule, InjectRule, DiskTakeRule, PmPresenceRule, PmFromDeviceRule, PmDownRule}
use Rattle.pm_world.specs.{Rules.{PmFromHostRule, PmUpRule, HostPushRule, OnDevice, OnDeviceAndMultiplier, Rule}, declared.step.Step.Step}
use Rattle.pm_world.specs.declared.step.StepError.{StepError}
use Rattle.pm_world.specs.declared.step.Step.TheVariants as step
use Rattle.pm_world.specs.declared.step.StepError.TheVariants as error
use Rattle.pm_world.proofs.steps.{Lists.slice_set-same, Orderly.orderly_after}

on_device_same : (old : Places) (n : ℕ) (e : StepError) (new : Places) (R : Place → Outcome → Place → Type 0) → ((place after : Place) → R place (Err e) after → after ≡ place) → OnDevice old n (Err e) new R → new ≡ old
on_device_same old n e new R same h = by_cases (slice_get old.devices n) refl h
  where
    by_cases : (o : Option Place) → slice_get old.devices n ≡ o → MatchOption o ((◌≡◌ {A = Outcome} (Err e) (Err error.NoSuchPort)) × (new ≡ old)) (λ place. (after : Place) × R place (Err e) after × (new ≡ with_device old n after)) → new ≡ old
    by_cases None is h = h.1
    by_cases (Some place) is h =
        h.2 ∙ ap (with_device old n) (same place h.0 h.1)
        ∙ ap (λ (ds : List Place). let w : Places = record old { devices = ds } in w) (slice_set-same old.devices n place is)

-- a step at a port that is refused if there is no such port, and not otherwise
both_same : (old : Places) (n : ℕ) (e : StepError) (new : Places) (R : Place → PmState → Outcome → Place → PmState → Type 0)
    → ((place after : Place) (left : PmState) → R place old.multiplier (Err e) after left → ⊥) → OnDeviceAndMultiplier old n (Err e) new R → new ≡ old
both_same old n e new R never h = by_cases (slice_get old.devices n) h
  where
    by_cases : (o : Option Place) → MatchOption o ((◌≡◌ {A = Outcome} (Err e) (Err error.NoSuchPort)) × (new ≡ old)) (λ place. (after : Place) × (left : PmState) × R place old.multiplier (Err e) after left × (new ≡ with_multiplier (with_device old n after) left)) → new ≡ old
    by_cases None h = h.1
    by_cases (Some place) h = absurd (never place h.0 h.1 h.2)

heard_same : (old : Queue) (pm : PmState) (e : StepError) (new : Queue) (after : PmState) → PmFromHostRule old pm (Err e) new after → (new ≡ old) × (after ≡ pm)
heard_same old pm error.OutOfMemory new after r = (r.1, r.2)
heard_same old pm _ new after r = absurd r

up_same : (pm : PmState) (upward : Queue) (e : StepError) (after : PmState) (new : Queue) → PmUpRule pm upward (Err e) after new → (after ≡ pm) × (new ≡ upward)
up_same pm upward error.OutOfMemory after new r = (r.3, r.4)
up_same pm upward _ after new r = absurd r

push_same : (host : Host) (link : Queue) (e : StepError) (after : Host) (new : Queue) → HostPushRule host link (Err e) after new → (after ≡ host) × (new ≡ link)
push_same host link error.OutOfMemory after new r = (r.2, r.3)
push_same host link _ after new r = absurd r

pub refused : (old : Places) (s : Step) (e : StepError) (new : Places) → Rule old s (Err e) new → new ≡ old
refused old (step.Came n) e new rule = on_device_same old n e new (CameRule n) (λ place after r. r.2) rule
refused old (step.Gone n) e new rule = on_device_same old n e new (GoneRule n) (λ place after r. r.2) rule
refused old (step.DiskSend n) e new rule = on_device_same old n e new (DiskSendRule n) (λ place after r. r.2) rule
refused old (step.Inject n bytes) e new rule = on_device_same old n e new (InjectRule n bytes) (λ place after r. r.2) rule
refused old (step.DiskTake n) e new rule = on_device_same old n e new (DiskTakeRule n) (λ place after r. r.1) rule
refused old (step.PmPresence n) e new rule = both_same old n e new (PmPresenceRule n) (λ place after left r. r) rule
refused old (step.PmFromDevice n) e new rule = both_same old n e new (PmFromDeviceRule n) (λ place after left r. r) rule
refused old (step.PmDown n) e new rule = both_same old n e new (PmDownRule n) (λ place after left r. r) rule
refused old step.PmFromHost e new rule =
    let same = heard_same old.downward old.multiplier e new.downward new.multiplier rule.0 in
    rule.1 ∙ ap (λ (q : Queue). with_multiplier (with_downward old q) new.multiplier) same.0 ∙ ap (λ (m : PmState). with_multiplier old m) same.1
refused old step.PmUp e new rule =
    let same = up_same old.multiplier old.upward e new.multiplier new.upward rule.0 in
    rule.1 ∙ ap (λ (m : PmState). with_upward (with_multiplier old m) new.upward) same.0 ∙ ap (λ (q : Queue). with_upward old q) same.1
refused old step.HostPush e new rule =
    let same = push_same old.host old.downward e new.host new.downward rule.0 in
    rule.1 ∙ ap (λ (h : Host). with_downward (with_host old h) new.downward) same.0 ∙ ap (λ (q : Queue). with_downward old q) same.1
refused old (step.Put at bytes) e new rule = rule.1 ∙ ap (with_host old) rule.0.1
refused old other e new rule = absurd rule.0

pub same_where_refused : (old : Places) (s : Step) (outcome : Outcome) (new : Places) → Rule old s outcome new → OnErr outcome (new ≡ old)
same_where_refused old s (Ok a) new rule = tt
same_where_refused old s (Err e) new rule = refused old s e new rule

-- a world stays orderly, whether the step is refused or not
pub stays_orderly : (old : Places) (s : Step) (outcome : Outcome) (new : Places) → IsOrderly old → Rule old s outcome new → IsOrderly new
stays_orderly old s (Ok a) new orderly rule = orderly_after old s a new orderly rule
stays_orderly old s (Err e) new orderly rule = subst IsOrderly (sym (refused old s e new rule)) orderly
