-- For `World::run`. The first refusal of a step is never lack of memory, and it is the refusal that the step gives.
use Rattle.std.proofs.{Common.{◌≡◌, ℕ, ◌+◌, List, Bool, true, false, Option, Some, None, refl, sym, subst}, lemmas.Option.same_Some}
use Rattle.std.specs.{Prelude.{slice_get, Ok, Err, MatchOption, unwrap_or, if◌then◌else◌, not, ◌==◌, ◌||◌, nat_lt, length}, Option.option_map_or}
use Rattle.fis_view.specs.Frames.{is_frame}
use Rattle.host_memory.specs.Memory.{client_start}
use Rattle.multiplier.specs.State.{PmState}
use Rattle.hba_driver.specs.{HostTurns.Host, Requests.in_use, Submits.end_of}
use Rattle.pm_world.specs.{Places.{Places, Place, Queue, with_device, with_multiplier}, Rules.{Outcome, Refuses, came_refusal, gone_refusal}}
use Rattle.pm_world.specs.Rules.{send_refusal, inject_refusal, no_refusal, port_refusal, put_refusal, refusal, largest, CameRule, GoneRule}
use Rattle.pm_world.specs.Rules.{DiskSendRule, InjectRule, DiskTakeRule, TakeWants, PmPresenceRule, PmFromDeviceRule, PmDownRule, PmFromHostRule}
use Rattle.pm_world.specs.{Rules.{PmUpRule, HostPushRule, OnDevice, OnDeviceAndMultiplier, Rule}, declared.step.{Step.Step, StepError.StepError}}
use Rattle.pm_world.specs.declared.step.Step.TheVariants as step
use Rattle.pm_world.specs.declared.step.StepError.TheVariants as error

-- a refusal, if there is one, is named: it is not lack of memory
abbrev pub IsNamed : Option StepError → Type 0
IsNamed None = Unit {0}
IsNamed (Some error.OutOfMemory) = ⊥
IsNamed (Some e) = Unit {0}

pub refuses_named : (first : Option StepError) (e : StepError) → IsNamed first → first ≡ Some e → Refuses first e
refuses_named None e named is = cc
refuses_named (Some error.OutOfMemory) e named is = absurd named
refuses_named (Some other) e named is = subst (λ (v : StepError). Refuses (Some other) v) (same_Some other e is) refl

-- lack of memory is the error if no refusal applies
pub refuses_or_wants : (first : Option StepError) → IsNamed first → Refuses first (unwrap_or first error.OutOfMemory)
refuses_or_wants (Some error.OutOfMemory) named = absurd named
refuses_or_wants other named = refl

-- either of two, by a test
by_test : (b : Bool) (x y : Option StepError) → IsNamed x → IsNamed y → IsNamed (if b then x else y)
by_test true x y hx hy = hx
by_test false x y hx hy = hy

came_named : (place : Place) → IsNamed (came_refusal place)
came_named place = by_test place.plugged (Some error.AlreadyThere) (if place.conn == largest then Some error.Spent else None) tt (by_test (place.conn == largest) (Some error.Spent) None tt tt)

gone_named : (place : Place) → IsNamed (gone_refusal place)
gone_named place = by_test place.plugged None (Some error.NotThere) tt tt

send_named : (place : Place) → IsNamed (send_refusal place)
send_named place = by_test (place.number == largest) (Some error.Spent) None tt tt

inject_named : (bytes : List ℕ) (place : Place) → IsNamed (inject_refusal bytes place)
inject_named bytes place =
    by_test (not place.plugged) (Some error.NotThere) (if not (is_frame bytes) then Some error.BadBytes else send_refusal place) tt
    (by_test (not (is_frame bytes)) (Some error.BadBytes) (send_refusal place) tt (send_named place))

port_named : (o : Option Place) (first : Place → Option StepError) → ((place : Place) → IsNamed (first place)) → IsNamed (option_map_or first o (Some error.NoSuchPort))
port_named None first named = tt
port_named (Some place) first named = named place

put_named : (host : Host) (at len : ℕ) → IsNamed (put_refusal host at len)
put_named host at len =
    by_test (nat_lt at client_start || nat_lt (end_of host.memory) (at + len)) (Some error.Outside) (if in_use host.driver at len then Some error.InUse else None) tt
    (by_test (in_use host.driver at len) (Some error.InUse) None tt tt)

pub refusal_named : (now : Places) (s : Step) → IsNamed (refusal now s)
refusal_named now (step.Came n) = port_named (slice_get now.devices n) came_refusal came_named
refusal_named now (step.Gone n) = port_named (slice_get now.devices n) gone_refusal gone_named
refusal_named now (step.DiskSend n) = port_named (slice_get now.devices n) send_refusal send_named
refusal_named now (step.Inject n bytes) = port_named (slice_get now.devices n) (inject_refusal bytes) (inject_named bytes)
refusal_named now (step.DiskTake n) = port_named (slice_get now.devices n) no_refusal (λ place. tt)
refusal_named now (step.PmPresence n) = port_named (slice_get now.devices n) no_refusal (λ place. tt)
refusal_named now (step.PmFromDevice n) = port_named (slice_get now.devices n) no_refusal (λ place. tt)
refusal_named now (step.PmDown n) = port_named (slice_get now.devices n) no_refusal (λ place. tt)
refusal_named now (step.Put at bytes) = put_named now.host at (length bytes)
refusal_named now other = tt

-- an error of a step at a port is its first refusal
on_device_refuses : (old : Places) (n : ℕ) (e : StepError) (new : Places) (R : Place → Outcome → Place → Type 0) (first : Place → Option StepError) → ((place after : Place) → R place (Err e) after → Refuses (first place) e) → OnDevice old n (Err e) new R → Refuses (port_refusal old n first) e
on_device_refuses old n e new R first refuses h = by_cases (slice_get old.devices n) h
  where
    at : StepError → Outcome → Type 0
    at v (Err w) = Refuses (Some v) w
    at v (Ok a) = Unit {0}

    by_cases : (o : Option Place) → MatchOption o ((◌≡◌ {A = Outcome} (Err e) (Err error.NoSuchPort)) × (new ≡ old)) (λ place. (after : Place) × R place (Err e) after × (new ≡ with_device old n after)) → Refuses (option_map_or first o (Some error.NoSuchPort)) e
    by_cases None h = subst (λ (w : Outcome). at error.NoSuchPort w) (sym h.0) refl
    by_cases (Some place) h = refuses place h.0 h.1

-- a step at a port that is refused if there is no such port, and not otherwise
both_refuses : (old : Places) (n : ℕ) (e : StepError) (new : Places) (R : Place → PmState → Outcome → Place → PmState → Type 0)
    → ((place after : Place) (left : PmState) → R place old.multiplier (Err e) after left → ⊥) → OnDeviceAndMultiplier old n (Err e) new R → Refuses (port_refusal old n no_refusal) e
both_refuses old n e new R never h = by_cases (slice_get old.devices n) h
  where
    at : StepError → Outcome → Type 0
    at v (Err w) = Refuses (Some v) w
    at v (Ok a) = Unit {0}

    by_cases : (o : Option Place) → MatchOption o ((◌≡◌ {A = Outcome} (Err e) (Err error.NoSuchPort)) × (new ≡ old)) (λ place. (after : Place) × (left : PmState) × R place old.multiplier (Err e) after left × (new ≡ with_multiplier (with_device old n after) left)) → Refuses (option_map_or no_refusal o (Some error.NoSuchPort)) e
    by_cases None h = subst (λ (w : Outcome). at error.NoSuchPort w) (sym h.0) refl
    by_cases (Some place) h = absurd (never place h.0 h.1 h.2)

-- a step that has no refusal of its own gives only lack of memory
take_wants : (place : Place) (e : StepError) → TakeWants place e → Refuses None e
take_wants place error.OutOfMemory wants = refl
take_wants place _ wants = absurd wants

heard_wants : (old : Queue) (pm : PmState) (e : StepError) (new : Queue) (after : PmState) → PmFromHostRule old pm (Err e) new after → Refuses None e
heard_wants old pm error.OutOfMemory new after r = refl
heard_wants old pm _ new after r = absurd r

up_wants : (pm : PmState) (upward : Queue) (e : StepError) (after : PmState) (new : Queue) → PmUpRule pm upward (Err e) after new → Refuses None e
up_wants pm upward error.OutOfMemory after new r = refl
up_wants pm upward _ after new r = absurd r

push_wants : (host : Host) (link : Queue) (e : StepError) (after : Host) (new : Queue) → HostPushRule host link (Err e) after new → Refuses None e
push_wants host link error.OutOfMemory after new r = refl
push_wants host link _ after new r = absurd r

-- the error that a step gives is its first refusal, or lack of memory if none applies
pub rule_refuses : (old : Places) (s : Step) (e : StepError) (new : Places) → Rule old s (Err e) new → Refuses (refusal old s) e
rule_refuses old (step.Came n) e new rule = on_device_refuses old n e new (CameRule n) came_refusal (λ place after r. r.0) rule
rule_refuses old (step.Gone n) e new rule = on_device_refuses old n e new (GoneRule n) gone_refusal (λ place after r. r.0) rule
rule_refuses old (step.DiskSend n) e new rule = on_device_refuses old n e new (DiskSendRule n) send_refusal (λ place after r. r.0) rule
rule_refuses old (step.Inject n bytes) e new rule = on_device_refuses old n e new (InjectRule n bytes) (inject_refusal bytes) (λ place after r. r.0) rule
rule_refuses old (step.DiskTake n) e new rule = on_device_refuses old n e new (DiskTakeRule n) no_refusal (λ place after r. take_wants place e r.0) rule
rule_refuses old (step.PmPresence n) e new rule = both_refuses old n e new (PmPresenceRule n) (λ place after left r. r) rule
rule_refuses old (step.PmFromDevice n) e new rule = both_refuses old n e new (PmFromDeviceRule n) (λ place after left r. r) rule
rule_refuses old (step.PmDown n) e new rule = both_refuses old n e new (PmDownRule n) (λ place after left r. r) rule
rule_refuses old step.PmFromHost e new rule = heard_wants old.downward old.multiplier e new.downward new.multiplier rule.0
rule_refuses old step.PmUp e new rule = up_wants old.multiplier old.upward e new.multiplier new.upward rule.0
rule_refuses old step.HostPush e new rule = push_wants old.host old.downward e new.host new.downward rule.0
rule_refuses old (step.Put at bytes) e new rule = refuses_named (put_refusal old.host at (length bytes)) e (put_named old.host at (length bytes)) rule.0.0
rule_refuses old other e new rule = absurd rule.0
