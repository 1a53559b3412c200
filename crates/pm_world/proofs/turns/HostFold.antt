-- For the field `host` of `laws`. The steps of a world are turns of its host.
use Rattle.std.proofs.{Common.{◌≡◌, ℕ, List, [], ◌∷◌, ◌++◌, length, drop, map, Some, refl, sym, ap, subst, ◌∙◌}, Math.Seq.{drop-append_seam}}
use Rattle.std.specs.Prelude.{Ok}
use Rattle.fis_view.specs.Frames.{Stamped}
use Rattle.multiplier.specs.State.{PmState}
use Rattle.hba_driver.specs.{HostTurns.{Host, HostTurn, Pushed, DoesAll}, declared.request.Request.Request}
use Rattle.pm_world.specs.{Places.{Places, Place, Queue, opening_host_in, new_world_in}, Rules.{Outcome, Rule, Run, OnDevice, OnDeviceAndMultiplier}}
use Rattle.pm_world.specs.Rules.{CameActs, GoneActs, DiskSendActs, InjectActs, DiskTakeActs, CameRule, GoneRule, DiskSendRule, InjectRule}
use Rattle.pm_world.specs.Rules.{DiskTakeRule, PmPresenceRule, PmFromDeviceRule, PmDownRule, PmFromHostRule, PmUpRule, HostTakeRule, HostPushRule}
use Rattle.pm_world.specs.{Rules.{TickRule, SubmitRule, PollRule, PutRule}, Runs.over, Turns.{turn_of, HostIsFold}, declared.step.Step.Step}
use Rattle.pm_world.specs.declared.step.Answer.{Answer}
use Rattle.pm_world.specs.declared.step.Step.TheVariants as step
use Rattle.pm_world.specs.declared.step.Answer.TheVariants as answer
use Rattle.pm_world.proofs.steps.Steps.{at_device, at_both}

-- turns, and then turns
pub does-append : (a b c : Host) (first second : List HostTurn) → DoesAll a first b → DoesAll b second c → DoesAll a (first ++ second) c
does-append a b c [] second does more = subst (λ (h : Host). DoesAll h second c) does more
does-append a b c (turn ∷ first) second does more = (does.0, does.1, does-append does.0 b c first second does.2 more)

-- ---- steps that are no turn of the host

came_quiet : (n : ℕ) (place : Place) (a : Answer) (after : Place) (old new : Places) → CameActs n place a after → turn_of old (step.Came n) a new ≡ []
came_quiet n place answer.Blocked after old new acts = refl
came_quiet n place (answer.Came p c) after old new acts = refl
came_quiet n place _ after old new acts = absurd acts

gone_quiet : (n : ℕ) (place : Place) (a : Answer) (after : Place) (old new : Places) → GoneActs n place a after → turn_of old (step.Gone n) a new ≡ []
gone_quiet n place answer.Blocked after old new acts = refl
gone_quiet n place (answer.Gone p c) after old new acts = refl
gone_quiet n place _ after old new acts = absurd acts

send_quiet : (n : ℕ) (place : Place) (a : Answer) (after : Place) (old new : Places) → DiskSendActs n place a after → turn_of old (step.DiskSend n) a new ≡ []
send_quiet n place answer.Idle after old new acts = refl
send_quiet n place answer.Blocked after old new acts = refl
send_quiet n place (answer.Sent p c number bytes) after old new acts = refl
send_quiet n place _ after old new acts = absurd acts

inject_quiet : (n : ℕ) (given : List ℕ) (place : Place) (a : Answer) (after : Place) (old new : Places) → InjectActs n given place a after → turn_of old (step.Inject n given) a new ≡ []
inject_quiet n given place answer.Blocked after old new acts = refl
inject_quiet n given place (answer.Sent p c number bytes) after old new acts = refl
inject_quiet n given place _ after old new acts = absurd acts

disk_take_quiet : (n : ℕ) (place : Place) (a : Answer) (after : Place) (old new : Places) → DiskTakeActs n place a after → turn_of old (step.DiskTake n) a new ≡ []
disk_take_quiet n place answer.Idle after old new acts = refl
disk_take_quiet n place (answer.DiskTook p dropped) after old new acts = refl
disk_take_quiet n place _ after old new acts = absurd acts

presence_quiet : (n : ℕ) (place : Place) (pm : PmState) (a : Answer) (after : Place) (left : PmState) (old new : Places) → PmPresenceRule n place pm (Ok a) after left → turn_of old (step.PmPresence n) a new ≡ []
presence_quiet n place pm answer.Idle after left old new acts = refl
presence_quiet n place pm (answer.Presence p) after left old new acts = refl
presence_quiet n place pm _ after left old new acts = absurd acts

from_device_quiet : (n : ℕ) (place : Place) (pm : PmState) (a : Answer) (after : Place) (left : PmState) (old new : Places) → PmFromDeviceRule n place pm (Ok a) after left → turn_of old (step.PmFromDevice n) a new ≡ []
from_device_quiet n place pm answer.Idle after left old new acts = refl
from_device_quiet n place pm answer.Blocked after left old new acts = refl
from_device_quiet n place pm (answer.Offered p dropped) after left old new acts = refl
from_device_quiet n place pm _ after left old new acts = absurd acts

down_quiet : (n : ℕ) (place : Place) (pm : PmState) (a : Answer) (after : Place) (left : PmState) (old new : Places) → PmDownRule n place pm (Ok a) after left → turn_of old (step.PmDown n) a new ≡ []
down_quiet n place pm answer.Idle after left old new acts = refl
down_quiet n place pm answer.Blocked after left old new acts = refl
down_quiet n place pm (answer.Down p) after left old new acts = refl
down_quiet n place pm _ after left old new acts = absurd acts

from_host_quiet : (link : Queue) (pm : PmState) (a : Answer) (after : Queue) (left : PmState) (old new : Places) → PmFromHostRule link pm (Ok a) after left → turn_of old step.PmFromHost a new ≡ []
from_host_quiet link pm answer.Idle after left old new acts = refl
from_host_quiet link pm answer.Blocked after left old new acts = refl
from_host_quiet link pm (answer.Passed passed) after left old new acts = refl
from_host_quiet link pm _ after left old new acts = absurd acts

up_quiet : (pm : PmState) (link : Queue) (a : Answer) (left : PmState) (after : Queue) (old new : Places) → PmUpRule pm link (Ok a) left after → turn_of old step.PmUp a new ≡ []
up_quiet pm link answer.Idle left after old new acts = refl
up_quiet pm link answer.Blocked left after old new acts = refl
up_quiet pm link (answer.Up n) left after old new acts = refl
up_quiet pm link _ left after old new acts = absurd acts

-- such a step leaves the host
stays : (old : Places) (s : Step) (a : Answer) (new : Places) → turn_of old s a new ≡ [] → new.host ≡ old.host → DoesAll old.host (turn_of old s a new) new.host
stays old s a new none same = subst (λ (turns : List HostTurn). DoesAll old.host turns new.host) (sym none) same

on_device : (old : Places) (n : ℕ) (s : Step) (a : Answer) (new : Places) (R : Place → Outcome → Place → Type 0) → ((place after : Place) → R place (Ok a) after → turn_of old s a new ≡ [])
    → OnDevice old n (Ok a) new R → DoesAll old.host (turn_of old s a new) new.host
on_device old n s a new R none h =
    let p = at_device old n a new R h in
    stays old s a new (none p.place p.after p.rule) (ap (λ (w : Places). w.host) p.new_is)

on_both : (old : Places) (n : ℕ) (s : Step) (a : Answer) (new : Places) (R : Place → PmState → Outcome → Place → PmState → Type 0)
    → ((place after : Place) (left : PmState) → R place old.multiplier (Ok a) after left → turn_of old s a new ≡ [])
    → OnDeviceAndMultiplier old n (Ok a) new R → DoesAll old.host (turn_of old s a new) new.host
on_both old n s a new R none h =
    let p = at_both old n a new R h in
    stays old s a new (none p.place p.after p.left p.rule) (ap (λ (w : Places). w.host) p.new_is)

-- ---- the host's own steps

take_does : (old : Places) (a : Answer) (new : Places) → HostTakeRule old.upward old.host (Ok a) new.upward new.host → DoesAll old.host (turn_of old step.HostTake a new) new.host
take_does old answer.Idle new acts = acts.2
take_does old (answer.Took port conn number bytes report) new acts = (new.host, acts.2, refl)
take_does old _ new acts = absurd acts

-- the frame that a push put on the link
pushed_one : (old new : Places) (frame : Stamped) → new.downward.frames ≡ old.downward.frames ++ frame ∷ []
    → map (λ (f : Stamped). Pushed (Some f)) (drop (length old.downward.frames) new.downward.frames) ≡ Pushed (Some frame) ∷ []
pushed_one old new frame e =
    ap (λ (frames : List Stamped). map (λ (f : Stamped). Pushed (Some f)) (drop (length old.downward.frames) frames)) e
    ∙ ap (map (λ (f : Stamped). Pushed (Some f))) (drop-append_seam old.downward.frames (frame ∷ []))

push_does : (old : Places) (a : Answer) (new : Places) → HostPushRule old.host old.downward (Ok a) new.host new.downward → DoesAll old.host (turn_of old step.HostPush a new) new.host
push_does old answer.Idle new acts = (new.host, acts.1.0, refl)
push_does old answer.Blocked new acts = acts.1
push_does old answer.Pushed new acts =
    let one = pushed_one old new acts.1.0 (ap (λ (link : Queue). link.frames) acts.1.2) in
    subst (λ (turns : List HostTurn). DoesAll old.host turns new.host) (sym one) (new.host, acts.1.1, refl)
push_does old _ new acts = absurd acts

tick_does : (old : Places) (a : Answer) (new : Places) → TickRule old.host (Ok a) new.host → DoesAll old.host (turn_of old step.Tick a new) new.host
tick_does old answer.Idle new acts = acts.1
tick_does old answer.Ticked new acts = (new.host, acts, refl)
tick_does old _ new acts = absurd acts

submit_does : (dev : ℕ) (request : Request) (old : Places) (a : Answer) (new : Places) → SubmitRule dev request old.host (Ok a) new.host → DoesAll old.host (turn_of old (step.Submit dev request) a new) new.host
submit_does dev request old (answer.Refused e) new acts = acts.1
submit_does dev request old (answer.Submitted ticket) new acts = (new.host, acts, refl)
submit_does dev request old _ new acts = absurd acts

poll_does : (old : Places) (a : Answer) (new : Places) → PollRule old.host (Ok a) new.host → DoesAll old.host (turn_of old step.Poll a new) new.host
poll_does old answer.Idle new acts = acts.1
poll_does old (answer.Polled completion) new acts = (new.host, acts, refl)
poll_does old _ new acts = absurd acts

put_does : (at : ℕ) (bytes : List ℕ) (old : Places) (a : Answer) (new : Places) → PutRule at bytes old.host (Ok a) new.host → DoesAll old.host (turn_of old (step.Put at bytes) a new) new.host
put_does at bytes old answer.Put new acts = (new.host, acts.1, refl)
put_does at bytes old _ new acts = absurd acts

-- ---- each step, and a whole run

pub rule_does : (old : Places) (s : Step) (a : Answer) (new : Places) → Rule old s (Ok a) new → DoesAll old.host (turn_of old s a new) new.host
rule_does old (step.Came n) a new rule = on_device old n (step.Came n) a new (CameRule n) (λ place after r. came_quiet n place a after old new r.1) rule
rule_does old (step.Gone n) a new rule = on_device old n (step.Gone n) a new (GoneRule n) (λ place after r. gone_quiet n place a after old new r.1) rule
rule_does old (step.DiskSend n) a new rule = on_device old n (step.DiskSend n) a new (DiskSendRule n) (λ place after r. send_quiet n place a after old new r.1) rule
rule_does old (step.Inject n bytes) a new rule = on_device old n (step.Inject n bytes) a new (InjectRule n bytes) (λ place after r. inject_quiet n bytes place a after old new r.1) rule
rule_does old (step.DiskTake n) a new rule = on_device old n (step.DiskTake n) a new (DiskTakeRule n) (λ place after r. disk_take_quiet n place a after old new r) rule
rule_does old (step.PmPresence n) a new rule = on_both old n (step.PmPresence n) a new (PmPresenceRule n) (λ place after left r. presence_quiet n place old.multiplier a after left old new r) rule
rule_does old (step.PmFromDevice n) a new rule = on_both old n (step.PmFromDevice n) a new (PmFromDeviceRule n) (λ place after left r. from_device_quiet n place old.multiplier a after left old new r) rule
rule_does old (step.PmDown n) a new rule = on_both old n (step.PmDown n) a new (PmDownRule n) (λ place after left r. down_quiet n place old.multiplier a after left old new r) rule
rule_does old step.PmFromHost a new rule =
    stays old step.PmFromHost a new (from_host_quiet old.downward old.multiplier a new.downward new.multiplier old new rule.0) (ap (λ (w : Places). w.host) rule.1)
rule_does old step.PmUp a new rule =
    stays old step.PmUp a new (up_quiet old.multiplier old.upward a new.multiplier new.upward old new rule.0) (ap (λ (w : Places). w.host) rule.1)
rule_does old step.HostTake a new rule = take_does old a new rule.0
rule_does old step.HostPush a new rule = push_does old a new rule.0
rule_does old step.Tick a new rule = tick_does old a new rule.0
rule_does old (step.Submit dev request) a new rule = submit_does dev request old a new rule.0
rule_does old step.Poll a new rule = poll_does old a new rule.0
rule_does old (step.Put at bytes) a new rule = put_does at bytes old a new rule.0

pub run_does : (old : Places) (steps : List Step) (answers : List Answer) (new : Places) (run : Run old steps answers new) → DoesAll old.host (over turn_of old steps answers new run) new.host
run_does old [] [] new run = ap (λ (w : Places). w.host) run
run_does old (s ∷ steps) (a ∷ answers) new run =
    does-append old.host run.0.host new.host (turn_of old s a run.0) (over turn_of run.0 steps answers new run.2) (rule_does old s a run.0 run.1) (run_does run.0 steps answers new run.2)
run_does old [] (a ∷ answers) new run = absurd run
run_does old (s ∷ steps) [] new run = absurd run

pub host_is_fold : (old : Places) (steps : List Step) (answers : List Answer) (new : Places) (run : Run old steps answers new) → HostIsFold old steps answers new run
host_is_fold old steps answers new run = record {
  does = run_does old steps answers new run;
  reached = λ mode config units right before told made.
      does-append (opening_host_in mode config.memory) old.host new.host (over turn_of (new_world_in mode config units) before told old made) (over turn_of old steps answers new run)
      (run_does (new_world_in mode config units) before told old made) (run_does old steps answers new run);
}
