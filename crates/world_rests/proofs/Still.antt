-- For `still_rounds_rest`. A step that is answered as doing nothing leaves the world.
use Rattle.std.proofs.{Common.{◌≡◌, ℕ, zero, suc, true, false, List, [], ◌∷◌, length, Some, None, ap, subst, ◌∙◌}, lemmas.Bool.and_parts}
use Rattle.std.proofs.lemmas.{Bool.{false≢true, true≢false}, Option.same_Some}
use Rattle.std.specs.{Prelude.{slice_get, Ok}, List.list_all}
use Rattle.host_memory.specs.Memory.{Memory}
use Rattle.multiplier.specs.State.{PmState}
use Rattle.hba_fbs.specs.{Sending.{Gives, Nothing, Outgoing, Unreadable, outgoing}, Views.Port}
use Rattle.hba_laws.specs.Isolation.{fails_by_bus}
use Rattle.hba_driver.specs.{declared.{mode.Mode.TheVariants.Switching, request.Request.Request}, Drivers.Driver, HostTurns.Host}
use Rattle.pm_world.specs.{Places.{Place, Places, Queue, with_device, with_downward, with_host, with_multiplier, with_upward}, PortsGoOn.PortsGoOn}
use Rattle.pm_world.specs.Rules.{CameActs, CameRule, DiskSendActs, DiskSendRule, DiskTakeActs, DiskTakeRule, GoneActs, GoneRule, HostPushRule}
use Rattle.pm_world.specs.Rules.{HostTakeRule, InjectActs, InjectRule, OnDevice, OnDeviceAndMultiplier, Outcome, PmDownRule, PmFromDeviceRule}
use Rattle.pm_world.specs.Rules.{PmFromHostRule, PmPresenceRule, PmUpRule, PollRule, PutRule, Rule, Run, SubmitRule, TickRule}
use Rattle.pm_world.specs.declared.step.{Step.Step, Answer.Answer}
use Rattle.pm_world.specs.declared.step.Step.TheVariants as step
use Rattle.pm_world.specs.declared.step.Answer.TheVariants as answer
use Rattle.world_rests.specs.{Rests.{DoesNothing, IsOfRound, is_still}, Laws.StillRoundsRest}
use Rattle.world_rests.proofs.{Well.size_in, Parts.{AtBoth, AtDevice, at_both, at_device, set_same}}

-- ---- a device

came_still : (n : ℕ) (old : Place) (a : Answer) (new : Place) → is_still a ≡ true → CameActs n old a new → new ≡ old
came_still n old answer.Blocked new e acts = acts.1
came_still n old answer.Idle new e acts = absurd acts
came_still n old other new e acts = absurd (false≢true e)

gone_still : (n : ℕ) (old : Place) (a : Answer) (new : Place) → is_still a ≡ true → GoneActs n old a new → new ≡ old
gone_still n old answer.Blocked new e acts = acts.1
gone_still n old answer.Idle new e acts = absurd acts
gone_still n old other new e acts = absurd (false≢true e)

send_still : (n : ℕ) (old : Place) (a : Answer) (new : Place) → is_still a ≡ true → DiskSendActs n old a new → new ≡ old
send_still n old answer.Blocked new e acts = acts.2
send_still n old answer.Idle new e acts = acts.1
send_still n old other new e acts = absurd (false≢true e)

inject_still : (n : ℕ) (given : List ℕ) (old : Place) (a : Answer) (new : Place) → is_still a ≡ true → InjectActs n given old a new → new ≡ old
inject_still n given old answer.Blocked new e acts = acts.1
inject_still n given old answer.Idle new e acts = absurd acts
inject_still n given old other new e acts = absurd (false≢true e)

take_still : (n : ℕ) (old : Place) (a : Answer) (new : Place) → is_still a ≡ true → DiskTakeActs n old a new → new ≡ old
take_still n old answer.Blocked new e acts = absurd acts
take_still n old answer.Idle new e acts = acts.1
take_still n old other new e acts = absurd (false≢true e)

-- ---- a device and the multiplier

presence_still : (n : ℕ) (old : Place) (pm : PmState) (a : Answer) (new : Place) (after : PmState) → is_still a ≡ true → PmPresenceRule n old pm (Ok a) new after → (new ≡ old) × (after ≡ pm)
presence_still n old pm answer.Blocked new after e acts = absurd acts
presence_still n old pm answer.Idle new after e acts = (acts.1, acts.2)
presence_still n old pm other new after e acts = absurd (false≢true e)

offer_still : (n : ℕ) (old : Place) (pm : PmState) (a : Answer) (new : Place) (after : PmState) → is_still a ≡ true → PmFromDeviceRule n old pm (Ok a) new after → (new ≡ old) × (after ≡ pm)
offer_still n old pm answer.Blocked new after e acts = (acts.2, acts.3)
offer_still n old pm answer.Idle new after e acts = (acts.1, acts.2)
offer_still n old pm other new after e acts = absurd (false≢true e)

down_still : (n : ℕ) (old : Place) (pm : PmState) (a : Answer) (new : Place) (after : PmState) → is_still a ≡ true → PmDownRule n old pm (Ok a) new after → (new ≡ old) × (after ≡ pm)
down_still n old pm answer.Blocked new after e acts = (acts.1, acts.2)
down_still n old pm answer.Idle new after e acts = (acts.2, acts.3)
down_still n old pm other new after e acts = absurd (false≢true e)

-- ---- the multiplier and its links to the host

heard_still : (old : Queue) (pm : PmState) (a : Answer) (new : Queue) (after : PmState) → is_still a ≡ true → PmFromHostRule old pm (Ok a) new after → (new ≡ old) × (after ≡ pm)
heard_still old pm answer.Blocked new after e acts = (acts.1, acts.2)
heard_still old pm answer.Idle new after e acts = (acts.1, acts.2)
heard_still old pm other new after e acts = absurd (false≢true e)

up_still : (pm : PmState) (old : Queue) (a : Answer) (after : PmState) (new : Queue) → is_still a ≡ true → PmUpRule pm old (Ok a) after new → (new ≡ old) × (after ≡ pm)
up_still pm old answer.Blocked after new e acts = (acts.2, acts.1)
up_still pm old answer.Idle after new e acts = (acts.3, acts.2)
up_still pm old other after new e acts = absurd (false≢true e)

-- ---- the host

host_take_still : (old : Queue) (host : Host) (a : Answer) (new : Queue) (after : Host) → is_still a ≡ true → HostTakeRule old host (Ok a) new after → (new ≡ old) × (after ≡ host)
host_take_still old host answer.Blocked new after e acts = absurd acts
host_take_still old host answer.Idle new after e acts = (acts.1, acts.2)
host_take_still old host other new after e acts = absurd (false≢true e)

-- nothing that is asked for stops the port
abbrev GivesNoFault : Host → Type 0
GivesNoFault host = fails_by_bus (outgoing host.port host.memory) ≡ false

none_given : (o : Outgoing) (old : Port) (memory : Memory) (new : Port) → fails_by_bus o ≡ false → Gives o old memory None new → new ≡ old
none_given Nothing old memory new e gives = gives.1
none_given (Unreadable dev) old memory new e gives = absurd (true≢false e)
none_given other old memory new e gives = absurd gives

host_same : (old new : Host) → new.port ≡ old.port → new.driver ≡ old.driver → new.memory ≡ old.memory → new ≡ old
host_same old new port driver memory =
    ap (λ (p : Port). let h : Host = record { port = p; driver = new.driver; memory = new.memory } in h) port
    ∙ ap (λ (d : Driver). let h : Host = record { port = old.port; driver = d; memory = new.memory } in h) driver
    ∙ ap (λ (m : Memory). let h : Host = record { port = old.port; driver = old.driver; memory = m } in h) memory

push_still : (host : Host) (old : Queue) (a : Answer) (after : Host) (new : Queue) → GivesNoFault host → is_still a ≡ true → HostPushRule host old (Ok a) after new → (new ≡ old) × (after ≡ host)
push_still host old answer.Blocked after new spares e acts = (acts.2, acts.1)
push_still host old answer.Idle after new spares e acts =
    let p = acts.1.0 in
    (acts.2, host_same host after (none_given (outgoing host.port host.memory) host.port host.memory after.port spares p.gives) p.driver p.memory)
push_still host old other after new spares e acts = absurd (false≢true e)

tick_still : (host : Host) (a : Answer) (after : Host) → is_still a ≡ true → TickRule host (Ok a) after → after ≡ host
tick_still host answer.Blocked after e acts = absurd acts
tick_still host answer.Idle after e acts = acts.1
tick_still host other after e acts = absurd (false≢true e)

submit_still : (dev : ℕ) (request : Request) (host : Host) (a : Answer) (after : Host) → is_still a ≡ true → SubmitRule dev request host (Ok a) after → after ≡ host
submit_still dev request host answer.Blocked after e acts = absurd acts
submit_still dev request host answer.Idle after e acts = absurd acts
submit_still dev request host other after e acts = absurd (false≢true e)

poll_still : (host : Host) (a : Answer) (after : Host) → is_still a ≡ true → PollRule host (Ok a) after → after ≡ host
poll_still host answer.Blocked after e acts = absurd acts
poll_still host answer.Idle after e acts = acts.1
poll_still host other after e acts = absurd (false≢true e)

put_still : (at : ℕ) (bytes : List ℕ) (host : Host) (a : Answer) (after : Host) → is_still a ≡ true → PutRule at bytes host (Ok a) after → after ≡ host
put_still at bytes host answer.Blocked after e acts = absurd acts
put_still at bytes host answer.Idle after e acts = absurd acts
put_still at bytes host other after e acts = absurd (false≢true e)

-- ---- a world

module _ (old : Places) (a : Answer) (new : Places) where
  alone : (n : ℕ) (R : Place → Outcome → Place → Type 0) → ((place after : Place) → R place (Ok a) after → after ≡ place) → OnDevice old n (Ok a) new R → new ≡ old
  alone n R same rule =
      let d : AtDevice old n (Ok a) new R = at_device old n a new R rule in
      d.new_is ∙ ap (with_device old n) (same d.place d.after d.rule) ∙ ap (λ (ds : List Place). record old { devices = ds }) (set_same old.devices n d.place d.is)

  both : (n : ℕ) (R : Place → PmState → Outcome → Place → PmState → Type 0) → ((place after : Place) (left : PmState) → R place old.multiplier (Ok a) after left → (after ≡ place) × (left ≡ old.multiplier))
      → OnDeviceAndMultiplier old n (Ok a) new R → new ≡ old
  both n R same rule =
      let d : AtBoth old n (Ok a) new R = at_both old n a new R rule in
      let k = same d.place d.after d.left d.rule in
      d.new_is ∙ ap (λ (p : Place). with_multiplier (with_device old n p) d.left) k.0
      ∙ ap (λ (m : PmState). with_multiplier (with_device old n d.place) m) k.1
      ∙ ap (λ (ds : List Place). record old { devices = ds }) (set_same old.devices n d.place d.is)

  on_host : (R : Host → Outcome → Host → Type 0) → (R old.host (Ok a) new.host → new.host ≡ old.host) → R old.host (Ok a) new.host × (new ≡ with_host old new.host) → new ≡ old
  on_host R same rule = rule.1 ∙ ap (with_host old) (same rule.0)

still_leaves : (old : Places) (s : Step) (a : Answer) (new : Places) → GivesNoFault old.host → is_still a ≡ true → Rule old s (Ok a) new → new ≡ old
still_leaves old (step.Came n) a new spares e rule = alone old a new n (CameRule n) (λ place after r. came_still n place a after e r.1) rule
still_leaves old (step.Gone n) a new spares e rule = alone old a new n (GoneRule n) (λ place after r. gone_still n place a after e r.1) rule
still_leaves old (step.DiskSend n) a new spares e rule = alone old a new n (DiskSendRule n) (λ place after r. send_still n place a after e r.1) rule
still_leaves old (step.Inject n bytes) a new spares e rule = alone old a new n (InjectRule n bytes) (λ place after r. inject_still n bytes place a after e r.1) rule
still_leaves old (step.DiskTake n) a new spares e rule = alone old a new n (DiskTakeRule n) (λ place after r. take_still n place a after e r) rule
still_leaves old (step.PmPresence n) a new spares e rule = both old a new n (PmPresenceRule n) (λ place after left r. presence_still n place old.multiplier a after left e r) rule
still_leaves old (step.PmFromDevice n) a new spares e rule = both old a new n (PmFromDeviceRule n) (λ place after left r. offer_still n place old.multiplier a after left e r) rule
still_leaves old (step.PmDown n) a new spares e rule = both old a new n (PmDownRule n) (λ place after left r. down_still n place old.multiplier a after left e r) rule
still_leaves old step.PmFromHost a new spares e rule =
    let k = heard_still old.downward old.multiplier a new.downward new.multiplier e rule.0 in
    rule.1 ∙ ap (λ (q : Queue). with_multiplier (with_downward old q) new.multiplier) k.0 ∙ ap (with_multiplier old) k.1
still_leaves old step.PmUp a new spares e rule =
    let k = up_still old.multiplier old.upward a new.multiplier new.upward e rule.0 in
    rule.1 ∙ ap (λ (q : Queue). with_upward (with_multiplier old new.multiplier) q) k.0 ∙ ap (with_multiplier old) k.1
still_leaves old step.HostTake a new spares e rule =
    let k = host_take_still old.upward old.host a new.upward new.host e rule.0 in
    rule.1 ∙ ap (λ (q : Queue). with_host (with_upward old q) new.host) k.0 ∙ ap (with_host old) k.1
still_leaves old step.HostPush a new spares e rule =
    let k = push_still old.host old.downward a new.host new.downward spares e rule.0 in
    rule.1 ∙ ap (λ (q : Queue). with_downward (with_host old new.host) q) k.0 ∙ ap (with_host old) k.1
still_leaves old step.Tick a new spares e rule = on_host old a new TickRule (tick_still old.host a new.host e) rule
still_leaves old (step.Submit dev request) a new spares e rule = on_host old a new (SubmitRule dev request) (submit_still dev request old.host a new.host e) rule
still_leaves old step.Poll a new spares e rule = on_host old a new PollRule (poll_still old.host a new.host e) rule
still_leaves old (step.Put at bytes) a new spares e rule = on_host old a new (PutRule at bytes) (put_still at bytes old.host a new.host e) rule

-- ---- a run

-- the run left the world, and each of its steps may do nothing there
record StayedAt (old : Places) (steps : List Step) (new : Places) : Type 0 where
  same : new ≡ old
  each : (i : ℕ) (s : Step) → slice_get steps i ≡ Some s → DoesNothing old s

-- what holds of the first step and of each of the rest
each_more : (P : Step → Type 0) (s : Step) (steps : List Step) → P s → ((i : ℕ) (t : Step) → slice_get steps i ≡ Some t → P t) → (i : ℕ) (t : Step) → slice_get (s ∷ steps) i ≡ Some t → P t
each_more P s steps is rest zero t at = subst P (same_Some s t at) is
each_more P s steps is rest (suc i) t at = rest i t at

stayed : (old : Places) (steps : List Step) (answers : List Answer) (new : Places) → GivesNoFault old.host → list_all is_still answers ≡ true → Run old steps answers new → StayedAt old steps new
stayed old [] [] new spares still run = record { same = run; each = λ i s at. absurd (cc) }
stayed old (s ∷ steps) (a ∷ answers) new spares still run =
    let parts = and_parts (is_still a) (list_all is_still answers) still in
    let same : run.0 ≡ old = still_leaves old s a run.0 spares parts.0 run.1 in
    let rest : StayedAt old steps new = stayed old steps answers new spares parts.1 (subst (λ (w : Places). Run w steps answers new) same run.2) in
    record {
      same = rest.same;
      each = each_more (DoesNothing old) s steps (record { answer = a; still = parts.0; rule = subst (λ (w : Places). Rule old s (Ok a) w) same run.1 }) rest.each;
    }
stayed old [] (a ∷ answers) new spares still run = absurd run
stayed old (s ∷ steps) [] new spares still run = absurd run

pub still_rounds_rest : PortsGoOn → StillRoundsRest
still_rounds_rest goes config units fits before told old made steps answers new run still round =
    let s : StayedAt old steps new = stayed old steps answers new (goes config units fits before told old made).goes.next.gives still run in
    let size : length old.devices ≡ config.ports = size_in Switching config units fits before told old made in
    (s.same, λ t of. let i = round t (subst (λ (ports : ℕ). IsOfRound ports t) size of) in s.each i.0 t i.1)
