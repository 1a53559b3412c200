-- For `rested_have_done`. What holds of every world that a run from a new one leads to: each link has room for a frame, the
-- multiplier has as many ports as there are devices, and the host is sound.
use Rattle.std.proofs.Common.{◌≡◌, ℕ, zero, suc, ◌<◌, ◌≤◌, ◌==◌, Bool, true, false, List, [], ◌∷◌, length, map, Option, Some, None, refl, sym, ap}
use Rattle.std.proofs.{Common.{subst, ◌∙◌, arith, rules}, lemmas.{Bool.{eqb-true, leb-true}, Option.same_Some, List.{length-set, length-map}}}
use Rattle.std.specs.Prelude.{slice_get, is_none, is_some, nat_le, if◌then◌else◌, Ok, MatchOption, MatchBool, ◌&&◌, ◌%◌, bit_and}
use Rattle.fis_view.specs.Frames.{Stamped}
use Rattle.host_memory.specs.Memory.{is_memory_size, zeroed}
use Rattle.pm_registers.specs.RegisterMap.{RegisterMap, control_written, port_at as registers_at, register_at, settled, summary, with_port, written}
use Rattle.pm_registers.specs.Port.{port_written}
use Rattle.pm_control.specs.{Answers.registers_after_request, Requests.request_in, declared.request.Request.{Request, TheVariants.Write}}
use Rattle.pm_ports.specs.Port.{came_refusal as port_came_refusal, gone_refusal as port_gone_refusal}
use Rattle.multiplier.specs.{Arbiter.control_port, Between.{Answer as Answers, FromPort, Gives, Notice}, State.{PmState, next_place, passes_to}}
use Rattle.multiplier.specs.{State.{pm_port, port_at, ready}, Rules.{FromHostRule, ToControl, ToDevice, ToNobody, ToPort, with_device as connected}}
use Rattle.multiplier.specs.{Rules.without_device, declared.multiplier.Passed.Passed}
use Rattle.multiplier.specs.declared.multiplier.Passed.TheVariants as passed
use Rattle.multiplier.proofs.Door.{gives, served_below}
use Rattle.hba_driver.specs.{declared.mode.Mode.Mode, Events.IsSoundHostIn, HostTurns.{Does, Host, HostTurn, Polled, Pushed, Put, Submitted, Ticked}}
use Rattle.hba_driver.specs.{HostTurns.Took, declared.request.Request.Request as Asked}
use Rattle.hba_driver.proofs.Door.{hosts_stay_sound, sound_turn, zeroed_right}
use Rattle.pm_world.specs.{Attached.Attached, Places.{Place, Places, Queue, is_config, new_world_in, opening, with_device, with_downward, with_host}}
use Rattle.pm_world.specs.{Places.{with_multiplier, with_upward}, Rules.{CameActs, CameRule, DiskSendActs, DiskSendRule, DiskTakeActs, DiskTakeRule}}
use Rattle.pm_world.specs.Rules.{GoneActs, GoneRule, HostPushRule, HostTakeRule, InjectActs, InjectRule, OnDevice, OnDeviceAndMultiplier, Outcome}
use Rattle.pm_world.specs.Rules.{PmDownRule, PmFromDeviceRule, PmFromHostRule, PmPresenceRule, PmUpRule, PollRule, PutRule, Rule, Run, SubmitRule}
use Rattle.pm_world.specs.{Rules.{TickRule, recorded}, Runs.IsReached, declared.{link.Change.Change, step.{Config.Config, Step.Step, Answer.Answer}}}
use Rattle.pm_world.specs.declared.link.Change.TheVariants as change
use Rattle.pm_world.specs.declared.step.Step.TheVariants as step
use Rattle.pm_world.specs.declared.step.Answer.TheVariants as answer
use Rattle.world_rests.proofs.Parts.{AtBoth, AtDevice, at_both, at_device, set_keeps}

-- ---- a place of a device

-- its links to and from the multiplier can hold a frame
abbrev pub HasSome : Place → Type 0
HasSome place = (0 < place.up.capacity) × (0 < place.down.capacity)

abbrev KeepsRoom : Place → Place → Type 0
KeepsRoom old new = (new.up.capacity ≡ old.up.capacity) × (new.down.capacity ≡ old.down.capacity)

has_some : (old new : Place) → KeepsRoom old new → HasSome old → HasSome new
has_some old new keeps has =
    let up : 0 < old.up.capacity = has.0 in
    let down : 0 < old.down.capacity = has.1 in
    let up_is : new.up.capacity ≡ old.up.capacity = keeps.0 in
    let down_is : new.down.capacity ≡ old.down.capacity = keeps.1 in
    (omega (arith, up, up_is), omega (arith, down, down_is))

as_room : (old new left : Place) → new ≡ left → KeepsRoom old left → KeepsRoom old new
as_room old new left e keeps = subst (KeepsRoom old) (sym e) keeps

same_room : (old new : Place) → new ≡ old → KeepsRoom old new
same_room old new e = as_room old new old e (refl, refl)

came_room : (n : ℕ) (old : Place) (a : Answer) (new : Place) → CameActs n old a new → KeepsRoom old new
came_room n old answer.Blocked new acts = same_room old new acts.1
came_room n old (answer.Came p conn) new acts = as_room old new _ acts.3 (refl, refl)
came_room n old _ new acts = absurd acts

gone_room : (n : ℕ) (old : Place) (a : Answer) (new : Place) → GoneActs n old a new → KeepsRoom old new
gone_room n old answer.Blocked new acts = same_room old new acts.1
gone_room n old (answer.Gone p conn) new acts = as_room old new _ acts.2 (refl, refl)
gone_room n old _ new acts = absurd acts

send_room : (n : ℕ) (old : Place) (a : Answer) (new : Place) → DiskSendActs n old a new → KeepsRoom old new
send_room n old answer.Idle new acts = same_room old new acts.1
send_room n old answer.Blocked new acts = same_room old new acts.2
send_room n old (answer.Sent p conn number bytes) new acts = as_room old new _ acts.5 (refl, refl)
send_room n old _ new acts = absurd acts

inject_room : (n : ℕ) (given : List ℕ) (old : Place) (a : Answer) (new : Place) → InjectActs n given old a new → KeepsRoom old new
inject_room n given old answer.Blocked new acts = same_room old new acts.1
inject_room n given old (answer.Sent p conn number bytes) new acts = as_room old new _ acts.5 (refl, refl)
inject_room n given old _ new acts = absurd acts

take_room : (n : ℕ) (old : Place) (a : Answer) (new : Place) → DiskTakeActs n old a new → KeepsRoom old new
take_room n old answer.Idle new acts = same_room old new acts.1
take_room n old (answer.DiskTook p dropped) new acts = as_room old new _ acts.2 (refl, refl)
take_room n old _ new acts = absurd acts

-- ---- the multiplier

-- as many ports, and the place that was served last is one of the circle
abbrev KeepsPorts : PmState → PmState → Type 0
KeepsPorts old new = (new.registers.ports ≡ old.registers.ports) × (old.served ≤ 15 → new.served ≤ 15)

as_ports : (old new left : PmState) → new ≡ left → KeepsPorts old left → KeepsPorts old new
as_ports old new left e keeps = subst (KeepsPorts old) (sym e) keeps

same_ports : (old new : PmState) → new ≡ old → KeepsPorts old new
same_ports old new e = as_ports old new old e (refl, λ low. low)

recorded_ports : (pm : PmState) (n : ℕ) (c : Change) → KeepsPorts pm (recorded pm n c)
recorded_ports pm n (change.Came conn) = by_test (is_none (port_came_refusal (port_at pm n) conn))
  where
    by_test : (b : Bool) → KeepsPorts pm (if b then connected pm n conn else pm)
    by_test true = (refl, λ low. low)
    by_test false = (refl, λ low. low)
recorded_ports pm n (change.Gone conn) = by_test (is_none (port_gone_refusal (port_at pm n) conn))
  where
    by_test : (b : Bool) → KeepsPorts pm (if b then without_device pm n conn else pm)
    by_test true = (refl, λ low. low)
    by_test false = (refl, λ low. low)

abbrev KeepsBoth : Place → PmState → Place → PmState → Type 0
KeepsBoth old pm new after = KeepsRoom old new × KeepsPorts pm after

presence_keeps : (n : ℕ) (old : Place) (pm : PmState) (a : Answer) (new : Place) (after : PmState) → PmPresenceRule n old pm (Ok a) new after → KeepsBoth old pm new after
presence_keeps n old pm answer.Idle new after acts = (same_room old new acts.1, same_ports pm after acts.2)
presence_keeps n old pm (answer.Presence p) new after acts = (as_room old new _ acts.1 (refl, refl), as_ports pm after _ acts.2.2 (recorded_ports pm n acts.2.0))
presence_keeps n old pm _ new after acts = absurd acts

offer_keeps : (n : ℕ) (old : Place) (pm : PmState) (a : Answer) (new : Place) (after : PmState) → PmFromDeviceRule n old pm (Ok a) new after → KeepsBoth old pm new after
offer_keeps n old pm answer.Idle new after acts = (same_room old new acts.1, same_ports pm after acts.2)
offer_keeps n old pm answer.Blocked new after acts = (same_room old new acts.2, same_ports pm after acts.3)
offer_keeps n old pm (answer.Offered p true) new after acts = (as_room old new _ acts.1 (refl, refl), same_ports pm after acts.2.2.1)
offer_keeps n old pm (answer.Offered p false) new after acts = (as_room old new _ acts.1 (refl, refl), as_ports pm after _ acts.2.2.2 (refl, λ low. low))
offer_keeps n old pm _ new after acts = absurd acts

down_keeps : (n : ℕ) (old : Place) (pm : PmState) (a : Answer) (new : Place) (after : PmState) → PmDownRule n old pm (Ok a) new after → KeepsBoth old pm new after
down_keeps n old pm answer.Idle new after acts = (same_room old new acts.2, same_ports pm after acts.3)
down_keeps n old pm answer.Blocked new after acts = (same_room old new acts.1, same_ports pm after acts.2)
down_keeps n old pm (answer.Down p) new after acts = (as_room old new _ acts.2.2 (refl, refl), as_ports pm after _ acts.2.1.1 (refl, λ low. low))
down_keeps n old pm _ new after acts = absurd acts

-- a FIS of the host
control_written_ports : (m : RegisterMap) (value : ℕ) (mask enabled : Bool) → (if mask then record m { mask = value } else if enabled then record m { enabled = bit_and value 8 } else m).ports ≡ m.ports
control_written_ports m value true enabled = refl
control_written_ports m value false true = refl
control_written_ports m value false false = refl

written_ports : (m : RegisterMap) (port register value : ℕ) → (written m port register value).ports ≡ m.ports
written_ports m port register value = by_test (port == 15)
  where
    by_test : (b : Bool) → (if b then control_written m register value else with_port m port (port_written (registers_at m port) register value)).ports ≡ m.ports
    by_test true = control_written_ports m value (register == 33) (register == 96)
    by_test false = refl

asked_ports : (m : RegisterMap) (o : Option Request) → (registers_after_request m o).ports ≡ m.ports
asked_ports m None = refl
asked_ports m (Some (Write at value)) = by_test (is_some (register_at m at.port at.register))
  where
    by_test : (b : Bool) → (if b then settled (summary m) (written m at.port at.register value) else m).ports ≡ m.ports
    by_test true = written_ports m at.port at.register value
    by_test false = refl
asked_ports m (Some other) = refl

control_ports : (pm : PmState) (frame : Stamped) (p : Passed) (after : PmState) → ToControl pm frame (Ok p) after → KeepsPorts pm after
control_ports pm frame passed.Control after acts = as_ports pm after _ acts.2 (asked_ports pm.registers (request_in frame.bytes), λ low. low)
control_ports pm frame _ after acts = absurd acts

device_ports : (pm : PmState) (frame : Stamped) (o : Option ℕ) (p : Passed) (after : PmState) → MatchOption o (ToNobody pm (Ok p) after) (λ conn. ToDevice pm (pm_port frame) conn frame (Ok p) after) → KeepsPorts pm after
device_ports pm frame None passed.Dropped after acts = as_ports pm after _ acts (refl, λ low. low)
device_ports pm frame (Some conn) (passed.Down m) after acts = as_ports pm after _ acts.2 (refl, λ low. low)
device_ports pm frame other _ after acts = absurd acts

passed_ports : (pm : PmState) (frame : Stamped) (p : Passed) (after : PmState) → FromHostRule pm frame (Ok p) after → KeepsPorts pm after
passed_ports pm frame p after rule = by_test (pm_port frame == control_port) rule
  where
    by_test : (b : Bool) → MatchBool b (ToControl pm frame (Ok p) after) (ToPort pm frame (Ok p) after) → KeepsPorts pm after
    by_test true acts = control_ports pm frame p after acts
    by_test false acts = device_ports pm frame (passes_to pm (pm_port frame)) p after acts

heard_keeps : (old : Queue) (pm : PmState) (a : Answer) (new : Queue) (after : PmState) → PmFromHostRule old pm (Ok a) new after → (new.capacity ≡ old.capacity) × KeepsPorts pm after
heard_keeps old pm answer.Idle new after acts = (ap (λ (q : Queue). q.capacity) acts.1, same_ports pm after acts.2)
heard_keeps old pm answer.Blocked new after acts = (ap (λ (q : Queue). q.capacity) acts.1, same_ports pm after acts.2)
heard_keeps old pm (answer.Passed p) new after acts = (acts.1, passed_ports pm acts.0.0 p after acts.0.2)
heard_keeps old pm _ new after acts = absurd acts

-- a FIS for the host
next_low : (pm : PmState) (n : ℕ) → next_place pm ≡ Some n → pm.served ≤ 15 → n ≤ 15
next_low pm n at low = let below : n < 16 = served_below (ready pm) pm.served n low at in omega (arith, below)

given_ports : (pm : PmState) (frame : Stamped) (after : PmState) → Gives pm frame after → KeepsPorts pm after
given_ports pm frame after (FromPort n was at other is stamp shown e) = as_ports pm after _ e (refl, λ low. next_low pm n at low)
given_ports pm frame after (Notice at due is e) = as_ports pm after _ e (refl, λ low. omega arith)
given_ports pm frame after (Answers at is e) = as_ports pm after _ e (refl, λ low. omega arith)

up_keeps : (pm : PmState) (old : Queue) (a : Answer) (after : PmState) (new : Queue) → PmUpRule pm old (Ok a) after new → (new.capacity ≡ old.capacity) × KeepsPorts pm after
up_keeps pm old answer.Idle after new acts = (ap (λ (q : Queue). q.capacity) acts.3, same_ports pm after acts.2)
up_keeps pm old answer.Blocked after new acts = (ap (λ (q : Queue). q.capacity) acts.2, same_ports pm after acts.1)
up_keeps pm old (answer.Up n) after new acts = (ap (λ (q : Queue). q.capacity) acts.1.3, given_ports pm acts.1.0 after (gives pm acts.1.0 after acts.1.2))
up_keeps pm old _ after new acts = absurd acts

-- ---- the host

abbrev KeepsHost : Host → Host → Type 0
KeepsHost old new = (mode : Mode) → IsSoundHostIn mode old → IsSoundHostIn mode new

turned : (old : Host) (t : HostTurn) (new : Host) → Does old t new → KeepsHost old new
turned old t new does mode sound = sound_turn old t new does sound

same_host : (old new : Host) → new ≡ old → KeepsHost old new
same_host old new e mode sound = subst (IsSoundHostIn mode) (sym e) sound

take_keeps : (old : Queue) (host : Host) (a : Answer) (new : Queue) (after : Host) → HostTakeRule old host (Ok a) new after → (new.capacity ≡ old.capacity) × KeepsHost host after
take_keeps old host answer.Idle new after acts = (ap (λ (q : Queue). q.capacity) acts.1, same_host host after acts.2)
take_keeps old host (answer.Took port conn number bytes report) new after acts = (acts.1, turned host (Took bytes report) after acts.2)
take_keeps old host _ new after acts = absurd acts

push_keeps : (host : Host) (old : Queue) (a : Answer) (after : Host) (new : Queue) → HostPushRule host old (Ok a) after new → (new.capacity ≡ old.capacity) × KeepsHost host after
push_keeps host old answer.Idle after new acts = (ap (λ (q : Queue). q.capacity) acts.2, turned host (Pushed None) after acts.1.0)
push_keeps host old answer.Blocked after new acts = (ap (λ (q : Queue). q.capacity) acts.2, same_host host after acts.1)
push_keeps host old answer.Pushed after new acts = (ap (λ (q : Queue). q.capacity) acts.1.2, turned host (Pushed (Some acts.1.0)) after acts.1.1)
push_keeps host old _ after new acts = absurd acts

tick_keeps : (host : Host) (a : Answer) (after : Host) → TickRule host (Ok a) after → KeepsHost host after
tick_keeps host answer.Idle after acts = same_host host after acts.1
tick_keeps host answer.Ticked after acts = turned host (Ticked true) after acts
tick_keeps host _ after acts = absurd acts

submit_keeps : (dev : ℕ) (request : Asked) (host : Host) (a : Answer) (after : Host) → SubmitRule dev request host (Ok a) after → KeepsHost host after
submit_keeps dev request host (answer.Refused e) after acts = same_host host after acts.1
submit_keeps dev request host (answer.Submitted ticket) after acts = turned host (Submitted dev request ticket.0) after acts
submit_keeps dev request host _ after acts = absurd acts

poll_keeps : (host : Host) (a : Answer) (after : Host) → PollRule host (Ok a) after → KeepsHost host after
poll_keeps host answer.Idle after acts = same_host host after acts.1
poll_keeps host (answer.Polled completion) after acts = turned host (Polled completion) after acts
poll_keeps host _ after acts = absurd acts

put_keeps : (at : ℕ) (bytes : List ℕ) (host : Host) (a : Answer) (after : Host) → PutRule at bytes host (Ok a) after → KeepsHost host after
put_keeps at bytes host answer.Put after acts = turned host (Put at bytes) after acts.1
put_keeps at bytes host _ after acts = absurd acts

-- ---- a world

pub record IsWell (mode : Mode) (now : Places) : Type 0 where
  pub upward : 0 < now.upward.capacity
  pub downward : 0 < now.downward.capacity
  pub devices : (n : ℕ) (place : Place) → slice_get now.devices n ≡ Some place → HasSome place
  pub served : now.multiplier.served ≤ 15
  pub ports : now.multiplier.registers.ports ≡ length now.devices
  pub most : length now.devices ≤ 15
  pub host : IsSoundHostIn mode now.host

module _ (mode : Mode) (old : Places) (a : Answer) (new : Places) (w : IsWell mode old) where
  with_place : (n : ℕ) (place after : Place) → slice_get old.devices n ≡ Some place → KeepsRoom place after → IsWell mode (with_device old n after)
  with_place n place after is keeps = record {
    upward = w.upward;
    downward = w.downward;
    devices = set_keeps HasSome old.devices n after (has_some place after keeps (w.devices n place is)) w.devices;
    served = w.served;
    ports = w.ports ∙ sym (length-set old.devices n after);
    most = subst (λ (k : ℕ). k ≤ 15) (sym (length-set old.devices n after)) w.most;
    host = w.host;
  }

  alone : (n : ℕ) (R : Place → Outcome → Place → Type 0) → ((place after : Place) → R place (Ok a) after → KeepsRoom place after) → OnDevice old n (Ok a) new R → IsWell mode new
  alone n R keeps rule =
      let d : AtDevice old n (Ok a) new R = at_device old n a new R rule in
      subst (IsWell mode) (sym d.new_is) (with_place n d.place d.after d.is (keeps d.place d.after d.rule))

  both : (n : ℕ) (R : Place → PmState → Outcome → Place → PmState → Type 0) → ((place after : Place) (left : PmState) → R place old.multiplier (Ok a) after left → KeepsBoth place old.multiplier after left)
      → OnDeviceAndMultiplier old n (Ok a) new R → IsWell mode new
  both n R keeps rule =
      let d : AtBoth old n (Ok a) new R = at_both old n a new R rule in
      let k = keeps d.place d.after d.left d.rule in
      let p : IsWell mode (with_device old n d.after) = with_place n d.place d.after d.is k.0 in
      subst (IsWell mode) (sym d.new_is)
      (record { upward = p.upward; downward = p.downward; devices = p.devices; served = k.1.1 w.served; ports = k.1.0 ∙ p.ports; most = p.most; host = p.host })

  -- links, multiplier and host were changed, and no device
  rest : (upward downward : Queue) (pm : PmState) (host : Host) → upward.capacity ≡ old.upward.capacity → downward.capacity ≡ old.downward.capacity → KeepsPorts old.multiplier pm → KeepsHost old.host host
      → IsWell mode (with_host (with_multiplier (with_upward (with_downward old downward) upward) pm) host)
  rest upward downward pm host up down ports keeps =
      let some_up : 0 < old.upward.capacity = w.upward in
      let some_down : 0 < old.downward.capacity = w.downward in
      record {
        upward = omega (arith, up, some_up);
        downward = omega (arith, down, some_down);
        devices = w.devices;
        served = ports.1 w.served;
        ports = ports.0 ∙ w.ports;
        most = w.most;
        host = keeps mode w.host;
      }

  on_host : (R : Host → Outcome → Host → Type 0) → ((host after : Host) → R host (Ok a) after → KeepsHost host after) → R old.host (Ok a) new.host × (new ≡ with_host old new.host) → IsWell mode new
  on_host R keeps rule =
      subst (IsWell mode) (sym rule.1)
      (rest old.upward old.downward old.multiplier new.host refl refl (refl, λ low. low) (keeps old.host new.host rule.0))

pub well_after : (mode : Mode) (old : Places) (s : Step) (a : Answer) (new : Places) → IsWell mode old → Rule old s (Ok a) new → IsWell mode new
well_after mode old (step.Came n) a new w rule = alone mode old a new w n (CameRule n) (λ place after r. came_room n place a after r.1) rule
well_after mode old (step.Gone n) a new w rule = alone mode old a new w n (GoneRule n) (λ place after r. gone_room n place a after r.1) rule
well_after mode old (step.DiskSend n) a new w rule = alone mode old a new w n (DiskSendRule n) (λ place after r. send_room n place a after r.1) rule
well_after mode old (step.Inject n bytes) a new w rule = alone mode old a new w n (InjectRule n bytes) (λ place after r. inject_room n bytes place a after r.1) rule
well_after mode old (step.DiskTake n) a new w rule = alone mode old a new w n (DiskTakeRule n) (λ place after r. take_room n place a after r) rule
well_after mode old (step.PmPresence n) a new w rule = both mode old a new w n (PmPresenceRule n) (λ place after left r. presence_keeps n place old.multiplier a after left r) rule
well_after mode old (step.PmFromDevice n) a new w rule = both mode old a new w n (PmFromDeviceRule n) (λ place after left r. offer_keeps n place old.multiplier a after left r) rule
well_after mode old (step.PmDown n) a new w rule = both mode old a new w n (PmDownRule n) (λ place after left r. down_keeps n place old.multiplier a after left r) rule
well_after mode old step.PmFromHost a new w rule =
    let k = heard_keeps old.downward old.multiplier a new.downward new.multiplier rule.0 in
    subst (IsWell mode) (sym rule.1) (rest mode old a new w old.upward new.downward new.multiplier old.host refl k.0 k.1 (λ m sound. sound))
well_after mode old step.PmUp a new w rule =
    let k = up_keeps old.multiplier old.upward a new.multiplier new.upward rule.0 in
    subst (IsWell mode) (sym rule.1) (rest mode old a new w new.upward old.downward new.multiplier old.host k.0 refl k.1 (λ m sound. sound))
well_after mode old step.HostTake a new w rule =
    let k = take_keeps old.upward old.host a new.upward new.host rule.0 in
    subst (IsWell mode) (sym rule.1) (rest mode old a new w new.upward old.downward old.multiplier new.host k.0 refl (refl, λ low. low) k.1)
well_after mode old step.HostPush a new w rule =
    let k = push_keeps old.host old.downward a new.host new.downward rule.0 in
    subst (IsWell mode) (sym rule.1) (rest mode old a new w old.upward new.downward old.multiplier new.host refl k.0 (refl, λ low. low) k.1)
well_after mode old step.Tick a new w rule = on_host mode old a new w TickRule (λ host after r. tick_keeps host a after r) rule
well_after mode old (step.Submit dev request) a new w rule = on_host mode old a new w (SubmitRule dev request) (λ host after r. submit_keeps dev request host a after r) rule
well_after mode old step.Poll a new w rule = on_host mode old a new w PollRule (λ host after r. poll_keeps host a after r) rule
well_after mode old (step.Put at bytes) a new w rule = on_host mode old a new w (PutRule at bytes) (λ host after r. put_keeps at bytes host a after r) rule

-- ---- a run

run_well : (mode : Mode) (old : Places) (steps : List Step) (answers : List Answer) (new : Places) → IsWell mode old → Run old steps answers new → IsWell mode new
run_well mode old [] [] new w run = subst (IsWell mode) (sym run) w
run_well mode old (s ∷ steps) (a ∷ answers) new w run = run_well mode run.0 steps answers new (well_after mode old s a run.0 w run.1) run.2
run_well mode old [] (a ∷ answers) new w run = absurd run
run_well mode old (s ∷ steps) [] new w run = absurd run

-- what a permitted configuration has
record Fits (config : Config) (units : ℕ) : Type 0 where
  room : 1 ≤ config.capacity
  same : units ≡ config.ports
  few : config.ports ≤ 15

fits_of : (config : Config) (units : ℕ) → is_config config units ≡ true → Fits config units
fits_of config units fits = cases (nat_le 1 config.ports) (nat_le config.ports 15) (nat_le 1 config.capacity) (nat_le config.capacity 64) (nat_le 0x200000 config.memory) (nat_le config.memory 0x1000000) (config.memory % 2 == 0) (units == config.ports) refl refl refl fits
  where
    cases : (a b c d e f g h : Bool) → nat_le config.ports 15 ≡ b → nat_le 1 config.capacity ≡ c → (units == config.ports) ≡ h → (a && b && c && d && e && f && g && h) ≡ true → Fits config units
    cases true true true true true true true true few room same fits = record { few = leb-true config.ports 15 few; room = leb-true 1 config.capacity room; same = eqb-true units config.ports same }
    cases _ _ _ _ _ _ _ _ few room same fits = absurd (cc)

pub sized : (config : Config) (units : ℕ) → is_config config units ≡ true → is_memory_size config.memory ≡ true
sized config units right = search rules

opening_some : (capacity : ℕ) → 1 ≤ capacity → (units : List Attached) (n : ℕ) (place : Place) → slice_get (map (opening capacity) units) n ≡ Some place → HasSome place
opening_some capacity least [] n place at = absurd (cc)
opening_some capacity least (u ∷ units) zero place at = subst HasSome (same_Some (opening capacity u) place at) (omega (arith, least), omega (arith, least))
opening_some capacity least (u ∷ units) (suc n) place at = opening_some capacity least units n place at

opening_well : (mode : Mode) (config : Config) (units : List Attached) → is_config config (length units) ≡ true → IsWell mode (new_world_in mode config units)
opening_well mode config units fits =
    let f : Fits config (length units) = fits_of config (length units) fits in
    let room : 1 ≤ config.capacity = f.room in
    record {
      upward = omega (arith, room);
      downward = omega (arith, room);
      devices = opening_some config.capacity room units;
      served = omega arith;
      ports = sym f.same ∙ sym (length-map units (opening config.capacity));
      most = subst (λ (k : ℕ). k ≤ 15) (sym f.same ∙ sym (length-map units (opening config.capacity))) f.few;
      host = hosts_stay_sound.opens mode 0 (zeroed config.memory) (zeroed_right config.memory (sized config (length units) fits));
    }

-- a step leaves as many devices as there were
module _ (old : Places) (a : Answer) (new : Places) where
  alone_size : (n : ℕ) (R : Place → Outcome → Place → Type 0) → OnDevice old n (Ok a) new R → length new.devices ≡ length old.devices
  alone_size n R rule =
      let d : AtDevice old n (Ok a) new R = at_device old n a new R rule in
      ap (λ (w : Places). length w.devices) d.new_is ∙ length-set old.devices n d.after

  both_size : (n : ℕ) (R : Place → PmState → Outcome → Place → PmState → Type 0) → OnDeviceAndMultiplier old n (Ok a) new R → length new.devices ≡ length old.devices
  both_size n R rule =
      let d : AtBoth old n (Ok a) new R = at_both old n a new R rule in
      ap (λ (w : Places). length w.devices) d.new_is ∙ length-set old.devices n d.after

size_after : (old : Places) (s : Step) (a : Answer) (new : Places) → Rule old s (Ok a) new → length new.devices ≡ length old.devices
size_after old (step.Came n) a new rule = alone_size old a new n (CameRule n) rule
size_after old (step.Gone n) a new rule = alone_size old a new n (GoneRule n) rule
size_after old (step.DiskSend n) a new rule = alone_size old a new n (DiskSendRule n) rule
size_after old (step.Inject n bytes) a new rule = alone_size old a new n (InjectRule n bytes) rule
size_after old (step.DiskTake n) a new rule = alone_size old a new n (DiskTakeRule n) rule
size_after old (step.PmPresence n) a new rule = both_size old a new n (PmPresenceRule n) rule
size_after old (step.PmFromDevice n) a new rule = both_size old a new n (PmFromDeviceRule n) rule
size_after old (step.PmDown n) a new rule = both_size old a new n (PmDownRule n) rule
size_after old other a new rule = ap (λ (w : Places). length w.devices) rule.1

run_size : (old : Places) (steps : List Step) (answers : List Answer) (new : Places) → Run old steps answers new → length new.devices ≡ length old.devices
run_size old [] [] new run = ap (λ (w : Places). length w.devices) run
run_size old (s ∷ steps) (a ∷ answers) new run = run_size run.0 steps answers new run.2 ∙ size_after old s a run.0 run.1
run_size old [] (a ∷ answers) new run = absurd run
run_size old (s ∷ steps) [] new run = absurd run

-- a world has as many devices as its configuration has ports
pub size_in : (mode : Mode) (config : Config) (units : List Attached) → is_config config (length units) ≡ true → (before : List Step) (told : List Answer) (now : Places)
    → Run (new_world_in mode config units) before told now → length now.devices ≡ config.ports
size_in mode config units fits before told now run =
    run_size (new_world_in mode config units) before told now run ∙ length-map units (opening config.capacity) ∙ (fits_of config (length units) fits).same

pub well_in : (mode : Mode) (config : Config) (units : List Attached) → is_config config (length units) ≡ true → (before : List Step) (told : List Answer) (now : Places)
    → Run (new_world_in mode config units) before told now → IsWell mode now
well_in mode config units fits before told now run = run_well mode (new_world_in mode config units) before told now (opening_well mode config units fits) run

pub well_reached : (now : Places) (r : IsReached now) → IsWell r.mode now
well_reached now r = well_in r.mode r.config r.units r.fits r.steps r.answers now r.run
