-- For `paths_go_on`, clause `orderly`. Every world is orderly: a new one is, and no step makes it otherwise.
use Rattle.std.proofs.Common.{◌≡◌, ℕ, ◌<◌, ◌≤◌, ◌==◌, Bool, true, false, List, [], ◌∷◌, length, map, Option, Some, None, refl, sym, ap, ◌∙◌, subst}
use Rattle.std.proofs.{Common.arith, lemmas.{Bool.{and_parts, eqb-true, leb-false, leb-true}, Option.same_Some, List.{length-set, length-map}}}
use Rattle.std.proofs.lemmas.List.{length-replicate}
use Rattle.std.specs.Prelude.{slice_set, is_none, is_some, nat_le, if◌then◌else◌, Ok, MatchOption, MatchBool, ◌&&◌, ◌%◌}
use Rattle.fis_view.specs.{Frames.Stamped, declared.{frame.Stamp.Stamp, build.D2hFields.D2hFields}}
use Rattle.pm_ports.specs.Port.{PortState, empty_port, is_present, with_connection, with_removal, with_up, came_refusal as port_came_refusal}
use Rattle.pm_ports.specs.{Port.gone_refusal as port_gone_refusal, declared.port.{GoneError.TheVariants.NotThere, PortError.TheVariants.AlreadyThere}}
use Rattle.pm_ports.specs.declared.port.PortError.TheVariants.{OldConnection}
use Rattle.pm_control.specs.Answers.{IsAnswer, IsNotice, answer_to}
use Rattle.pm_registers.specs.RegisterMap.{after_notice}
use Rattle.multiplier.specs.{Arbiter.control_port, State.{PmState, control_stamp, counted, held, passes_to, pm_port, port_at, next_place, rising}}
use Rattle.multiplier.specs.{State.with_port, Rules.{FromHostRule, PlaceGives, PortGives, ControlGives, ToControl, ToDevice, ToNobody, held_source}}
use Rattle.multiplier.specs.{Rules.{may_go_back, with_device as connected, without_device}, declared.multiplier.Passed.Passed, Between.at as state_at}
use Rattle.multiplier.specs.declared.given.Source.TheVariants as source
use Rattle.multiplier.specs.declared.multiplier.Passed.TheVariants as passed
use Rattle.multiplier.proofs.Door as ports
use Rattle.multiplier.proofs.Door.{still_up_to}
use Rattle.hba_driver.specs.declared.mode.Mode.{Mode}
use Rattle.pm_world.specs.{Attached.Attached, DevicePaths.ReachedAreOrderly, Places.{KnowsItsConnections, Places, Place, Queue, IsOrderly, is_config}}
use Rattle.pm_world.specs.{Places.{new_world_in, opening, with_device, with_multiplier, with_upward, with_downward, with_host}, Rules.OnDevice}
use Rattle.pm_world.specs.Rules.{OnDeviceAndMultiplier, PmPresenceRule, PmFromDeviceRule, PmDownRule, PmFromHostRule, PmUpRule, CameRule}
use Rattle.pm_world.specs.{Rules.{DiskSendRule, GoneRule, InjectRule, DiskTakeRule, Rule, Run, Outcome, recorded}, Traffic.is_removed}
use Rattle.pm_world.specs.declared.{link.Change.Change, step.{Config.Config, Step.Step, Answer.Answer}}
use Rattle.pm_world.specs.declared.link.Change.TheVariants as change
use Rattle.pm_world.specs.declared.step.Step.TheVariants as step
use Rattle.pm_world.specs.declared.step.Answer.TheVariants as answer
use Rattle.pm_world.proofs.steps.{Openings.port_opening, Steps.{AtDevice, AtBoth, at_device, at_both}}

-- ---- a port of the multiplier after a write to one

pub port_same : (pm : PmState) (n : ℕ) (p : PortState) → length pm.ports ≡ 15 → n < 15 → port_at (with_port pm n p) n ≡ p
port_same pm n p room lt = ports.this_port pm.ports n p (omega arith)

-- ---- the multiplier

-- what the world requires of its multiplier
pub record IsRoomy (pm : PmState) : Type 0 where
  pub room : length pm.ports ≡ 15
  pub answer : (frame : Stamped) → pm.answer ≡ Some frame → frame.stamp.port ≡ control_port
  pub knows : (n : ℕ) → KnowsItsConnections (port_at pm n)

-- what a port knows of connections
abbrev pub known : PortState → Option ℕ × ℕ × ℕ
known p = (p.present, p.last, p.gone)

knows_as : (p q : PortState) → known p ≡ known q → KnowsItsConnections q → KnowsItsConnections p
knows_as p q e is =
    let there : p.present ≡ q.present = ap (λ (t : Option ℕ × ℕ × ℕ). t.0) e in
    let last : p.last ≡ q.last = ap (λ (t : Option ℕ × ℕ × ℕ). t.1) e in
    let gone : p.gone ≡ q.gone = ap (λ (t : Option ℕ × ℕ × ℕ). t.2) e in
    record {
      present = λ conn at.
          let was = is.present conn (sym there ∙ at) in
          let below : q.gone < conn = was.1 in
          (was.0 ∙ sym last, omega (arith, gone));
      last = let most : q.gone ≤ q.last = is.last in omega (arith, gone, last);
    }

-- as many ports, which know the same
abbrev pub LikePorts : PmState → PmState → Type 0
LikePorts old new = (length new.ports ≡ length old.ports) × ((n : ℕ) → known (port_at new n) ≡ known (port_at old n))

same_ports : (old new : PmState) → new.ports ≡ old.ports → LikePorts old new
same_ports old new e = (ap length e, λ n. ap (λ all. known (state_at all n)) e)

-- no port forgets a removal
abbrev pub Grows : PmState → PmState → Type 0
Grows old new = (n : ℕ) → (port_at old n).gone ≤ (port_at new n).gone

-- the multiplier after a step: it is as the world requires, and its ports know what they knew
abbrev pub Leads : PmState → PmState → Type 0
Leads old new = IsRoomy new × LikePorts old new

-- or they know more removals
abbrev pub Grown : PmState → PmState → Type 0
Grown old new = IsRoomy new × Grows old new

never_less : (a b : ℕ) → b ≡ a → a ≤ b
never_less a b e = omega (arith, e)

grown : (old new : PmState) → Leads old new → Grown old new
grown old new is = (is.0, λ n. never_less (port_at old n).gone (port_at new n).gone (ap (λ (t : Option ℕ × ℕ × ℕ). t.2) (is.1.1 n)))

-- if nothing waits as the answer of the control port, or if what waited before does
same_answer : (old new : PmState) → LikePorts old new → new.answer ≡ old.answer → IsRoomy old → Leads old new
same_answer old new like same is = (
  record {
    room = like.0 ∙ is.room;
    answer = λ frame e. is.answer frame (sym same ∙ e);
    knows = λ n. knows_as (port_at new n) (port_at old n) (like.1 n) (is.knows n);
  },
  like,
)

no_answer : (old new : PmState) → LikePorts old new → new.answer ≡ None → IsRoomy old → Leads old new
no_answer old new like none is = (
  record {
    room = like.0 ∙ is.room;
    answer = λ frame e. let wrong : None ≡ Some frame = sym none ∙ e in absurd (cc);
    knows = λ n. knows_as (port_at new n) (port_at old n) (like.1 n) (is.knows n);
  },
  like,
)

ports_as : (old new : PmState) (n : ℕ) (p : PortState) → new.ports ≡ slice_set old.ports n p → known p ≡ known (port_at old n) → LikePorts old new
ports_as old new n p e same = (ap length e ∙ length-set old.ports n p, λ m. ap (λ all. known (state_at all m)) e ∙ ports.kept_part known old.ports n p same m)

same_leads : (pm : PmState) → IsRoomy pm → Leads pm pm
same_leads pm is = (is, (refl, λ n. refl))

equal_roomy : {old new : PmState} → new ≡ old → IsRoomy old → Leads old new
equal_roomy {old} e is = subst (Leads old) (sym e) (same_leads old is)

-- a connection that is not refused is above the last one
above_last : (there old : Bool) → is_none (if there then Some AlreadyThere else if old then Some OldConnection else None) ≡ true → old ≡ false
above_last true old e = absurd (cc)
above_last false true e = absurd (cc)
above_last false false e = refl

connected_knows : (p : PortState) (conn : ℕ) → nat_le conn p.last ≡ false → KnowsItsConnections p → KnowsItsConnections (with_connection p conn)
connected_knows p conn above is =
    let low : p.gone ≤ p.last = is.last in
    let high : p.last < conn = leb-false conn p.last above in
    record {
      present = λ c e. let same : conn ≡ c = same_Some conn c e in (sym same, omega (arith, same));
      last = omega arith;
    }

-- only the connection that is present can go
is_there : (present : Option ℕ) (conn : ℕ) → is_none (if is_present present conn then None else Some NotThere) ≡ true → present ≡ Some conn
is_there None conn e = absurd (cc)
is_there (Some there) conn e = by_test (there == conn) (conn == there) refl e
  where
    by_test : (b c : Bool) → (conn == there) ≡ c → is_none (if c then None else Some NotThere) ≡ true → Some there ≡ Some conn
    by_test b true same e = ap Some (sym (eqb-true conn there same))
    by_test b false same e = absurd (cc)

removed_knows : (p : PortState) (conn : ℕ) → p.present ≡ Some conn → KnowsItsConnections p → KnowsItsConnections (with_removal p conn)
removed_knows p conn there is =
    let last : conn ≡ p.last = (is.present conn there).0 in
    record { present = λ c e. absurd (cc); last = omega (arith, last) }

-- a change that is read off a presence link
recorded_roomy : (pm : PmState) (n : ℕ) (c : Change) → IsRoomy pm → Grown pm (recorded pm n c)
recorded_roomy pm n (change.Came conn) is = by_test (is_none (port_came_refusal (port_at pm n) conn)) refl
  where
    by_test : (b : Bool) → is_none (port_came_refusal (port_at pm n) conn) ≡ b → Grown pm (if b then connected pm n conn else pm)
    by_test true none =
        let above = above_last (is_some (port_at pm n).present) (nat_le conn (port_at pm n).last) none in (
          record {
            room = length-set pm.ports n _ ∙ is.room;
            answer = is.answer;
            knows = ports.each_port (λ _ q. KnowsItsConnections q) pm.ports n _ (connected_knows (port_at pm n) conn above (is.knows n)) is.knows;
          },
          λ m. never_less (port_at pm m).gone (port_at (connected pm n conn) m).gone (ports.kept_part (λ q. q.gone) pm.ports n (with_connection (port_at pm n) conn) refl m),
        )
    by_test false none = grown pm pm (same_leads pm is)
recorded_roomy pm n (change.Gone conn) is = by_test (is_none (port_gone_refusal (port_at pm n) conn)) refl
  where
    by_test : (b : Bool) → is_none (port_gone_refusal (port_at pm n) conn) ≡ b → Grown pm (if b then without_device pm n conn else pm)
    by_test true none =
        let there = is_there (port_at pm n).present conn none in
        let above : (port_at pm n).gone < conn = ((is.knows n).present conn there).1 in (
          record {
            room = length-set pm.ports n _ ∙ is.room;
            answer = is.answer;
            knows = ports.each_port (λ _ q. KnowsItsConnections q) pm.ports n _ (removed_knows (port_at pm n) conn there (is.knows n)) is.knows;
          },
          ports.each_port (λ m q. (port_at pm m).gone ≤ q.gone) pm.ports n (with_removal (port_at pm n) conn) (omega arith) (λ m. never_less (port_at pm m).gone (port_at pm m).gone refl),
        )
    by_test false none = grown pm pm (same_leads pm is)

presence_roomy : (n : ℕ) (old : Place) (pm : PmState) (a : Answer) (new : Place) (after : PmState) → PmPresenceRule n old pm (Ok a) new after → IsRoomy pm → Grown pm after
presence_roomy n old pm answer.Idle new after rule is = grown pm after (equal_roomy rule.2 is)
presence_roomy n old pm (answer.Presence p) new after rule is = subst (Grown pm) (sym rule.2.2) (recorded_roomy pm n rule.2.0 is)
presence_roomy n old pm _ new after rule is = absurd rule

pub device_roomy : (n : ℕ) (old : Place) (pm : PmState) (a : Answer) (new : Place) (after : PmState) → PmFromDeviceRule n old pm (Ok a) new after → IsRoomy pm → Leads pm after
device_roomy n old pm answer.Idle new after rule is = equal_roomy rule.2 is
device_roomy n old pm answer.Blocked new after rule is = equal_roomy rule.3 is
device_roomy n old pm (answer.Offered p true) new after rule is = equal_roomy rule.2.2.1 is
device_roomy n old pm (answer.Offered p false) new after rule is =
    same_answer pm after (ports_as pm after n _ (ap (λ (m : PmState). m.ports) rule.2.2.2) refl) (ap (λ (m : PmState). m.answer) rule.2.2.2) is
device_roomy n old pm _ new after rule is = absurd rule

pub down_roomy : (n : ℕ) (old : Place) (pm : PmState) (a : Answer) (new : Place) (after : PmState) → PmDownRule n old pm (Ok a) new after → IsRoomy pm → Leads pm after
down_roomy n old pm answer.Idle new after rule is = equal_roomy rule.3 is
down_roomy n old pm answer.Blocked new after rule is = equal_roomy rule.2 is
down_roomy n old pm (answer.Down p) new after rule is =
    same_answer pm after (ports_as pm after n _ (ap (λ (m : PmState). m.ports) rule.2.1.1) refl) (ap (λ (m : PmState). m.answer) rule.2.1.1) is
down_roomy n old pm _ new after rule is = absurd rule

-- ---- a frame of the host

-- an answer has the stamp that it is to have
stamped_so : (fields : Option D2hFields) (stamp : Stamp) (given : Option Stamped) → IsAnswer fields stamp given → (frame : Stamped) → given ≡ Some frame → frame.stamp ≡ stamp
stamped_so None stamp None made frame e = absurd (cc)
stamped_so None stamp (Some g) made frame e = absurd made
stamped_so (Some fields) stamp None made frame e = absurd made
stamped_so (Some fields) stamp (Some g) made frame e = subst (λ (o : Option Stamped). MatchOption o (Prim.Unit {0}) (λ f. f.stamp ≡ stamp)) e made.1

control_roomy : (pm : PmState) (frame : Stamped) (p : Passed) (after : PmState) → ToControl pm frame (Ok p) after → IsRoomy pm → Leads pm after
control_roomy pm frame passed.Control after rule is = (
  record {
    room = ap (λ (m : PmState). length m.ports) rule.2 ∙ is.room;
    answer = λ given e. ap (λ (s : Stamp). s.port) (stamped_so (answer_to pm.resetting pm.registers frame.bytes) (control_stamp pm) after.answer rule.1 given e);
    knows = λ n. subst (λ (m : PmState). KnowsItsConnections (port_at m n)) (sym rule.2) (is.knows n);
  },
  (ap (λ (m : PmState). length m.ports) rule.2, λ n. ap (λ (m : PmState). known (port_at m n)) rule.2),
)
control_roomy pm frame _ after rule is = absurd rule

port_roomy : (pm : PmState) (frame : Stamped) (o : Option ℕ) (p : Passed) (after : PmState) → MatchOption o (ToNobody pm (Ok p) after) (λ conn. ToDevice pm (pm_port frame) conn frame (Ok p) after) → IsRoomy pm → Leads pm after
port_roomy pm frame None passed.Dropped after rule is =
    subst (Leads pm) (sym rule) (record { room = is.room; answer = is.answer; knows = is.knows }, (refl, λ n. refl))
port_roomy pm frame (Some conn) (passed.Down m) after rule is =
    same_answer pm after (ports_as pm after (pm_port frame) _ (ap (λ (q : PmState). q.ports) rule.2) refl) (ap (λ (q : PmState). q.answer) rule.2) is
port_roomy pm frame other _ after rule is = absurd rule

passed_roomy : (pm : PmState) (frame : Stamped) (p : Passed) (after : PmState) → FromHostRule pm frame (Ok p) after → IsRoomy pm → Leads pm after
passed_roomy pm frame p after rule is = by_test (pm_port frame == control_port) rule
  where
    by_test : (b : Bool) → MatchBool b (ToControl pm frame (Ok p) after) (MatchOption (passes_to pm (pm_port frame)) (ToNobody pm (Ok p) after) (λ conn. ToDevice pm (pm_port frame) conn frame (Ok p) after)) → Leads pm after
    by_test true rule = control_roomy pm frame p after rule is
    by_test false rule = port_roomy pm frame (passes_to pm (pm_port frame)) p after rule is

-- ---- a frame for the host

gives_roomy : (pm : PmState) (place : ℕ) (frame : Stamped) (after : PmState) → PlaceGives pm place frame after → IsRoomy pm → Leads pm after
gives_roomy pm place frame after rule is = by_test (place == control_port) rule
  where
    control : (due : Bool) → MatchBool due
        (IsNotice true (control_stamp pm) (Some frame) × (after ≡ record pm { registers = after_notice pm.registers; number = counted pm.number; served = control_port; given = may_go_back pm source.Notice frame }))
        ((pm.answer ≡ Some frame) × (after ≡ record pm { answer = None; served = control_port; given = may_go_back pm source.Answer frame })) → Leads pm after
    control true rule = same_answer pm after (same_ports pm after (ap (λ (m : PmState). m.ports) rule.1)) (ap (λ (m : PmState). m.answer) rule.1) is
    control false rule = no_answer pm after (same_ports pm after (ap (λ (m : PmState). m.ports) rule.1)) (ap (λ (m : PmState). m.answer) rule.1) is

    port : (o : Option Stamped) → MatchOption o ⊥ (λ was. (was.stamp.port ≡ place) × (frame ≡ rising place was)
        × (after ≡ record (with_port pm place (with_up (port_at pm place) None)) { served = place; given = may_go_back pm (held_source was) frame })) → Leads pm after
    port None rule = absurd rule
    port (Some was) rule = same_answer pm after (ports_as pm after place _ (ap (λ (m : PmState). m.ports) rule.2) refl) (ap (λ (m : PmState). m.answer) rule.2) is

    by_test : (b : Bool) → MatchBool b (ControlGives pm frame after) (PortGives pm place frame after) → Leads pm after
    by_test true rule = control pm.registers.due rule
    by_test false rule = port (held pm place) rule

next_roomy : (pm : PmState) (o : Option ℕ) (frame : Stamped) (after : PmState) → MatchOption o ⊥ (λ place. PlaceGives pm place frame after) → IsRoomy pm → Leads pm after
next_roomy pm None frame after rule is = absurd rule
next_roomy pm (Some place) frame after rule is = gives_roomy pm place frame after rule is

pub up_roomy : (pm : PmState) (upward : Queue) (a : Answer) (after : PmState) (new : Queue) → PmUpRule pm upward (Ok a) after new → IsRoomy pm → Leads pm after
up_roomy pm upward answer.Idle after new rule is = equal_roomy rule.2 is
up_roomy pm upward answer.Blocked after new rule is = equal_roomy rule.1 is
up_roomy pm upward (answer.Up n) after new rule is = next_roomy pm (next_place pm) rule.1.0 after rule.1.2 is
up_roomy pm upward _ after new rule is = absurd rule

pub heard_roomy : (old : Queue) (pm : PmState) (a : Answer) (new : Queue) (after : PmState) → PmFromHostRule old pm (Ok a) new after → IsRoomy pm → Leads pm after
heard_roomy old pm answer.Idle new after rule is = equal_roomy rule.2 is
heard_roomy old pm answer.Blocked new after rule is = equal_roomy rule.2 is
heard_roomy old pm (answer.Passed p) new after rule is = passed_roomy pm rule.0.0 p after rule.0.2 is
heard_roomy old pm _ new after rule is = absurd rule

-- ---- the world

pub roomy : {now : Places} → IsOrderly now → IsRoomy now.multiplier
roomy orderly = record { room = orderly.room; answer = orderly.answer; knows = orderly.knows }

-- the world after a step: it is orderly, and no port forgot a removal
pub record Follows (old new : Places) : Type 0 where
  pub orderly : IsOrderly new
  pub grows : Grows old.multiplier new.multiplier

-- as many devices, and a multiplier with room
follows_with : (old new : Places) → length new.devices ≡ length old.devices → Grown old.multiplier new.multiplier → IsOrderly old → Follows old new
follows_with old new size leads orderly =
    let most : length old.devices ≤ 15 = orderly.most in
    let is : IsRoomy new.multiplier = leads.0 in
    record {
      orderly = record { most = omega (arith, size, most); room = is.room; answer = is.answer; knows = is.knows };
      grows = leads.1;
    }

module _ (old : Places) (n : ℕ) (a : Answer) (new : Places) (orderly : IsOrderly old) where
  alone : (R : Place → Outcome → Place → Type 0) → OnDevice old n (Ok a) new R → Follows old new
  alone R rule =
      let at : AtDevice old n (Ok a) new R = at_device old n a new R rule in
      subst (Follows old) (sym at.new_is) (follows_with old (with_device old n at.after) (length-set old.devices n at.after) (grown old.multiplier old.multiplier (same_leads old.multiplier (roomy orderly))) orderly)

  both : (R : Place → PmState → Outcome → Place → PmState → Type 0) → ((place : Place) (after : Place) (left : PmState) → R place old.multiplier (Ok a) after left → IsRoomy old.multiplier → Grown old.multiplier left)
      → OnDeviceAndMultiplier old n (Ok a) new R → Follows old new
  both R keeps rule =
      let at : AtBoth old n (Ok a) new R = at_both old n a new R rule in
      subst (Follows old) (sym at.new_is)
      (follows_with old (with_multiplier (with_device old n at.after) at.left) (length-set old.devices n at.after) (keeps at.place at.after at.left at.rule (roomy orderly)) orderly)

-- a step that leaves devices and multiplier
aside : (old new left : Places) → new ≡ left → left.devices ≡ old.devices → left.multiplier ≡ old.multiplier → IsOrderly old → Follows old new
aside old new left e devices same orderly = subst (Follows old) (sym e) (follows_with old left (ap length devices) (grown old.multiplier left.multiplier (equal_roomy same (roomy orderly))) orderly)

follows : (old : Places) (s : Step) (a : Answer) (new : Places) → IsOrderly old → Rule old s (Ok a) new → Follows old new
follows old (step.Came n) a new orderly rule = alone old n a new orderly (CameRule n) rule
follows old (step.Gone n) a new orderly rule = alone old n a new orderly (GoneRule n) rule
follows old (step.DiskSend n) a new orderly rule = alone old n a new orderly (DiskSendRule n) rule
follows old (step.Inject n bytes) a new orderly rule = alone old n a new orderly (InjectRule n bytes) rule
follows old (step.DiskTake n) a new orderly rule = alone old n a new orderly (DiskTakeRule n) rule
follows old (step.PmPresence n) a new orderly rule = both old n a new orderly (PmPresenceRule n) (λ place after left. presence_roomy n place old.multiplier a after left) rule
follows old (step.PmFromDevice n) a new orderly rule = both old n a new orderly (PmFromDeviceRule n) (λ place after left r is. grown old.multiplier left (device_roomy n place old.multiplier a after left r is)) rule
follows old (step.PmDown n) a new orderly rule = both old n a new orderly (PmDownRule n) (λ place after left r is. grown old.multiplier left (down_roomy n place old.multiplier a after left r is)) rule
follows old step.PmFromHost a new orderly rule =
    follows_with old new (ap (λ (w : Places). length w.devices) rule.1) (grown old.multiplier new.multiplier (heard_roomy old.downward old.multiplier a new.downward new.multiplier rule.0 (roomy orderly))) orderly
follows old step.PmUp a new orderly rule =
    follows_with old new (ap (λ (w : Places). length w.devices) rule.1) (grown old.multiplier new.multiplier (up_roomy old.multiplier old.upward a new.multiplier new.upward rule.0 (roomy orderly))) orderly
follows old step.HostTake a new orderly rule = aside old new (with_host (with_upward old new.upward) new.host) rule.1 refl refl orderly
follows old step.HostPush a new orderly rule = aside old new (with_downward (with_host old new.host) new.downward) rule.1 refl refl orderly
follows old other a new orderly rule = aside old new (with_host old new.host) rule.1 refl refl orderly

pub orderly_after : (old : Places) (s : Step) (a : Answer) (new : Places) → IsOrderly old → Rule old s (Ok a) new → IsOrderly new
orderly_after old s a new orderly rule = (follows old s a new orderly rule).orderly

-- a removal that is recorded stays recorded
pub removed_after : (old : Places) (s : Step) (a : Answer) (new : Places) → IsOrderly old → Rule old s (Ok a) new → (n c : ℕ) → is_removed n c old ≡ true → is_removed n c new ≡ true
removed_after old s a new orderly rule n c gone =
    still_up_to (port_at old.multiplier n).gone (port_at new.multiplier n).gone c ((follows old s a new orderly rule).grows n) gone

pub run_orderly : (old : Places) (steps : List Step) (answers : List Answer) (new : Places) → IsOrderly old → Run old steps answers new → IsOrderly new
run_orderly old [] [] new orderly run = subst IsOrderly (sym run) orderly
run_orderly old (s ∷ steps) (a ∷ answers) new orderly run = run_orderly run.0 steps answers new (orderly_after old s a run.0 orderly run.1) run.2
run_orderly old [] (a ∷ answers) new orderly run = absurd run
run_orderly old (s ∷ steps) [] new orderly run = absurd run

-- as many units as ports, and at most 15 ports
at_most : (config : Config) (units : ℕ) → is_config config units ≡ true → units ≤ 15
at_most config units fits = cases (nat_le 1 config.ports) (nat_le config.ports 15) (nat_le 1 config.capacity) (nat_le config.capacity 64) (nat_le 2097152 config.memory) (nat_le config.memory 16777216) (config.memory % 2 == 0) (units == config.ports) refl refl fits
  where
    cases : (a b c d e f g h : Bool) → nat_le config.ports 15 ≡ b → (units == config.ports) ≡ h → (a && b && c && d && e && f && g && h) ≡ true → units ≤ 15
    cases true true true true true true true true most same fits =
        let le : config.ports ≤ 15 = leb-true config.ports 15 most in
        let eq : units ≡ config.ports = eqb-true units config.ports same in
        omega arith
    cases _ _ _ _ _ _ _ _ most same fits = absurd (cc)

-- as many units as ports
pub as_many : (config : Config) (units : ℕ) → is_config config units ≡ true → units ≡ config.ports
as_many config units fits =
    eqb-true units config.ports
    (last (nat_le 1 config.ports) (nat_le config.ports 15) (nat_le 1 config.capacity) (nat_le config.capacity 64) (nat_le 2097152 config.memory)
    (nat_le config.memory 16777216) (config.memory % 2 == 0) (units == config.ports) fits)
  where
    last : (a b c d e f g h : Bool) → (a && b && c && d && e && f && g && h) ≡ true → h ≡ true
    last a b c d e f g true fits = refl
    last a b c d e f g false fits = (and_parts (a && b && c && d && e && f && g) false fits).1

pub opening_orderly : (mode : Mode) (config : Config) (units : List Attached) → is_config config (length units) ≡ true → IsOrderly (new_world_in mode config units)
opening_orderly mode config units fits = record {
  most = let size : length (map (opening config.capacity) units) ≡ length units = length-map units (opening config.capacity) in
      let le : length units ≤ 15 = at_most config (length units) fits in omega arith;
  room = length-replicate 15 empty_port;
  answer = λ frame e. absurd (cc);
  knows = λ n. subst KnowsItsConnections (sym (port_opening config units n)) (record { present = λ conn e. absurd (cc); last = omega arith });
}

pub reached_orderly : ReachedAreOrderly
reached_orderly now r = run_orderly (new_world_in r.mode r.config r.units) r.steps r.answers now (opening_orderly r.mode r.config r.units r.fits) r.run
