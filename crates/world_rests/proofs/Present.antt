-- For `rested_ports_are_open`. The registers show a device at a port exactly where the port has a connection, over each run.
use Rattle.std.proofs.Common.{◌≡◌, ℕ, zero, suc, ◌<◌, ◌==◌, Bool, true, false, List, [], ◌∷◌, length, replicate, Option, Some, None, Ok, refl, sym}
use Rattle.std.proofs.{Common.{ap, subst, ◌∙◌, inl, inr, arith, get_or-set_same, get_or-set_other, slice_index_or}, lemmas.Bool.cases_eq}
use Rattle.std.proofs.lemmas.List.{length-replicate, length-set}
use Rattle.std.specs.Prelude.{if◌then◌else◌, is_none, is_some, slice_set, MatchBool, MatchOption}
use Rattle.fis_view.specs.Frames.{Stamped}
use Rattle.pm_registers.specs.{Port.{inserted, is_open, met, opening_port, port_written, removed}, RegisterMap.{RegisterMap, control_written}}
use Rattle.pm_registers.specs.RegisterMap.{port_at as shown_at, register_at, settled, summary, with_port as with_registers, written}
use Rattle.pm_registers.specs.declared.port.PortRegisters.{PortRegisters}
use Rattle.pm_registers.proofs.Door.{either, write_devices}
use Rattle.pm_control.specs.{Answers.registers_after_request, Requests.request_in, declared.request.Request.{Request, TheVariants.Write}}
use Rattle.pm_ports.specs.Port.{PortState, came_refusal, empty_port, gone_refusal, with_connection, with_down, with_removal, with_up}
use Rattle.multiplier.specs.{Arbiter.control_port, Between.{Answer as Answers, FromPort, Gives, Notice}, Rules.{FromHostRule, ToControl, ToDevice}}
use Rattle.multiplier.specs.{Rules.{ToNobody, ToPort, with_device as connected, without_device}, State.{PmState, falling, passes_to, pm_port}}
use Rattle.multiplier.specs.{State.{port_at, stamped}, declared.multiplier.Passed.Passed}
use Rattle.multiplier.specs.declared.multiplier.Passed.TheVariants as passed
use Rattle.multiplier.proofs.Door.{each_port, gives, other_port, this_port}
use Rattle.pm_world.specs.{Attached.Attached, Places.{Place, Places, Queue, new_world}, Rules.{CameRule, DiskSendRule, DiskTakeRule, GoneRule}}
use Rattle.pm_world.specs.Rules.{InjectRule, OnDevice, OnDeviceAndMultiplier, Outcome, PmDownRule, PmFromDeviceRule, PmFromHostRule, PmPresenceRule}
use Rattle.pm_world.specs.{Rules.{PmUpRule, Rule, Run, recorded}, declared.{link.Change.Change, step.{Answer.Answer, Config.Config, Step.Step}}}
use Rattle.pm_world.specs.declared.link.Change.TheVariants as change
use Rattle.pm_world.specs.declared.step.Answer.TheVariants as answer
use Rattle.pm_world.specs.declared.step.Step.TheVariants as step
use Rattle.world_rests.proofs.Parts.{AtBoth, AtDevice, at_both, at_device}

-- the registers of each of the fifteen ports show what the port has
pub record ShowsAll (pm : PmState) : Type 0 where
  pub bank : length pm.registers.bank ≡ 15
  pub room : length pm.ports ≡ 15
  pub agrees : (n : ℕ) → n < 15 → (shown_at pm.registers n).present ≡ is_some (port_at pm n).present

same_shows : (old new : PmState) → new ≡ old → ShowsAll old → ShowsAll new
same_shows old new same s = subst ShowsAll (sym same) s

-- ---- the multiplier

-- the registers show the same devices, and the ports are the same
registers_show : (pm : PmState) (r : RegisterMap) (after : PmState) → length r.bank ≡ length pm.registers.bank → ((n : ℕ) → (shown_at r n).present ≡ (shown_at pm.registers n).present) → after.registers ≡ r
    → after.ports ≡ pm.ports → ShowsAll pm → ShowsAll after
registers_show pm r after long same is ports s = record {
  bank = ap (λ (x : RegisterMap). length x.bank) is ∙ long ∙ s.bank;
  room = ap length ports ∙ s.room;
  agrees = λ n low. ap (λ (x : RegisterMap). (shown_at x n).present) is ∙ same n ∙ s.agrees n low ∙ ap (λ (ps : List PortState). is_some (slice_index_or ps n empty_port).present) (sym ports);
}

-- a port has the same connection
port_shows : (pm : PmState) (n : ℕ) (q : PortState) (after : PmState) → q.present ≡ (port_at pm n).present → after.registers ≡ pm.registers → after.ports ≡ slice_set pm.ports n q → ShowsAll pm → ShowsAll after
port_shows pm n q after same registers ports s = record {
  bank = ap (λ (r : RegisterMap). length r.bank) registers ∙ s.bank;
  room = ap length ports ∙ length-set pm.ports n q ∙ s.room;
  agrees = λ k low.
      ap (λ (r : RegisterMap). (shown_at r k).present) registers
      ∙ each_port (λ (j : ℕ) (p : PortState). j < 15 → (shown_at pm.registers j).present ≡ is_some p.present) pm.ports n q (λ small. s.agrees n small ∙ ap is_some (sym same)) (λ j small. s.agrees j small) k low
      ∙ ap (λ (ps : List PortState). is_some (slice_index_or ps k empty_port).present) (sym ports);
}

inserted_present : (p : PortRegisters) → (inserted p).present ≡ true
inserted_present p = either (λ (q : PortRegisters). q.present ≡ true) (is_open p) (met (record p { present = true })) (record p { present = true }) refl refl

removed_present : (p : PortRegisters) → (removed p).present ≡ false
removed_present p = either (λ (q : PortRegisters). q.present ≡ false) (is_open p) _ (record p { present = false }) refl refl

-- a device comes or goes
module _ (pm : PmState) (n : ℕ) (p : PortRegisters) (q : PortState) (same : p.present ≡ is_some q.present) (after : PmState) (registers : after.registers.bank ≡ slice_set pm.registers.bank n p)
    (ports : after.ports ≡ slice_set pm.ports n q) (s : ShowsAll pm) where
  changed_agrees : (k : ℕ) → k < 15 → (slice_index_or (slice_set pm.registers.bank n p) k opening_port).present ≡ is_some (slice_index_or (slice_set pm.ports n q) k empty_port).present
  changed_agrees k low = elim (cases_eq k n) [
    | inl here ↦ subst (λ (j : ℕ). (slice_index_or (slice_set pm.registers.bank n p) j opening_port).present ≡ is_some (slice_index_or (slice_set pm.ports n q) j empty_port).present) (sym here)
        (ap (λ (x : PortRegisters). x.present) (get_or-set_same pm.registers.bank n p opening_port (let small : n < 15 = subst (λ (j : ℕ). j < 15) here low in omega (arith, small, s.bank)))
        ∙ same ∙ ap (λ (x : PortState). is_some x.present) (sym (this_port pm.ports n q (let small : n < 15 = subst (λ (j : ℕ). j < 15) here low in omega (arith, small, s.room)))))
    | inr other ↦
        ap (λ (x : PortRegisters). x.present) (get_or-set_other pm.registers.bank n k p opening_port other) ∙ s.agrees k low ∙ ap (λ (x : PortState). is_some x.present) (sym (other_port pm.ports n k q other))
  ]

  changed_shows : ShowsAll after
  changed_shows = record {
    bank = ap length registers ∙ length-set pm.registers.bank n p ∙ s.bank;
    room = ap length ports ∙ length-set pm.ports n q ∙ s.room;
    agrees = λ k low.
        ap (λ (b : List PortRegisters). (slice_index_or b k opening_port).present) registers ∙ changed_agrees k low ∙ ap (λ (ps : List PortState). is_some (slice_index_or ps k empty_port).present) (sym ports);
  }

recorded_shows : (pm : PmState) (n : ℕ) (c : Change) → ShowsAll pm → ShowsAll (recorded pm n c)
recorded_shows pm n (change.Came conn) s = by_test (is_none (came_refusal (port_at pm n) conn))
  where
    by_test : (b : Bool) → ShowsAll (if b then connected pm n conn else pm)
    by_test true = changed_shows pm n (inserted (shown_at pm.registers n)) (with_connection (port_at pm n) conn) (inserted_present (shown_at pm.registers n)) (connected pm n conn) refl refl s
    by_test false = s
recorded_shows pm n (change.Gone conn) s = by_test (is_none (gone_refusal (port_at pm n) conn))
  where
    by_test : (b : Bool) → ShowsAll (if b then without_device pm n conn else pm)
    by_test true = changed_shows pm n (removed (shown_at pm.registers n)) (with_removal (port_at pm n) conn) (removed_present (shown_at pm.registers n)) (without_device pm n conn) refl refl s
    by_test false = s

-- a request to the control port
written_long : (m : RegisterMap) (port register value : ℕ) → length (written m port register value).bank ≡ length m.bank
written_long m port register value =
    either (λ (r : RegisterMap). length r.bank ≡ length m.bank) (port == 15) (control_written m register value) (with_registers m port (port_written (shown_at m port) register value))
    (either (λ (r : RegisterMap). length r.bank ≡ length m.bank) (register == 33) _ (if register == 96 then _ else m) refl (either (λ (r : RegisterMap). length r.bank ≡ length m.bank) (register == 96) _ m refl refl))
    (length-set m.bank port (port_written (shown_at m port) register value))

request_long : (m : RegisterMap) (o : Option Request) → length (registers_after_request m o).bank ≡ length m.bank
request_long m (Some (Write at value)) =
    either (λ (r : RegisterMap). length r.bank ≡ length m.bank) (is_some (register_at m at.port at.register)) (settled (summary m) (written m at.port at.register value)) m (written_long m at.port at.register value) refl
request_long m other = refl

request_present : (m : RegisterMap) (o : Option Request) (n : ℕ) → (shown_at (registers_after_request m o) n).present ≡ (shown_at m n).present
request_present m (Some (Write at value)) n = write_devices m at.port at.register value n
request_present m other n = refl

heard_shows : (pm : PmState) (f : Stamped) (p : Passed) (after : PmState) → FromHostRule pm f (Ok p) after → ShowsAll pm → ShowsAll after
heard_shows pm f p after rule s = by_test (pm_port f == control_port) rule
  where
    control : (r : Passed) → ToControl pm f (Ok r) after → ShowsAll after
    control passed.Control acts =
        registers_show pm (registers_after_request pm.registers (request_in f.bytes)) after (request_long pm.registers (request_in f.bytes)) (request_present pm.registers (request_in f.bytes)) (ap (λ (x : PmState). x.registers) acts.2)
        (ap (λ (x : PmState). x.ports) acts.2) s
    control _ acts = absurd acts

    device : (o : Option ℕ) (r : Passed) → MatchOption o (ToNobody pm (Ok r) after) (λ conn. ToDevice pm (pm_port f) conn f (Ok r) after) → ShowsAll after
    device None passed.Dropped acts = registers_show pm pm.registers after refl (λ n. refl) (ap (λ (x : PmState). x.registers) acts) (ap (λ (x : PmState). x.ports) acts) s
    device (Some conn) (passed.Down k) acts =
        port_shows pm (pm_port f) (with_down (port_at pm (pm_port f)) (Some (falling conn f))) after refl (ap (λ (x : PmState). x.registers) acts.2) (ap (λ (x : PmState). x.ports) acts.2) s
    device other _ acts = absurd acts

    by_test : (b : Bool) → MatchBool b (ToControl pm f (Ok p) after) (ToPort pm f (Ok p) after) → ShowsAll after
    by_test true acts = control p acts
    by_test false acts = device (passes_to pm (pm_port f)) p acts

given_shows : (pm : PmState) (f : Stamped) (after : PmState) → Gives pm f after → ShowsAll pm → ShowsAll after
given_shows pm f after (FromPort n was next other is port shown e) s = port_shows pm n (with_up (port_at pm n) None) after refl (ap (λ (x : PmState). x.registers) e) (ap (λ (x : PmState). x.ports) e) s
given_shows pm f after (Notice next due is e) s =
    registers_show pm after.registers after (ap (λ (x : PmState). length x.registers.bank) e) (λ n. ap (λ (x : PmState). (shown_at x.registers n).present) e) refl (ap (λ (x : PmState). x.ports) e) s
given_shows pm f after (Answers next is e) s = registers_show pm pm.registers after refl (λ n. refl) (ap (λ (x : PmState). x.registers) e) (ap (λ (x : PmState). x.ports) e) s

-- ---- each step

abbrev AllShown : Places → Type 0
AllShown w = ShowsAll w.multiplier

module _ (old : Places) (a : Answer) (new : Places) (s : AllShown old) where
  alone : (n : ℕ) (R : Place → Outcome → Place → Type 0) → OnDevice old n (Ok a) new R → AllShown new
  alone n R rule = let d : AtDevice old n (Ok a) new R = at_device old n a new R rule in same_shows old.multiplier new.multiplier (ap (λ (w : Places). w.multiplier) d.new_is) s

  both : (n : ℕ) (R : Place → PmState → Outcome → Place → PmState → Type 0) → ((place after : Place) (left : PmState) → R place old.multiplier (Ok a) after left → ShowsAll left) → OnDeviceAndMultiplier old n (Ok a) new R
      → AllShown new
  both n R leaves rule =
      let d : AtBoth old n (Ok a) new R = at_both old n a new R rule in
      same_shows d.left new.multiplier (ap (λ (w : Places). w.multiplier) d.new_is) (leaves d.place d.after d.left d.rule)

  aside : new.multiplier ≡ old.multiplier → AllShown new
  aside same = same_shows old.multiplier new.multiplier same s

presence_shows : (n : ℕ) (place : Place) (pm : PmState) (a : Answer) (after : Place) (left : PmState) → PmPresenceRule n place pm (Ok a) after left → ShowsAll pm → ShowsAll left
presence_shows n place pm answer.Idle after left acts s = same_shows pm left acts.2 s
presence_shows n place pm (answer.Presence p) after left acts s = same_shows (recorded pm n acts.2.0) left acts.2.2 (recorded_shows pm n acts.2.0 s)
presence_shows n place pm _ after left acts s = absurd acts

offer_shows : (n : ℕ) (place : Place) (pm : PmState) (a : Answer) (after : Place) (left : PmState) → PmFromDeviceRule n place pm (Ok a) after left → ShowsAll pm → ShowsAll left
offer_shows n place pm answer.Idle after left acts s = same_shows pm left acts.2 s
offer_shows n place pm answer.Blocked after left acts s = same_shows pm left acts.3 s
offer_shows n place pm (answer.Offered p true) after left acts s = same_shows pm left acts.2.2.1 s
offer_shows n place pm (answer.Offered p false) after left acts s =
    port_shows pm n (with_up (port_at pm n) (Some (stamped n acts.2.0))) left refl (ap (λ (x : PmState). x.registers) acts.2.2.2) (ap (λ (x : PmState). x.ports) acts.2.2.2) s
offer_shows n place pm _ after left acts s = absurd acts

down_shows : (n : ℕ) (place : Place) (pm : PmState) (a : Answer) (after : Place) (left : PmState) → PmDownRule n place pm (Ok a) after left → ShowsAll pm → ShowsAll left
down_shows n place pm answer.Idle after left acts s = same_shows pm left acts.3 s
down_shows n place pm answer.Blocked after left acts s = same_shows pm left acts.2 s
down_shows n place pm (answer.Down p) after left acts s = port_shows pm n (with_down (port_at pm n) None) left refl (ap (λ (x : PmState). x.registers) acts.2.1.1) (ap (λ (x : PmState). x.ports) acts.2.1.1) s
down_shows n place pm _ after left acts s = absurd acts

host_shows : (old : Queue) (pm : PmState) (a : Answer) (new : Queue) (left : PmState) → PmFromHostRule old pm (Ok a) new left → ShowsAll pm → ShowsAll left
host_shows old pm answer.Idle new left acts s = same_shows pm left acts.2 s
host_shows old pm answer.Blocked new left acts s = same_shows pm left acts.2 s
host_shows old pm (answer.Passed p) new left acts s = heard_shows pm acts.0.0 p left acts.0.2 s
host_shows old pm _ new left acts s = absurd acts

up_shows : (pm : PmState) (old : Queue) (a : Answer) (left : PmState) (new : Queue) → PmUpRule pm old (Ok a) left new → ShowsAll pm → ShowsAll left
up_shows pm old answer.Idle left new acts s = same_shows pm left acts.2 s
up_shows pm old answer.Blocked left new acts s = same_shows pm left acts.1 s
up_shows pm old (answer.Up n) left new acts s = given_shows pm acts.1.0 left (gives pm acts.1.0 left acts.1.2) s
up_shows pm old _ left new acts s = absurd acts

step_shows : (old : Places) (s : Step) (a : Answer) (new : Places) → Rule old s (Ok a) new → AllShown old → AllShown new
step_shows old (step.Came n) a new rule s = alone old a new s n (CameRule n) rule
step_shows old (step.Gone n) a new rule s = alone old a new s n (GoneRule n) rule
step_shows old (step.DiskSend n) a new rule s = alone old a new s n (DiskSendRule n) rule
step_shows old (step.Inject n bytes) a new rule s = alone old a new s n (InjectRule n bytes) rule
step_shows old (step.DiskTake n) a new rule s = alone old a new s n (DiskTakeRule n) rule
step_shows old (step.PmPresence n) a new rule s = both old a new s n (PmPresenceRule n) (λ place after left r. presence_shows n place old.multiplier a after left r s) rule
step_shows old (step.PmFromDevice n) a new rule s = both old a new s n (PmFromDeviceRule n) (λ place after left r. offer_shows n place old.multiplier a after left r s) rule
step_shows old (step.PmDown n) a new rule s = both old a new s n (PmDownRule n) (λ place after left r. down_shows n place old.multiplier a after left r s) rule
step_shows old step.PmFromHost a new rule s = host_shows old.downward old.multiplier a new.downward new.multiplier rule.0 s
step_shows old step.PmUp a new rule s = up_shows old.multiplier old.upward a new.multiplier new.upward rule.0 s
step_shows old other a new rule s = aside old a new s (ap (λ (w : Places). w.multiplier) rule.1)

-- ---- a run

run_shows : (old : Places) (steps : List Step) (answers : List Answer) (new : Places) → Run old steps answers new → AllShown old → AllShown new
run_shows old [] [] new run s = same_shows old.multiplier new.multiplier (ap (λ (w : Places). w.multiplier) run) s
run_shows old (x ∷ steps) (a ∷ answers) new run s = run_shows run.0 steps answers new run.2 (step_shows old x a run.0 run.1 s)
run_shows old [] (a ∷ answers) new run s = absurd run
run_shows old (x ∷ steps) [] new run s = absurd run

replicate_at : {A : Type 0} (k : ℕ) (d : A) (n : ℕ) → slice_index_or (replicate k d) n d ≡ d
replicate_at zero d n = refl
replicate_at (suc k) d zero = refl
replicate_at (suc k) d (suc n) = replicate_at k d n

pub shows_all : (config : Config) (units : List Attached) (steps : List Step) (answers : List Answer) (now : Places) → Run (new_world config units) steps answers now → ShowsAll now.multiplier
shows_all config units steps answers now run = run_shows (new_world config units) steps answers now run (record {
  bank = length-replicate 15 opening_port;
  room = length-replicate 15 empty_port;
  agrees = λ n low. ap (λ (p : PortRegisters). p.present) (replicate_at 15 opening_port n) ∙ ap (λ (p : PortState). is_some p.present) (sym (replicate_at 15 empty_port n));
})
