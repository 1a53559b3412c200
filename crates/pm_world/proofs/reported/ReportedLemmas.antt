-- For `polled_errors_are_named`. Where in a run of a world a request was submitted, and where it was reported to be
-- done.
use Rattle.std.proofs.Common.{◌≡◌, ◌==◌, ℕ, true, false, List, [], ◌∷◌, ◌++◌, drop, length, map, refl, sym, ap, subst, ◌∙◌, inl, inr, append_assoc}
use Rattle.std.proofs.{Common.{Some, Ok}, lemmas.Bool.{and_parts, eqb-true, false≢true}}
use Rattle.std.specs.Prelude.{◌⊎◌}
use Rattle.fis_view.specs.Frames.{Stamped}
use Rattle.slots.specs.Slots.{has_bit}
use Rattle.hba_fbs.specs.{declared.report.TakeReport.TakeReport, Taking.port_of}
use Rattle.hba_driver.specs.declared.{request.{Request.Request, Ticket.Ticket}, slot.Phase.{Phase, TheVariants.{Waits, Issued, Ended}}}
use Rattle.hba_driver.specs.{Drivers.{Entry, entry_at, has_ended_in, rephased}, Laws.Goes, HostTurns.{DoesAll, Host, HostTurn, Pushed, Submitted}}
use Rattle.hba_driver.specs.{HostTurns.Took, Submits.new_entry, Between.{AllStand, Fresh, IsOnWay, Reports}}
use Rattle.hba_driver.proofs.Door.{all_wider, comes_from, free_other, turn_stands, way_turn}
use Rattle.pm_world.specs.{Places.Places, Rules.{CameRule, DiskSendRule, DiskTakeRule, GoneRule, InjectRule, PmDownRule, PmFromDeviceRule}}
use Rattle.pm_world.specs.{Rules.{PmPresenceRule, Rule, Run}, Turns.turn_of, declared.step.{Step.Step, Answer.Answer}, Runs.{IsStepOf, Telling, over}}
use Rattle.pm_world.specs.Units.{happens}
use Rattle.pm_world.specs.declared.step.Step.TheVariants as step
use Rattle.pm_world.specs.declared.step.Answer.TheVariants as answer
use Rattle.pm_world.proofs.{turns.HostFold.rule_does, steps.Steps.{at_both, at_device}}

-- ## Steps of a run

abbrev pub first_of : (s : Step) (a : Answer) (steps : List Step) (answers : List Answer) (old new : Places) (run : Run old (s ∷ steps) (a ∷ answers) new)
    → IsStepOf s a old new (s ∷ steps) (a ∷ answers) run
first_of s a steps answers old new run = record {
  before = [];
  told = [];
  after = steps;
  later = answers;
  steps_are = refl;
  answers_are = refl;
  at = old;
  next = run.0;
  came = refl;
  rule = run.1;
  went = run.2;
  worlds = refl;
}

abbrev pub later_of : (t : Step) (b : Answer) (s : Step) (a : Answer) (steps : List Step) (answers : List Answer) (old new : Places)
    (run : Run old (s ∷ steps) (a ∷ answers) new) → IsStepOf t b run.0 new steps answers run.2 → IsStepOf t b old new (s ∷ steps) (a ∷ answers) run
later_of t b s a steps answers old new run i = record {
  before = s ∷ i.before;
  told = a ∷ i.told;
  after = i.after;
  later = i.later;
  steps_are = ap (λ (xs : List Step). s ∷ xs) i.steps_are;
  answers_are = ap (λ (xs : List Answer). a ∷ xs) i.answers_are;
  at = i.at;
  next = i.next;
  came = (run.0, run.1, i.came);
  rule = i.rule;
  went = i.went;
  worlds = ap (λ (ws : List Places). old ∷ ws) i.worlds;
}

-- a step by another name
abbrev pub renamed : (s t : Step) (a b : Answer) (old new : Places) (steps : List Step) (answers : List Answer) (run : Run old steps answers new)
    → s ≡ t → a ≡ b → IsStepOf s a old new steps answers run → IsStepOf t b old new steps answers run
renamed s t a b old new steps answers run same_step same_answer i = record {
  before = i.before;
  told = i.told;
  after = i.after;
  later = i.later;
  steps_are = i.steps_are ∙ ap (λ (x : Step). i.before ++ x ∷ i.after) same_step;
  answers_are = i.answers_are ∙ ap (λ (x : Answer). i.told ++ x ∷ i.later) same_answer;
  at = i.at;
  next = i.next;
  came = i.came;
  rule = subst (λ (x : Step). Rule i.at x (Ok b) i.next) same_step (subst (λ (x : Answer). Rule i.at s (Ok x) i.next) same_answer i.rule);
  went = i.went;
  worlds = i.worlds;
}

-- a step that takes a FIS is the step of the host
pub is_take : (old new : Places) (s : Step) (port conn number : ℕ) (bytes : List ℕ) (report : TakeReport)
    → Rule old s (Ok (answer.Took port conn number bytes report)) new → s ≡ step.HostTake
is_take old new step.HostTake port conn number bytes report rule = refl
is_take old new (step.Came m) port conn number bytes report rule =
    absurd (at_device old m (answer.Took port conn number bytes report) new (CameRule m) rule).rule.1
is_take old new (step.Gone m) port conn number bytes report rule =
    absurd (at_device old m (answer.Took port conn number bytes report) new (GoneRule m) rule).rule.1
is_take old new (step.DiskSend m) port conn number bytes report rule =
    absurd (at_device old m (answer.Took port conn number bytes report) new (DiskSendRule m) rule).rule.1
is_take old new (step.Inject m given) port conn number bytes report rule =
    absurd (at_device old m (answer.Took port conn number bytes report) new (InjectRule m given) rule).rule.1
is_take old new (step.DiskTake m) port conn number bytes report rule =
    absurd (at_device old m (answer.Took port conn number bytes report) new (DiskTakeRule m) rule).rule
is_take old new (step.PmPresence m) port conn number bytes report rule =
    absurd (at_both old m (answer.Took port conn number bytes report) new (PmPresenceRule m) rule).rule
is_take old new (step.PmFromDevice m) port conn number bytes report rule =
    absurd (at_both old m (answer.Took port conn number bytes report) new (PmFromDeviceRule m) rule).rule
is_take old new (step.PmDown m) port conn number bytes report rule =
    absurd (at_both old m (answer.Took port conn number bytes report) new (PmDownRule m) rule).rule
is_take old new other port conn number bytes report rule = absurd rule.0

-- ## Turns that take nothing

abbrev IsCalm : HostTurn → Type 0
IsCalm (Took frame report) = ⊥
IsCalm (Submitted dev request ticket) = ⊥
IsCalm turn = Prim.Unit {0}

abbrev AreCalm : List HostTurn → Type 0
AreCalm [] = Prim.Unit {0}
AreCalm (t ∷ ts) = IsCalm t × AreCalm ts

-- a step that takes no FIS and no request
abbrev IsCalmStep : Step → Answer → Type 0
IsCalmStep s (answer.Took port conn number bytes report) = ⊥
IsCalmStep (step.Submit dev request) (answer.Submitted ticket) = ⊥
IsCalmStep s a = Prim.Unit {0}

pushed_calm : (frames : List Stamped) → AreCalm (map (λ frame. Pushed (Some frame)) frames)
pushed_calm [] = tt
pushed_calm (f ∷ frames) = (tt, pushed_calm frames)

calm_turns : (old : Places) (s : Step) (a : Answer) (new : Places) → IsCalmStep s a → AreCalm (turn_of old s a new)
calm_turns old s (answer.Took port conn number bytes report) new calm = absurd calm
calm_turns old step.HostPush answer.Pushed new calm = pushed_calm (drop (length old.downward.frames) new.downward.frames)
calm_turns old step.HostPush answer.Idle new calm = (tt, tt)
calm_turns old s answer.Ticked new calm = (tt, tt)
calm_turns old s (answer.Polled c) new calm = (tt, tt)
calm_turns old (step.Put at bytes) answer.Put new calm = (tt, tt)
calm_turns old (step.Submit dev request) (answer.Submitted ticket) new calm = absurd calm
calm_turns old s a new calm = tt

pub way_over : (turns : List HostTurn) (old new : Host) → DoesAll old turns new → IsOnWay old → IsOnWay new
way_over [] old new run w = subst IsOnWay (sym run) w
way_over (t ∷ turns) old new run w = way_over turns run.0 new run.2 (way_turn old t run.0 run.1 w)

-- ## Reported in a run

unreported : (old : Host) (t : HostTurn) (s : ℕ) (e : Entry) → IsCalm t → Reports old t s e → ⊥
unreported old (Took frame report) s e calm r = calm
unreported old (Submitted dev request ticket) s e calm r = calm
unreported old other s e calm r = false≢true r.1

calm_stand : (turns : List HostTurn) (P : ℕ → Entry → Type 0) (old new : Host) → DoesAll old turns new → AreCalm turns → IsOnWay old → AllStand P old
    → AllStand P new
calm_stand [] P old new run calm w stand = subst (AllStand P) (sym run) stand
calm_stand (t ∷ turns) P old new run calm w stand =
    calm_stand turns P run.0 new run.2 calm.1 (way_turn old t run.0 run.1 w)
    (turn_stands P P old w stand (λ s e p. p) t run.0 run.1 (λ s e r. absurd (unreported old t s e calm.0 r)))

-- the step reports a request
abbrev ReportsAt : Places → Answer → ℕ → Entry → Type 0
ReportsAt old (answer.Took port conn number bytes report) slot e = Reports old.host (Took bytes report) slot e
ReportsAt old a slot e = ⊥

abbrev OrReports : (ℕ → Entry → Type 0) → Places → Answer → ℕ → Entry → Type 0
OrReports P old a slot e = P slot e ⊎ ReportsAt old a slot e

one_stands : (t : HostTurn) (P Q : ℕ → Entry → Type 0) (old new : Host) → DoesAll old (t ∷ []) new → IsOnWay old → AllStand P old
    → ((s : ℕ) (e : Entry) → P s e → Q s e) → ((s : ℕ) (e : Entry) → Reports old t s e → Q s e) → AllStand Q new
one_stands t P Q old new run w stand on reports =
    subst (AllStand Q) (sym run.2) (turn_stands P Q old w stand on t run.0 run.1 reports)

calm_step : (P : ℕ → Entry → Type 0) (old : Places) (s : Step) (a : Answer) (new : Places) → Rule old s (Ok a) new → IsOnWay old.host → AllStand P old.host
    → IsCalmStep s a → AllStand (OrReports P old a) new.host
calm_step P old s a new rule w stand calm =
    all_wider P (OrReports P old a) new.host (λ r e p. inl p)
    (calm_stand (turn_of old s a new) P old.host new.host (rule_does old s a new rule) (calm_turns old s a new calm) w stand)

step_stands : (P : ℕ → Entry → Type 0) (old : Places) (s : Step) (a : Answer) (new : Places) → Rule old s (Ok a) new → IsOnWay old.host → AllStand P old.host
    → AllStand (OrReports P old a) new.host
step_stands P old s (answer.Took port conn number bytes report) new rule w stand =
    one_stands (Took bytes report) P (OrReports P old (answer.Took port conn number bytes report)) old.host new.host
    (rule_does old s (answer.Took port conn number bytes report) new rule) w stand (λ r e p. inl p) (λ r e q. inr q)
step_stands P old (step.Submit dev request) (answer.Submitted ticket) new rule w stand =
    one_stands (Submitted dev request ticket.0) P (OrReports P old (answer.Submitted ticket)) old.host new.host
    (rule_does old (step.Submit dev request) (answer.Submitted ticket) new rule) w stand (λ r e p. inl p) (λ r e q. absurd (false≢true q.1))
step_stands P old s a new rule w stand = calm_step P old s a new rule w stand tt

-- a request, as it waited, was reported in a run
pub record TookIn (old new : Places) (steps : List Step) (answers : List Answer) (run : Run old steps answers new) (slot : ℕ) (e : Entry) : Type 0 where
  pub s : Step
  pub port : ℕ
  pub conn : ℕ
  pub number : ℕ
  pub bytes : List ℕ
  pub report : TakeReport
  pub took : IsStepOf s (answer.Took port conn number bytes report) old new steps answers run
  pub of_dev : port_of bytes ≡ e.head.dev
  pub done : has_bit report.done slot ≡ true
  pub issued : entry_at took.at.host.driver.entries slot ≡ Some (rephased Issued e)

took_first : (s : Step) (a : Answer) (steps : List Step) (answers : List Answer) (old new : Places) (run : Run old (s ∷ steps) (a ∷ answers) new) (slot : ℕ)
    (e : Entry) → ReportsAt old a slot e → TookIn old new (s ∷ steps) (a ∷ answers) run slot e
took_first s (answer.Took port conn number bytes report) steps answers old new run slot e r =
    let parts = and_parts (has_bit report.done slot) (port_of bytes == e.head.dev) r.1 in
    record {
      s = s;
      port = port;
      conn = conn;
      number = number;
      bytes = bytes;
      report = report;
      took = first_of s (answer.Took port conn number bytes report) steps answers old new run;
      of_dev = eqb-true (port_of bytes) e.head.dev parts.1;
      done = parts.0;
      issued = r.0;
    }
took_first s a steps answers old new run slot e r = absurd r

took_later : (s : Step) (a : Answer) (steps : List Step) (answers : List Answer) (old new : Places) (run : Run old (s ∷ steps) (a ∷ answers) new) (slot : ℕ)
    (e : Entry) → TookIn run.0 new steps answers run.2 slot e → TookIn old new (s ∷ steps) (a ∷ answers) run slot e
took_later s a steps answers old new run slot e r = record {
  s = r.s;
  port = r.port;
  conn = r.conn;
  number = r.number;
  bytes = r.bytes;
  report = r.report;
  took = later_of r.s (answer.Took r.port r.conn r.number r.bytes r.report) s a steps answers old new run r.took;
  of_dev = r.of_dev;
  done = r.done;
  issued = r.issued;
}

pub stand_over : (P : ℕ → Entry → Type 0) (old : Places) (steps : List Step) (answers : List Answer) (new : Places) (run : Run old steps answers new)
    → IsOnWay old.host → AllStand P old.host → AllStand (λ (s : ℕ) (e : Entry). P s e ⊎ TookIn old new steps answers run s e) new.host
stand_over P old [] [] new run w stand =
    all_wider P (λ (s : ℕ) (e : Entry). P s e ⊎ TookIn old new [] [] run s e) new.host (λ s e p. inl p)
    (subst (λ (x : Places). AllStand P x.host) (sym run) stand)
stand_over P old [] (a ∷ answers) new run w stand = absurd run
stand_over P old (s ∷ steps) [] new run w stand = absurd run
stand_over P old (s ∷ steps) (a ∷ answers) new run w stand =
    all_wider (λ (r : ℕ) (e : Entry). OrReports P old a r e ⊎ TookIn run.0 new steps answers run.2 r e)
    (λ (r : ℕ) (e : Entry). P r e ⊎ TookIn old new (s ∷ steps) (a ∷ answers) run r e) new.host widens
    (stand_over (OrReports P old a) run.0 steps answers new run.2
    (way_over (turn_of old s a run.0) old.host run.0.host (rule_does old s a run.0 run.1) w) (step_stands P old s a run.0 run.1 w stand))
  where
    widens : (r : ℕ) (e : Entry) → OrReports P old a r e ⊎ TookIn run.0 new steps answers run.2 r e → P r e ⊎ TookIn old new (s ∷ steps) (a ∷ answers) run r e
    widens r e (inl (inl p)) = inl p
    widens r e (inl (inr q)) = inr (took_first s a steps answers old new run r e q)
    widens r e (inr q) = inr (took_later s a steps answers old new run r e q)

-- ## Submitted in a run

-- a request stood in its slot before, whatever it has come to
pub record StoodIn (h : Host) (slot : ℕ) (f : Entry) : Type 0 where
  pub entry : Entry
  pub here : entry_at h.driver.entries slot ≡ Some entry
  pub same : rephased Waits entry ≡ rephased Waits f
  pub unended : has_ended_in f.head.phase ≡ false → has_ended_in entry.head.phase ≡ false

-- what has not ended had not ended before
pub open_before : (was now : Phase) → Goes was now → has_ended_in now ≡ false → has_ended_in was ≡ false
open_before (Ended outcome) now goes unended = absurd (false≢true (sym unended ∙ ap has_ended_in goes))
open_before other now goes unended = refl

stood_before : (a b : Host) (slot : ℕ) (f : Entry) → b ≡ a → StoodIn b slot f → StoodIn a slot f
stood_before a b slot f same it = subst (λ (h : Host). StoodIn h slot f) same it

calm_stood : (turns : List HostTurn) (old new : Host) → DoesAll old turns new → AreCalm turns → (slot : ℕ) (f : Entry)
    → entry_at new.driver.entries slot ≡ Some f → StoodIn old slot f
calm_stood [] old new run calm slot f here = stood_before old new slot f run (record { entry = f; here = here; same = refl; unended = λ h. h })
calm_stood (t ∷ turns) old new run calm slot f here =
    let later : StoodIn run.0 slot f = calm_stood turns run.0 new run.2 calm.1 slot f here in
    elim (comes_from old t run.0 run.1 slot later.entry later.here) [
      | inl stood ↦ record { entry = stood.entry; here = stood.here; same = ap (rephased Waits) (sym stood.on.same) ∙ later.same; unended = λ h. open_before stood.entry.head.phase later.entry.head.phase stood.on.goes (later.unended h) }
      | inr fresh ↦ absurd (not_fresh t later.entry calm.0 fresh)
    ]
  where
    not_fresh : (t : HostTurn) (e : Entry) → IsCalm t → Fresh old.driver t slot e → ⊥
    not_fresh (Submitted dev request ticket) e is fresh = is
    not_fresh other e is fresh = fresh

-- nothing stands in the slot
abbrev pub IsFreeSlot : ℕ → Host → Type 0
IsFreeSlot slot h = (x : Entry) → entry_at h.driver.entries slot ≡ Some x → ⊥

-- the step took the request
abbrev pub SubmitsAt : Places → Step → Answer → ℕ → Entry → Type 0
SubmitsAt old (step.Submit dev request) (answer.Submitted ticket) slot f =
    (ticket.0 ≡ f.head.ticket) × (new_entry ticket.0 dev request ≡ f) × IsFreeSlot slot old.host
SubmitsAt old s a slot f = ⊥

pub step_stood : (old : Places) (s : Step) (a : Answer) (new : Places) → Rule old s (Ok a) new → (slot : ℕ) (f : Entry)
    → entry_at new.host.driver.entries slot ≡ Some f → StoodIn old.host slot f ⊎ SubmitsAt old s a slot f
step_stood old s (answer.Took port conn number bytes report) new rule slot f here =
    let does = rule_does old s (answer.Took port conn number bytes report) new rule in
    elim (comes_from old.host (Took bytes report) does.0 does.1 slot f (ap (λ (h : Host). entry_at h.driver.entries slot) (sym does.2) ∙ here)) [
      | inl stood ↦ inl (record { entry = stood.entry; here = stood.here; same = ap (rephased Waits) (sym stood.on.same); unended = open_before stood.entry.head.phase f.head.phase stood.on.goes })
      | inr fresh ↦ absurd fresh
    ]
step_stood old (step.Submit dev request) (answer.Submitted ticket) new rule slot f here =
    elim (comes_from old.host (Submitted dev request ticket.0) new.host rule.0 slot f here) [
      | inl stood ↦ inl (record { entry = stood.entry; here = stood.here; same = ap (rephased Waits) (sym stood.on.same); unended = open_before stood.entry.head.phase f.head.phase stood.on.goes })
      | inr fresh ↦
          let is : new_entry ticket.0 dev request ≡ f = ap (λ (k : ℕ). new_entry k dev request) rule.0.taken.next ∙ fresh.1 in
          inr (
            ap (λ (x : Entry). x.head.ticket) is,
            is,
            λ x there. free_other old.host.driver old.host.memory dev request rule.0.accepted slot x there fresh.0,
          )
    ]
step_stood old s a new rule slot f here =
    inl (calm_stood (turn_of old s a new) old.host new.host (rule_does old s a new rule) (calm_turns old s a new tt) slot f here)

-- what is told over a run that has this step
abbrev pub IsToldAt : {A : Type 0} → Telling A → (s : Step) (a : Answer) (old new : Places) (steps : List Step) (answers : List Answer)
    (run : Run old steps answers new) → IsStepOf s a old new steps answers run → Type 0
IsToldAt tell s a old new steps answers run i =
    over tell old steps answers new run
    ≡ over tell old i.before i.told i.at i.came ++ (tell i.at s a i.next ++ over tell i.next i.after i.later new i.went)

pub record SubmittedIn (old new : Places) (steps : List Step) (answers : List Answer) (run : Run old steps answers new) (slot : ℕ) (e : Entry) : Type 0
  where
    pub ticket : Ticket
    pub dev : ℕ
    pub request : Request
    pub its : IsStepOf (step.Submit dev request) (answer.Submitted ticket) old new steps answers run
    pub is : new_entry ticket.0 dev request ≡ e
    pub free : IsFreeSlot slot its.at.host
    pub turns : IsToldAt turn_of (step.Submit dev request) (answer.Submitted ticket) old new steps answers run its
    pub happened : (n : ℕ) → IsToldAt (happens n) (step.Submit dev request) (answer.Submitted ticket) old new steps answers run its

abbrev pub submitted_first : (s : Step) (a : Answer) (steps : List Step) (answers : List Answer) (old new : Places) (run : Run old (s ∷ steps) (a ∷ answers) new) (slot : ℕ)
    (f : Entry) → SubmitsAt old s a slot f → SubmittedIn old new (s ∷ steps) (a ∷ answers) run slot (rephased Waits f)
submitted_first (step.Submit dev request) (answer.Submitted ticket) steps answers old new run slot f is = record {
  ticket = ticket;
  dev = dev;
  request = request;
  its = first_of (step.Submit dev request) (answer.Submitted ticket) steps answers old new run;
  is = ap (rephased Waits) is.1;
  free = is.2;
  turns = refl;
  happened = λ n. refl;
}
submitted_first s a steps answers old new run slot f is = absurd is

pub told_later : {A : Type 0} (first whole before rest : List A) → whole ≡ before ++ rest → first ++ whole ≡ (first ++ before) ++ rest
told_later {A} first whole before rest is = ap (λ (xs : List A). first ++ xs) is ∙ sym (append_assoc first before rest)

abbrev pub submitted_later : (s : Step) (a : Answer) (steps : List Step) (answers : List Answer) (old new : Places) (run : Run old (s ∷ steps) (a ∷ answers) new) (slot : ℕ)
    (e : Entry) → SubmittedIn run.0 new steps answers run.2 slot e → SubmittedIn old new (s ∷ steps) (a ∷ answers) run slot e
submitted_later s a steps answers old new run slot e i = record {
  ticket = i.ticket;
  dev = i.dev;
  request = i.request;
  its = later_of (step.Submit i.dev i.request) (answer.Submitted i.ticket) s a steps answers old new run i.its;
  is = i.is;
  free = i.free;
  turns = told_later (turn_of old s a run.0) _ _ _ i.turns;
  happened = λ n. told_later (happens n old s a run.0) _ _ _ (i.happened n);
}

pub submitted_over : (old : Places) (steps : List Step) (answers : List Answer) (new : Places) (run : Run old steps answers new) (slot : ℕ) (f : Entry)
    → entry_at new.host.driver.entries slot ≡ Some f → StoodIn old.host slot f ⊎ SubmittedIn old new steps answers run slot (rephased Waits f)
submitted_over old [] [] new run slot f here =
    inl (subst (λ (x : Places). StoodIn x.host slot f) run (record { entry = f; here = here; same = refl; unended = λ h. h }))
submitted_over old [] (a ∷ answers) new run slot f here = absurd run
submitted_over old (s ∷ steps) [] new run slot f here = absurd run
submitted_over old (s ∷ steps) (a ∷ answers) new run slot f here = elim (submitted_over run.0 steps answers new run.2 slot f here) [
  | inr later ↦ inr (submitted_later s a steps answers old new run slot (rephased Waits f) later)
  | inl from ↦ elim (step_stood old s a run.0 run.1 slot from.entry from.here) [
    | inl stood ↦ inl (record { entry = stood.entry; here = stood.here; same = stood.same ∙ from.same; unended = λ h. stood.unended (from.unended h) })
    | inr fresh ↦
        inr (subst (λ (x : Entry). SubmittedIn old new (s ∷ steps) (a ∷ answers) run slot x) from.same
        (submitted_first s a steps answers old new run slot from.entry fresh))
  ]
]
