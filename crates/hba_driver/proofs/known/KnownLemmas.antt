-- For `devices_are_known`. A device that is not known stays unknown in a tick, unless its IDENTIFY DEVICE came back.
use Rattle.std.proofs.Common.{◌≡◌, ◌≢◌, ℕ, zero, suc, Bool, true, false, ◌&&◌, List, [], ◌∷◌, map, get_or, set, refl, sym, ◌∙◌, ap, subst, inl, inr}
use Rattle.std.proofs.{Common.{Option, Some, None}, lemmas.Bool.{and_parts, eq-eqb, eqb-true, false≢true, true≢false}}
use Rattle.std.specs.{Prelude.{if◌then◌else◌, ◌==◌, nat_lt}, Option.option_map}
use Rattle.slots.specs.Slots.{match_some}
use Rattle.hba_driver.specs.declared.{order.Order.{Order, TheVariants.{CountPorts, Scan, Clear, Detect}}, path.{Path.Path, Recovery.TheVariants.Log}}
use Rattle.hba_driver.specs.declared.path.{Recovery.TheVariants.Reset, Stage.{Stage, TheVariants.{Identify, ReadLog, AssertReset, AwaitReset}}}
use Rattle.hba_driver.specs.declared.{path.TaskFile.TaskFile, plan.Device.{Device, TheVariants.{Absent, Starting, Ready, Unusable, Recovering}}}
use Rattle.hba_driver.specs.declared.{plan.Plan.Plan, request.Outcome.TheVariants.{Aborted, Done, PortError, Removed}, sight.ErrorLog.ErrorLog}
use Rattle.hba_driver.specs.{Seeing.Sight, declared.{slot.{Head.Head, Phase.{Phase, TheVariants.{Aside, Ended, Issued}}}, turn.Act.Act}}
use Rattle.hba_driver.specs.{declared.turn.{Logged.Logged, Turn.Turn}, Drivers.{Driver, Entry, device_at, entry_at, is_issued, is_issued_in, rephase}}
use Rattle.hba_driver.specs.{Drivers.{rephase_all, rephased, waits}, Paths.{first_stage, next_stage, recovery, reset_if_there}, Ticks.acted}
use Rattle.hba_driver.specs.Ticks.{after_tick, done_ended, entries_after, from_reset, is_aside_of, is_done, is_named_of, is_open, is_open_of}
use Rattle.hba_driver.specs.Ticks.{log_outcome, logged_ended, ordered, plan_after, recovering, removed, seen, stage_ended, turn, unless}
use Rattle.hba_driver.specs.Turns.{advanced, answered, control_seen, detected, device_seen, found_of, found_there, is_back, is_in_reset, is_ready}
use Rattle.hba_driver.specs.Turns.{is_there, may_issue, met, met_order, met_path, met_stage, noted, path_answered, path_to, turn_of, with_next}
use Rattle.hba_driver.specs.Between.{Due, IsNew, IsUnknown, NoneIssued, Waiting, is_logging, is_named, is_reading, is_trusted}
use Rattle.hba_driver.specs.declared.turn.Act.TheVariants as act
use Rattle.hba_driver.proofs.ticks.{DueLemmas.{StepsBy, early_by, late_by, order_allowed_by, turn_by}, LifeLemmas.{due_seen, entry_of_rephased}}
use Rattle.hba_driver.proofs.calls.RequestLemmas.{set_cases}

-- ---- a device that is not known

-- the IDENTIFY DEVICE of device n came back
abbrev pub comes_back : Sight → ℕ → Option Path → Bool
comes_back v n None = false
comes_back v n (Some path) = (path.dev == n) && (is_named path.stage && is_back v path)

-- one device is set
set_new : (devices : List Device) (n k : ℕ) (d : Device) → (k ≡ n → is_trusted d ≡ false) → is_trusted (get_or devices n Absent) ≡ false → is_trusted (get_or (set devices k d) n Absent) ≡ false
set_new [] n k d here h = h
set_new (x ∷ devices) zero zero d here h = here refl
set_new (x ∷ devices) zero (suc k) d here h = h
set_new (x ∷ devices) (suc n) zero d here h = h
set_new (x ∷ devices) (suc n) (suc k) d here h = set_new devices n k d (λ same. here (ap suc same)) h

not_both : (a b : Bool) → (a && b) ≡ false → a ≡ true → b ≡ false
not_both true b h is = h
not_both false b h is = absurd (false≢true is)

if_new : (n : ℕ) (b : Bool) (p q : Plan) → IsNew n p → IsNew n q → IsNew n (if b then p else q)
if_new n true p q h k = h
if_new n false p q h k = k

-- ---- slot 31

shown_new : (device : Device) → is_trusted device ≡ false → is_trusted (found_there device) ≡ false
shown_new Absent new = new
shown_new other new = new

detected_new : (status : ℕ) (device : Device) → is_trusted device ≡ false → is_trusted (detected status device) ≡ false
detected_new status device new = by_test (is_there status)
  where
    by_test : (b : Bool) → is_trusted (if b then found_there device else Absent) ≡ false
    by_test true = shown_new device new
    by_test false = refl

new_noted : (n : ℕ) (v : Sight) (order : Order) (plan : Plan) → IsNew n plan → IsNew n (noted v order plan)
unfolding noted
new_noted n v CountPorts plan h = record { device = h.device; path = h.path }
new_noted n v Scan plan h = record { device = h.device; path = h.path }
new_noted n v (Detect port) plan h = record {
  device = set_new plan.devices n port (detected v.answer (device_at plan port))
      (λ same. detected_new v.answer (device_at plan port) (subst (λ (k : ℕ). is_trusted (device_at plan k) ≡ false) (sym same) h.device)) h.device;
  path = h.path;
}
new_noted n v order plan h = h

path_noted : (v : Sight) (order : Order) (plan : Plan) → (noted v order plan).path ≡ plan.path
unfolding noted
path_noted v CountPorts plan = refl
path_noted v order plan = refl

path_if : (b : Bool) (p q : Plan) (o : Option Path) → p.path ≡ o → q.path ≡ o → (if b then p else q).path ≡ o
path_if true p q o h k = h
path_if false p q o h k = k

new_next : (n : ℕ) (order : Order) (plan : Plan) → IsNew n plan → IsNew n (with_next order plan)
new_next n order plan h = record { device = h.device; path = h.path }

new_answered : (n : ℕ) (v : Sight) (plan : Plan) → IsNew n plan → IsNew n (answered v plan)
new_answered n v plan h = if_new n _ (with_next plan.order (noted v plan.order plan)) plan (new_next n plan.order (noted v plan.order plan) (new_noted n v plan.order plan h)) h

new_met : (n : ℕ) (v : Sight) (plan : Plan) → IsNew n plan → IsNew n (met v plan)
new_met n v plan h = if_new n plan.asked plan (record plan { order = met_order v plan.order }) h (record { device = h.device; path = h.path })

new_control : (n : ℕ) (v : Sight) (plan : Plan) → IsNew n plan → IsNew n (control_seen v plan)
new_control n v plan h = new_met n v (answered v plan) (new_answered n v plan h)

pub path_control : (v : Sight) (plan : Plan) → (control_seen v plan).path ≡ plan.path
path_control v plan =
    path_if (answered v plan).asked (answered v plan) (record (answered v plan) { order = met_order v (answered v plan).order }) plan.path path_answer path_answer
  where
    path_answer : (answered v plan).path ≡ plan.path
    path_answer = path_if _ (with_next plan.order (noted v plan.order plan)) plan plan.path (path_noted v plan.order plan) refl

-- ---- slot 30

-- what is found of another device, or by a stage that finds nothing
new_found : (n : ℕ) (v : Sight) (stage : Stage) (dev : ℕ) (plan : Plan) → (is_named stage ≡ true → dev ≢ n) → (is_logging stage ≡ true → dev ≢ n) → IsNew n plan → IsNew n (found_of v stage dev plan)
unfolding found_of
new_found n v Identify dev plan named logging h = record { device = set_new plan.devices n dev _ (λ same. absurd (named refl same)) h.device; path = h.path }
new_found n v (ReadLog file) dev plan named logging h = record { device = set_new plan.devices n dev _ (λ same. absurd (logging refl same)) h.device; path = h.path }
new_found n v stage dev plan named logging h = h

and_false : (b : Bool) → (b && false) ≡ false
and_false true = refl
and_false false = refl

next_new : (n dev : ℕ) (stage : Stage) → is_reading n (path_to dev (next_stage stage)) ≡ false
unfolding next_stage
next_new n dev Identify = refl
next_new n dev (ReadLog file) = refl
next_new n dev other = and_false (dev == n)

advanced_new : (n : ℕ) (v : Sight) (path : Path) (plan : Plan) → (is_named path.stage ≡ true → path.dev ≢ n) → (is_logging path.stage ≡ true → path.dev ≢ n) → IsNew n plan → IsNew n (advanced v path plan)
advanced_new n v path plan named logging h =
    record { device = (new_found n v path.stage path.dev plan named logging h).device; path = next_new n path.dev path.stage }

answered_new : (n : ℕ) (v : Sight) (o : Option Path) (plan : Plan) → is_reading n o ≡ false → comes_back v n o ≡ false → IsNew n plan → IsNew n (match_some o plan (λ path. if is_back v path then advanced v path plan else plan))
answered_new n v None plan reading back h = h
answered_new n v (Some path) plan reading back h = by_back (is_back v path) refl
  where
    by_back : (b : Bool) → is_back v path ≡ b → IsNew n (if b then advanced v path plan else plan)
    by_back true is = advanced_new n v path plan
        (λ named same. true≢false (sym is ∙ not_both (is_named path.stage) (is_back v path) (not_both (path.dev == n) (is_named path.stage && is_back v path) back (eq-eqb path.dev n same)) named))
        (λ logging same. true≢false (sym logging ∙ not_both (path.dev == n) (is_logging path.stage) reading (eq-eqb path.dev n same))) h
    by_back false is = h

stage_met : (v : Sight) (dev : ℕ) (stage : Stage) → is_logging (met_stage v dev stage) ≡ is_logging stage
unfolding met_stage
stage_met v dev AwaitReset = by_test (is_in_reset v dev)
  where
    by_test : (b : Bool) → is_logging (if b then AwaitReset else Identify) ≡ false
    by_test true = refl
    by_test false = refl
stage_met v dev stage = refl

met_new : (n : ℕ) (v : Sight) (o : Option Path) → is_reading n o ≡ false → is_reading n (option_map (met_path v) o) ≡ false
met_new n v None h = refl
met_new n v (Some path) h = by_asked path.asked
  where
    by_asked : (b : Bool) → is_reading n (Some (if b then path else record path { stage = met_stage v path.dev path.stage })) ≡ false
    by_asked true = h
    by_asked false = ap (λ (b : Bool). (path.dev == n) && b) (stage_met v path.dev path.stage) ∙ h

new_device : (n : ℕ) (v : Sight) (plan : Plan) → comes_back v n plan.path ≡ false → IsNew n plan → IsNew n (device_seen v plan)
new_device n v plan back h =
    let next : IsNew n (path_answered v plan) = answered_new n v plan.path plan h.path back h in
    record { device = next.device; path = met_new n v (path_answered v plan).path next.path }

-- ---- the turn

-- no log of device n is to be read
abbrev pub Fits : ℕ → Option Act → Type 0
Fits n (Some (act.Steps dev stage)) = ((dev == n) && is_logging stage) ≡ false
Fits n a = Unit {0}

-- a device that is not known begins with no log
first_new : (d : Device) (signed : Bool) (stage : Stage) → is_trusted d ≡ false → first_stage d signed ≡ Some stage → is_logging stage ≡ false
first_new Starting true stage h e = ap is_logging (sym (same_stage Identify stage e))
  where
    same_stage : (x y : Stage) → Some x ≡ Some y → x ≡ y
    same_stage x y e = cc
first_new Starting false stage h e = absurd (cc)
first_new (Recovering (Log file)) signed stage h e = absurd (true≢false h)
first_new (Recovering Reset) signed stage h e = ap is_logging (sym (same_stage AssertReset stage e))
  where
    same_stage : (x y : Stage) → Some x ≡ Some y → x ≡ y
    same_stage x y e = cc
first_new other signed stage h e = absurd (cc)

fits_step : (n : ℕ) (v : Sight) (plan : Plan) (dev : ℕ) (stage : Stage) → IsNew n plan → StepsBy v plan dev stage → ((dev == n) && is_logging stage) ≡ false
fits_step n v plan dev stage h (inr on) = subst (λ (o : Option Path). is_reading n o ≡ false) on h.path
fits_step n v plan dev stage h (inl free) = by_same (dev == n) refl
  where
    by_same : (b : Bool) → (dev == n) ≡ b → (b && is_logging stage) ≡ false
    by_same true same = first_new (device_at plan dev) _ stage (subst (λ (k : ℕ). is_trusted (device_at plan k) ≡ false) (sym (eqb-true dev n same)) h.device) free.1.1
    by_same false same = refl

-- what the turn knows and does
record TurnNew (n : ℕ) (t : Turn) : Type 0 where
  plan : IsNew n t.plan
  act : Fits n t.act

new_turn : (n : ℕ) (v : Sight) (plan : Plan) (entries : List (Option Entry)) → comes_back v n plan.path ≡ false → IsNew n plan → TurnNew n (turn_of v plan entries)
new_turn n v plan entries back h =
    turn_by (TurnNew n) v plan entries (record { plan = h; act = early_by (Fits n) tt v plan (λ h. tt) (λ h. tt) (λ h. tt) (λ dev h. tt) })
    (record { plan = control; act = order_allowed_by (Fits n) tt v (control_seen v plan) entries (λ un fields. tt) })
    (record { plan = device; act = late_by (Fits n) tt v (device_seen v (control_seen v plan)) entries (λ dev stage way fields. fits_step n v (device_seen v (control_seen v plan)) dev stage device way) (λ slot e h. tt) })
  where
    control : IsNew n (control_seen v plan)
    control = new_control n v plan h

    device : IsNew n (device_seen v (control_seen v plan))
    device = new_device n v (control_seen v plan) (ap (comes_back v n) (path_control v plan) ∙ back) control

-- ---- what an act leaves of the plan

unless_new : (n dev : ℕ) (o : Option Path) → is_reading n o ≡ false → is_reading n (unless dev o) ≡ false
unless_new n dev None h = refl
unless_new n dev (Some path) h = by_test (path.dev == dev)
  where
    by_test : (b : Bool) → is_reading n (if b then None else Some path) ≡ false
    by_test true = refl
    by_test false = h

there_new : (devices : List Device) (n : ℕ) → is_trusted (get_or (map reset_if_there devices) n Absent) ≡ false
there_new [] n = refl
there_new (Absent ∷ devices) zero = refl
there_new (other ∷ devices) zero = refl
there_new (d ∷ devices) (suc n) = there_new devices n

recovery_new : (d : Device) (file : TaskFile) → is_trusted d ≡ false → is_trusted (Recovering (recovery d file)) ≡ false
recovery_new Ready file h = absurd (true≢false h)
recovery_new other file h = refl

new_ordered : (n : ℕ) (order : Order) (plan : Plan) → IsNew n plan → IsNew n (ordered order plan)
new_ordered n (Clear port) plan h = record { device = set_new plan.devices n port Absent (λ same. refl) h.device; path = unless_new n port plan.path h.path }
new_ordered n order plan h = record { device = h.device; path = h.path }

pub new_after : (n : ℕ) (a : Act) (file : TaskFile) (plan : Plan) → IsNew n plan → Fits n (Some a) → IsNew n (plan_after a file plan)
unfolding plan_after
new_after n act.Stops file plan h fits = record { device = there_new plan.devices n; path = refl }
new_after n (act.Clears dev) file plan h fits = if_new n (nat_lt dev 15) (recovering dev file plan) (from_reset plan)
    (record {
      device = set_new plan.devices n dev (Recovering (recovery (device_at plan dev) file)) (λ same. recovery_new (device_at plan dev) file (subst (λ (k : ℕ). is_trusted (device_at plan k) ≡ false) (sym same) h.device)) h.device;
      path = unless_new n dev plan.path h.path;
    })
    (record { device = h.device; path = h.path })
new_after n (act.Orders order) file plan h fits = new_ordered n order plan h
new_after n (act.Steps dev stage) file plan h fits = record { device = h.device; path = fits }
new_after n other file plan h fits = record { device = h.device; path = h.path }

-- ---- what an act leaves of the requests

issued_was : (b : Bool) (phase : Phase) (e f : Entry) → is_issued_in phase ≡ false → (if b then Some (rephased phase e) else Some e) ≡ Some f → is_issued f.head ≡ true → e ≡ f
issued_was true phase e f other is issued =
    absurd (true≢false (sym issued ∙ sym (ap (λ (x : Entry). is_issued x.head) (same_entry (rephased phase e) f is)) ∙ other))
  where
    same_entry : (x y : Entry) → Some x ≡ Some y → x ≡ y
    same_entry x y e = cc
issued_was false phase e f other is issued = cc

none_rephased : (n : ℕ) (test : ℕ → Head → Bool) (phase : Phase) (entries : List (Option Entry)) → is_issued_in phase ≡ false → NoneIssued n entries → NoneIssued n (rephase_all test phase entries)
none_rephased n test phase entries other h s f here issued = by_entry (entry_at entries s) refl (sym (entry_of_rephased test phase entries s) ∙ here)
  where
    by_entry : (o : Option Entry) → entry_at entries s ≡ o → rephase (test s) phase o ≡ Some f → f.head.dev ≢ n
    by_entry None was is = absurd (cc)
    by_entry (Some e) was is =
        let same : e ≡ f = issued_was (test s e.head) phase e f other is issued in
        h s f (was ∙ ap (λ (x : Entry). Some x) same) issued

none_logged : (n : ℕ) (log : ErrorLog) (l : Option Logged) (entries : List (Option Entry)) → NoneIssued n entries → NoneIssued n (logged_ended log l entries)
none_logged n log None entries h = h
none_logged n log (Some l) entries h =
    none_rephased n (is_aside_of l.dev) (Ended Aborted) _ refl (none_rephased n (is_named_of log l.dev) (Ended (log_outcome log l.file)) entries refl h)

none_removed : (n : ℕ) (order : Order) (entries : List (Option Entry)) → NoneIssued n entries → NoneIssued n (removed order entries)
none_removed n (Clear port) entries h = none_rephased n (is_open_of port) (Ended Removed) entries refl h
none_removed n order entries h = h

none_staged : (n dev : ℕ) (stage : Stage) (entries : List (Option Entry)) → NoneIssued n entries → NoneIssued n (stage_ended dev stage entries)
none_staged n dev AssertReset entries h = none_rephased n (is_aside_of dev) (Ended Aborted) entries refl h
none_staged n dev stage entries h = h

-- a request is issued only to a device that is ready
ready_trusted : (plan : Plan) (e : Entry) → may_issue plan (Some e) ≡ true → is_trusted (device_at plan e.head.dev) ≡ true
ready_trusted plan e may = by_device (device_at plan e.head.dev) (and_parts (waits e.head) (is_ready (device_at plan e.head.dev)) may).1
  where
    by_device : (d : Device) → is_ready d ≡ true → is_trusted d ≡ true
    by_device Ready h = refl
    by_device other h = absurd (false≢true h)

none_issue : (n : ℕ) (v : Sight) (slot dev : ℕ) (queued : Bool) (plan : Plan) (entries : List (Option Entry)) → IsNew n plan → Due v plan entries (Some (act.Issues slot dev queued)) → NoneIssued n entries
    → NoneIssued n (set entries slot (option_map (rephased Issued) (entry_at entries slot)))
none_issue n v slot dev queued plan entries new due h s f here issued =
    elim (set_cases entries slot (option_map (rephased Issued) (entry_at entries slot)) s f here) [
      | inl at ↦
          let w : Waiting plan entries slot dev = due.0 in
          let is : Some (rephased Issued w.entry) ≡ Some f = ap (option_map (rephased Issued)) (sym w.stands) ∙ at.1 in
          let dev_is : w.entry.head.dev ≡ f.head.dev = ap (λ (x : Entry). x.head.dev) (same_entry (rephased Issued w.entry) f is) in
          λ same. true≢false (sym (ready_trusted plan w.entry w.may) ∙ ap (λ (k : ℕ). is_trusted (device_at plan k)) (dev_is ∙ same) ∙ new.device)
      | inr beside ↦ h s f beside.1 issued
    ]
  where
    same_entry : (x y : Entry) → Some x ≡ Some y → x ≡ y
    same_entry x y e = cc

none_after : (n : ℕ) (v : Sight) (a : Act) (plan : Plan) (entries : List (Option Entry)) → IsNew n plan → Due v plan entries (Some a) → NoneIssued n entries → NoneIssued n (entries_after a entries)
unfolding entries_after
none_after n v act.Stops plan entries new due h = none_rephased n is_open (Ended PortError) entries refl h
none_after n v (act.Clears dev) plan entries new due h = none_rephased n (is_open_of dev) Aside entries refl h
none_after n v (act.Orders order) plan entries new due h = none_removed n order entries h
none_after n v (act.Steps dev stage) plan entries new due h = none_staged n dev stage entries h
none_after n v (act.Issues slot dev queued) plan entries new due h = none_issue n v slot dev queued plan entries new due h
none_after n v other plan entries new due h = h

-- ---- a tick

pub unknown_tick : (n : ℕ) (v : Sight) (file : TaskFile) (d : Driver) → comes_back v n d.plan.path ≡ false → IsUnknown n d → IsUnknown n (after_tick v file d)
unfolding after_tick
unknown_tick n v file d back h = by_act (turn v d).act refl
  where
    t : TurnNew n (turn v d)
    t = new_turn n v d.plan (done_ended v.issued d.entries) back h.plan

    looked : NoneIssued n (seen v d).entries
    looked = none_logged n v.log (turn v d).logged (done_ended v.issued d.entries) (none_rephased n (is_done v.issued) (Ended Done) d.entries refl h.entries)

    by_act : (a : Option Act) → (turn v d).act ≡ a → IsUnknown n (acted a file (seen v d))
    by_act None is = record { plan = t.plan; entries = looked }
    by_act (Some a) is = record {
      plan = new_after n a file (seen v d).plan t.plan (subst (Fits n) is t.act);
      entries = none_after n v a (seen v d).plan (seen v d).entries t.plan (subst (Due v (seen v d).plan (seen v d).entries) is (due_seen v d)) looked;
    }
