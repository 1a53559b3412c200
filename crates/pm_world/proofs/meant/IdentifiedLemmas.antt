-- For `ordered_is_not_stale`. Commands of requests go out only if IDENTIFY data were accepted since the last order to
-- clear their port. This holds over a run of a world.
use Rattle.std.proofs.Common.{◌≡◌, ℕ, ◌<◌, ◌==◌, ◌&&◌, ◌||◌, Bool, true, false, List, [], ◌∷◌, length, drop, map, Some, Ok, refl, sym, ap, subst, ◌∙◌}
use Rattle.std.proofs.lemmas.Bool.{and_parts, eqb-true, false≢true}
use Rattle.std.specs.{Prelude.{if◌then◌else◌, ◌%◌, slice_index}, List.list_any}
use Rattle.fis_view.specs.Frames.{Stamped}
use Rattle.host_memory.specs.Memory.{zeroed}
use Rattle.hba_fbs.specs.declared.report.TakeReport.{TakeReport}
use Rattle.hba_driver.specs.{declared.{mode.Mode.TheVariants.Switching, request.Request.Request}, HostTurns.{DoesAll, Host, HostTurn, Pushed, Ticked}}
use Rattle.hba_driver.specs.{HostTurns.{Took, sight_in}, Known.{is_identity, is_request}, Laws.flushes, Ticks.effects, Between.IsAsking}
use Rattle.hba_driver.specs.Known as host
use Rattle.hba_driver.proofs.Door.{asking_known, asking_opens, asking_turn, zeroed_right}
use Rattle.multiplier.specs.State.{pm_port}
use Rattle.pm_world.specs.{Attached.Attached, Downward.pushed_by, Places.{IsOrderly, Places, is_config, new_world}, Rules.{CameRule, DiskSendRule}}
use Rattle.pm_world.specs.{Rules.{DiskTakeRule, GoneRule, InjectRule, PmDownRule, PmFromDeviceRule, PmPresenceRule, Rule, Run}, Turns.turn_of}
use Rattle.pm_world.specs.{declared.step.{Config.Config, Step.Step, Answer.Answer}, Stale.{identified_by, orders_clear}}
use Rattle.pm_world.specs.declared.step.Step.TheVariants as step
use Rattle.pm_world.specs.declared.step.Answer.TheVariants as answer
use Rattle.pm_world.proofs.{turns.{Delivery.sized, HostFold.rule_does}, steps.Orderly.{opening_orderly, orderly_after}}
use Rattle.pm_world.proofs.{upward.PortMarks.{AllHavePortMarks, opening_marks, rule_marks}, steps.Steps.{at_both, at_device}}
use Rattle.pm_world.proofs.ports.{DownLemmas.{DownChange, Gone, Put as Came, Quiet, down_change}, EachLemmas.any_one}

-- ## What is asked

-- the command of a request to port n
abbrev pub is_request_to : ℕ → Stamped → Bool
is_request_to n f = (pm_port f == n) && is_request f.bytes

-- IDENTIFY data of port n were accepted since the last order to clear the port
abbrev pub known_with : Bool → List ℕ → Bool
known_with known [] = known
known_with known (c ∷ later) = true

abbrev pub known_after : ℕ → Bool → Places → Step → Answer → Places → Bool
known_after n known old s a new = if orders_clear n old a then false else known_with known (identified_by n old s a new)

-- that holds in each step
abbrev pub AllIdentified : (n : ℕ) → (known : Bool) → (old : Places) → (steps : List Step) → (answers : List Answer) → (new : Places) → Run old steps answers new → Type 0
AllIdentified n known old [] answers new run = Prim.Unit {0}
AllIdentified n known old (s ∷ steps) [] new run = Prim.Unit {0}
AllIdentified n known old (s ∷ steps) (a ∷ answers) new run =
    (list_any (is_request_to n) (pushed_by old s a run.0) ≡ true → known ≡ true) × AllIdentified n (known_after n known old s a run.0) run.0 steps answers new run.2

-- ## A step

or_false : (b : Bool) → (b || false) ≡ b
or_false true = refl
or_false false = refl

known_if : (known b : Bool) (c : ℕ) → known_with known (if b then c ∷ [] else []) ≡ (known || b)
known_if true true c = refl
known_if true false c = refl
known_if false true c = refl
known_if false false c = refl

-- a frame is put on the host's link in the step that serves for it
pub push_step : (old : Places) (s : Step) (new : Places) → Rule old s (Ok answer.Pushed) new → s ≡ step.HostPush
push_step old (step.Came n) new rule = absurd ((at_device old n answer.Pushed new (CameRule n) rule).rule.1)
push_step old (step.Gone n) new rule = absurd ((at_device old n answer.Pushed new (GoneRule n) rule).rule.1)
push_step old (step.DiskSend n) new rule = absurd ((at_device old n answer.Pushed new (DiskSendRule n) rule).rule.1)
push_step old (step.Inject n bytes) new rule = absurd ((at_device old n answer.Pushed new (InjectRule n bytes) rule).rule.1)
push_step old (step.DiskTake n) new rule = absurd ((at_device old n answer.Pushed new (DiskTakeRule n) rule).rule)
push_step old (step.PmPresence n) new rule = absurd ((at_both old n answer.Pushed new (PmPresenceRule n) rule).rule)
push_step old (step.PmFromDevice n) new rule = absurd ((at_both old n answer.Pushed new (PmFromDeviceRule n) rule).rule)
push_step old (step.PmDown n) new rule = absurd ((at_both old n answer.Pushed new (PmDownRule n) rule).rule)
push_step old step.HostPush new rule = refl
push_step old other new rule = absurd (rule.0)

-- turns in which nothing is taken, and which are no ticks
abbrev IsIdle : HostTurn → Type 0
IsIdle (Took frame report) = ⊥
IsIdle (Ticked did) = ⊥
IsIdle turn = Prim.Unit {0}

abbrev AreIdle : List HostTurn → Type 0
AreIdle [] = Prim.Unit {0}
AreIdle (turn ∷ turns) = IsIdle turn × AreIdle turns

idle_known : (n : ℕ) (known : Bool) (h : Host) (t : HostTurn) → IsIdle t → host.known_after n known h t ≡ known
idle_known n known h (Took frame report) idle = absurd idle
idle_known n known h (Ticked did) idle = absurd idle
idle_known n known h other idle = or_false known

idle_turns : (n : ℕ) (below : n < 15) (known : Bool) (old new : Host) (turns : List HostTurn) → DoesAll old turns new → AreIdle turns → IsAsking n known old → IsAsking n known new
idle_turns n below known old new [] does idle h = subst (IsAsking n known) (sym does) h
idle_turns n below known old new (t ∷ turns) does idle h =
    idle_turns n below known does.0 new turns does.2 idle.1 (subst (λ (b : Bool). IsAsking n b does.0) (idle_known n known old t idle.0) (asking_turn n below known old t does.0 does.1 h))

all_pushed : (frames : List Stamped) → AreIdle (map (λ frame. Pushed (Some frame)) frames)
all_pushed [] = tt
all_pushed (f ∷ frames) = (tt, all_pushed frames)

-- the turns of any other step
abbrev IsOther : Answer → Type 0
IsOther (answer.Took port conn number bytes report) = ⊥
IsOther answer.Ticked = ⊥
IsOther a = Prim.Unit {0}

idle_push : (old : Places) (a : Answer) (new : Places) → IsOther a → AreIdle (turn_of old step.HostPush a new)
idle_push old answer.Idle new other = (tt, tt)
idle_push old answer.Pushed new other = all_pushed (drop (length old.downward.frames) new.downward.frames)
idle_push old (answer.Took port conn number bytes report) new other = absurd other
idle_push old answer.Ticked new other = absurd other
idle_push old (answer.Polled completion) new other = (tt, tt)
idle_push old a new other = tt

idle_submit : (dev : ℕ) (request : Request) (old : Places) (a : Answer) (new : Places) → IsOther a → AreIdle (turn_of old (step.Submit dev request) a new)
idle_submit dev request old (answer.Submitted ticket) new other = (tt, tt)
idle_submit dev request old (answer.Took port conn number bytes report) new other = absurd other
idle_submit dev request old answer.Ticked new other = absurd other
idle_submit dev request old (answer.Polled completion) new other = (tt, tt)
idle_submit dev request old a new other = tt

idle_put : (at : ℕ) (bytes : List ℕ) (old : Places) (a : Answer) (new : Places) → IsOther a → AreIdle (turn_of old (step.Put at bytes) a new)
idle_put at bytes old answer.Put new other = (tt, tt)
idle_put at bytes old (answer.Took port conn number payload report) new other = absurd other
idle_put at bytes old answer.Ticked new other = absurd other
idle_put at bytes old (answer.Polled completion) new other = (tt, tt)
idle_put at bytes old a new other = tt

idle_rest : (old : Places) (s : Step) (a : Answer) (new : Places) → IsOther a → AreIdle (turn_of old s a new)
idle_rest old step.HostPush a new other = idle_push old a new other
idle_rest old (step.Submit dev request) a new other = idle_submit dev request old a new other
idle_rest old (step.Put at bytes) a new other = idle_put at bytes old a new other
idle_rest old s (answer.Took port conn number bytes report) new other = absurd other
idle_rest old s answer.Ticked new other = absurd other
idle_rest old s (answer.Polled completion) new other = (tt, tt)
idle_rest old s a new other = tt

module _ (n : ℕ) (below : n < 15) (known : Bool) (old : Places) (s : Step) (new : Places) (risen : AllHavePortMarks old.multiplier old.upward.frames) (h : IsAsking n known old.host) where
  asking_took : (port conn number : ℕ) (bytes : List ℕ) (report : TakeReport) → Rule old s (Ok (answer.Took port conn number bytes report)) new
      → IsAsking n (known_after n known old s (answer.Took port conn number bytes report) new) new.host
  asking_took port conn number bytes report rule =
      let does = rule_does old s (answer.Took port conn number bytes report) new rule in
      let of : slice_index bytes 1 % 16 ≡ port = (rule_marks old s (answer.Took port conn number bytes report) new risen rule).tells.0 in
      let next : IsAsking n (known || ((slice_index bytes 1 % 16 == n) && is_identity old.host.port report.wrote)) does.0 = asking_turn n below known old.host (Took bytes report) does.0 does.1 h in
      subst (λ (b : Bool). IsAsking n b new.host) (sym (known_if known ((port == n) && is_identity old.host.port report.wrote) conn))
      (subst (λ (k : ℕ). IsAsking n (known || ((k == n) && is_identity old.host.port report.wrote)) new.host) of (subst (IsAsking n (known || ((slice_index bytes 1 % 16 == n) && is_identity old.host.port report.wrote))) (sym does.2) next))

  asking_ticked : Rule old s (Ok answer.Ticked) new → IsAsking n (known_after n known old s answer.Ticked new) new.host
  asking_ticked rule =
      let does = rule_does old s answer.Ticked new rule in
      let next = asking_turn n below known old.host (Ticked true) does.0 does.1 h in
      subst (IsAsking n (if list_any (flushes n) (effects (sight_in old.host) old.host.driver) then false else known)) (sym does.2)
      (subst (λ (b : Bool). IsAsking n (if list_any (flushes n) (effects (sight_in old.host) old.host.driver) then false else b) does.0) (or_false known) next)

  asking_rest : (a : Answer) → IsOther a → Rule old s (Ok a) new → IsAsking n known new.host
  asking_rest a other rule = idle_turns n below known old.host new.host (turn_of old s a new) (rule_does old s a new rule) (idle_rest old s a new other) h

  pub asking_step : (a : Answer) → Rule old s (Ok a) new → IsAsking n (known_after n known old s a new) new.host
  asking_step (answer.Took port conn number bytes report) rule = asking_took port conn number bytes report rule
  asking_step answer.Ticked rule = asking_ticked rule
  asking_step a rule = asking_rest a tt rule

  -- what goes out
  identified_pushed : Rule old step.HostPush (Ok answer.Pushed) new → (f : Stamped) → pushed_by old step.HostPush answer.Pushed new ≡ f ∷ [] → is_request_to n f ≡ true → known ≡ true
  identified_pushed rule f one asks =
      let does = subst (λ (l : List Stamped). DoesAll old.host (map (λ frame. Pushed (Some frame)) l) new.host) one (rule_does old step.HostPush answer.Pushed new rule) in
      let both = and_parts (pm_port f == n) (is_request f.bytes) asks in
      asking_known n below known old.host f does.0 does.1 h (eqb-true (pm_port f) n both.0) both.1

  identified_step : (a : Answer) → IsOrderly old → Rule old s (Ok a) new → list_any (is_request_to n) (pushed_by old s a new) ≡ true → known ≡ true
  identified_step answer.Pushed orderly rule asks = by_down (down_change n old s new orderly answer.Pushed rule)
    where
      by_down : DownChange n old s answer.Pushed new → known ≡ true
      by_down (Quiet link none uncleared on) = absurd (false≢true (sym (ap (list_any (is_request_to n)) none) ∙ asks))
      by_down (Gone f link none clears falls idle ids) = absurd (false≢true (sym (ap (list_any (is_request_to n)) none) ∙ asks))
      by_down (Came f link one uncleared falls idle ids) =
          let e : s ≡ step.HostPush = push_step old s new rule in
          identified_pushed (subst (λ (t : Step). Rule old t (Ok answer.Pushed) new) e rule) f one (sym (any_one (is_request_to n) f) ∙ sym (ap (list_any (is_request_to n)) one) ∙ asks)
  identified_step a orderly rule asks = absurd (false≢true asks)

-- ## A run

run_identified : (n : ℕ) (below : n < 15) (known : Bool) (old : Places) (steps : List Step) (answers : List Answer) (new : Places) (run : Run old steps answers new)
    → IsOrderly old → AllHavePortMarks old.multiplier old.upward.frames → IsAsking n known old.host → AllIdentified n known old steps answers new run
run_identified n below known old [] answers new run orderly risen h = tt
run_identified n below known old (s ∷ steps) [] new run orderly risen h = tt
run_identified n below known old (s ∷ steps) (a ∷ answers) new run orderly risen h = (
  identified_step n below known old s run.0 risen h a orderly run.1,
  run_identified n below (known_after n known old s a run.0) run.0 steps answers new run.2 (orderly_after old s a run.0 orderly run.1)
      (rule_marks old s a run.0 risen run.1).risen (asking_step n below known old s run.0 risen h a run.1),
)

pub all_identified : (config : Config) (units : List Attached) → is_config config (length units) ≡ true → (steps : List Step) (answers : List Answer) (new : Places) (run : Run (new_world config units) steps answers new) (n : ℕ) → n < 15
    → AllIdentified n false (new_world config units) steps answers new run
all_identified config units right steps answers new run n below =
    run_identified n below false (new_world config units) steps answers new run (opening_orderly Switching config units right) (opening_marks config units) (asking_opens n 0 (zeroed config.memory) (zeroed_right config.memory (sized config (length units) right)))
