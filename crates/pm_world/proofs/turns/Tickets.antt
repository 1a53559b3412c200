-- For the field `tickets` of `laws`. Over every run tickets are kept: what the answers of a run tell of them is what
-- the host's turns do.
use Rattle.std.proofs.Common.{◌≡◌, ℕ, List, [], ◌∷◌, ◌++◌, true, length, map, drop, Some, refl, sym, ap, subst, ◌∙◌, append_assoc}
use Rattle.std.proofs.lemmas.Grind.{flat_map-append}
use Rattle.std.specs.{Prelude.Ok, List.{flat_map, range_with_len}}
use Rattle.fis_view.specs.Frames.{Stamped}
use Rattle.host_memory.specs.Memory.{is_memory_size, zeroed}
use Rattle.hba_driver.specs.{declared.{mode.Mode.Mode, request.Ticket.Ticket}, HostTurns.{DoesAll, Host, HostTurn, Pushed, Submitted, Put, given_in}}
use Rattle.hba_driver.specs.{HostTurns.{polled_in, polled_by as turn_polls}, Laws.{AreOnce, TurnsKeep}}
use Rattle.hba_driver.proofs.Door.{each_run_keeps, hosts_stay_sound, zeroed_right}
use Rattle.pm_world.specs.{Places.{Places, new_world_in, opening_host_in}, Rules.{CameRule, GoneRule, DiskSendRule, InjectRule, DiskTakeRule}}
use Rattle.pm_world.specs.{Rules.{PmPresenceRule, PmFromDeviceRule, PmDownRule, Rule, Run}, Runs.over, Tickets.{KeepsTickets, given_by, polled_by}}
use Rattle.pm_world.specs.{Turns.turn_of, declared.step.{Step.Step, Answer.Answer}}
use Rattle.pm_world.specs.declared.step.Step.TheVariants as step
use Rattle.pm_world.specs.declared.step.Answer.TheVariants as answer
use Rattle.pm_world.proofs.{turns.{Delivery.sized, HostFold.host_is_fold}, steps.Steps.{at_device, at_both}}

-- ---- turns, and then turns

given-append : (xs ys : List HostTurn) → given_in (xs ++ ys) ≡ given_in xs ++ given_in ys
given-append [] ys = refl
given-append (Submitted dev request ticket ∷ xs) ys = ap (λ (l : List ℕ). ticket ∷ l) (given-append xs ys)
given-append (other ∷ xs) ys = given-append xs ys

polled-append : (xs ys : List HostTurn) → polled_in (xs ++ ys) ≡ polled_in xs ++ polled_in ys
polled-append [] ys = refl
polled-append (t ∷ xs) ys = ap (λ (l : List ℕ). turn_polls t ++ l) (polled-append xs ys) ∙ sym (append_assoc (turn_polls t) (polled_in xs) (polled_in ys))

-- ---- pushes

pushes_give_none : (frames : List Stamped) → given_in (map (λ (frame : Stamped). Pushed (Some frame)) frames) ≡ []
pushes_give_none [] = refl
pushes_give_none (frame ∷ frames) = pushes_give_none frames

pushes_poll_none : (frames : List Stamped) → polled_in (map (λ (frame : Stamped). Pushed (Some frame)) frames) ≡ []
pushes_poll_none [] = refl
pushes_poll_none (frame ∷ frames) = pushes_poll_none frames

-- ---- what a step gives

idle_gives : (old : Places) (s : Step) (new : Places) → given_in (turn_of old s answer.Idle new) ≡ []
idle_gives old step.HostPush new = refl
idle_gives old _ new = refl

pushed_gives : (old : Places) (s : Step) (new : Places) → given_in (turn_of old s answer.Pushed new) ≡ []
pushed_gives old step.HostPush new = pushes_give_none (drop (length old.downward.frames) new.downward.frames)
pushed_gives old _ new = refl

put_gives : (old : Places) (s : Step) (new : Places) → given_in (turn_of old s answer.Put new) ≡ []
put_gives old (step.Put at bytes) new = refl
put_gives old _ new = refl

-- only a request is answered with a ticket
submitted_gives : (old : Places) (s : Step) (ticket : Ticket) (new : Places) → Rule old s (Ok (answer.Submitted ticket)) new → given_in (turn_of old s (answer.Submitted ticket) new) ≡ ticket.0 ∷ []
submitted_gives old (step.Submit dev request) ticket new rule = refl
submitted_gives old (step.Came n) ticket new rule = absurd (at_device old n (answer.Submitted ticket) new (CameRule n) rule).rule.1
submitted_gives old (step.Gone n) ticket new rule = absurd (at_device old n (answer.Submitted ticket) new (GoneRule n) rule).rule.1
submitted_gives old (step.DiskSend n) ticket new rule = absurd (at_device old n (answer.Submitted ticket) new (DiskSendRule n) rule).rule.1
submitted_gives old (step.Inject n bytes) ticket new rule = absurd (at_device old n (answer.Submitted ticket) new (InjectRule n bytes) rule).rule.1
submitted_gives old (step.DiskTake n) ticket new rule = absurd (at_device old n (answer.Submitted ticket) new (DiskTakeRule n) rule).rule
submitted_gives old (step.PmPresence n) ticket new rule = absurd (at_both old n (answer.Submitted ticket) new (PmPresenceRule n) rule).rule
submitted_gives old (step.PmFromDevice n) ticket new rule = absurd (at_both old n (answer.Submitted ticket) new (PmFromDeviceRule n) rule).rule
submitted_gives old (step.PmDown n) ticket new rule = absurd (at_both old n (answer.Submitted ticket) new (PmDownRule n) rule).rule
submitted_gives old other ticket new rule = absurd rule.0

step_gives : (old : Places) (s : Step) (a : Answer) (new : Places) → Rule old s (Ok a) new → given_in (turn_of old s a new) ≡ given_by a
step_gives old s answer.Idle new rule = idle_gives old s new
step_gives old s answer.Pushed new rule = pushed_gives old s new
step_gives old s answer.Put new rule = put_gives old s new
step_gives old s (answer.Submitted ticket) new rule = submitted_gives old s ticket new rule
step_gives old s _ new rule = refl

run_gives : (old : Places) (steps : List Step) (answers : List Answer) (new : Places) (run : Run old steps answers new) → given_in (over turn_of old steps answers new run) ≡ flat_map given_by answers
run_gives old [] [] new run = refl
run_gives old (s ∷ steps) (a ∷ answers) new run =
    given-append (turn_of old s a run.0) (over turn_of run.0 steps answers new run.2)
    ∙ ap (λ (l : List ℕ). l ++ given_in (over turn_of run.0 steps answers new run.2)) (step_gives old s a run.0 run.1)
    ∙ ap (λ (l : List ℕ). given_by a ++ l) (run_gives run.0 steps answers new run.2)
run_gives old [] (a ∷ answers) new run = absurd run
run_gives old (s ∷ steps) [] new run = absurd run

-- ---- what a step polls

idle_polls : (old : Places) (s : Step) (new : Places) → polled_in (turn_of old s answer.Idle new) ≡ []
idle_polls old step.HostPush new = refl
idle_polls old _ new = refl

pushed_polls : (old : Places) (s : Step) (new : Places) → polled_in (turn_of old s answer.Pushed new) ≡ []
pushed_polls old step.HostPush new = pushes_poll_none (drop (length old.downward.frames) new.downward.frames)
pushed_polls old _ new = refl

put_polls : (old : Places) (s : Step) (new : Places) → polled_in (turn_of old s answer.Put new) ≡ []
put_polls old (step.Put at bytes) new = refl
put_polls old _ new = refl

submitted_polls : (old : Places) (s : Step) (ticket : Ticket) (new : Places) → polled_in (turn_of old s (answer.Submitted ticket) new) ≡ []
submitted_polls old (step.Submit dev request) ticket new = refl
submitted_polls old _ ticket new = refl

step_polls : (old : Places) (s : Step) (a : Answer) (new : Places) → polled_in (turn_of old s a new) ≡ polled_by a
step_polls old s answer.Idle new = idle_polls old s new
step_polls old s answer.Pushed new = pushed_polls old s new
step_polls old s answer.Put new = put_polls old s new
step_polls old s (answer.Submitted ticket) new = submitted_polls old s ticket new
step_polls old s _ new = refl

run_polls : (old : Places) (steps : List Step) (answers : List Answer) (new : Places) (run : Run old steps answers new) → polled_in (over turn_of old steps answers new run) ≡ flat_map polled_by answers
run_polls old [] [] new run = refl
run_polls old (s ∷ steps) (a ∷ answers) new run =
    polled-append (turn_of old s a run.0) (over turn_of run.0 steps answers new run.2)
    ∙ ap (λ (l : List ℕ). l ++ polled_in (over turn_of run.0 steps answers new run.2)) (step_polls old s a run.0)
    ∙ ap (λ (l : List ℕ). polled_by a ++ l) (run_polls run.0 steps answers new run.2)
run_polls old [] (a ∷ answers) new run = absurd run
run_polls old (s ∷ steps) [] new run = absurd run

-- ---- since the world was made

module _ (first old : Places) (before : List Step) (told : List Answer) (made : Run first before told old) (steps : List Step) (answers : List Answer) (new : Places) (run : Run old steps answers new) where
  abbrev all_turns : List HostTurn
  all_turns = over turn_of first before told old made ++ over turn_of old steps answers new run

  all_given : given_in all_turns ≡ flat_map given_by (told ++ answers)
  all_given =
      given-append (over turn_of first before told old made) (over turn_of old steps answers new run)
      ∙ ap (λ (l : List ℕ). l ++ given_in (over turn_of old steps answers new run)) (run_gives first before told old made)
      ∙ ap (λ (l : List ℕ). flat_map given_by told ++ l) (run_gives old steps answers new run) ∙ sym (flat_map-append given_by told answers)

  all_polled : polled_in all_turns ≡ flat_map polled_by (told ++ answers)
  all_polled =
      polled-append (over turn_of first before told old made) (over turn_of old steps answers new run)
      ∙ ap (λ (l : List ℕ). l ++ polled_in (over turn_of old steps answers new run)) (run_polls first before told old made)
      ∙ ap (λ (l : List ℕ). flat_map polled_by told ++ l) (run_polls old steps answers new run) ∙ sym (flat_map-append polled_by told answers)

keeps : (mode : Mode) (memory : ℕ) → is_memory_size memory ≡ true → (turns : List HostTurn) (host : Host) (does : DoesAll (opening_host_in mode memory) turns host) → TurnsKeep (opening_host_in mode memory) turns host does
keeps mode memory right turns host does = each_run_keeps (opening_host_in mode memory) turns host does (hosts_stay_sound.opens mode 0 (zeroed memory) (zeroed_right memory right)).requests

pub keeps_tickets : (old : Places) (steps : List Step) (answers : List Answer) (new : Places) (run : Run old steps answers new) → KeepsTickets old steps answers new run
keeps_tickets old steps answers new run = record {
  given = λ mode config units fits before told made.
      let first = new_world_in mode config units in
      let kept = keeps mode config.memory (sized config (length units) fits) (all_turns first old before told made steps answers new run) new.host ((host_is_fold old steps answers new run).reached mode config units fits before told made) in
      subst (λ (l : List ℕ). l ≡ range_with_len 1 (length l)) (all_given first old before told made steps answers new run) kept.given;
  polled = λ mode config units fits before told made.
      let first = new_world_in mode config units in
      let kept = keeps mode config.memory (sized config (length units) fits) (all_turns first old before told made steps answers new run) new.host ((host_is_fold old steps answers new run).reached mode config units fits before told made) in
      subst AreOnce (all_polled first old before told made steps answers new run) kept.polled;
  turns = λ mode config units fits before told made does.
      keeps mode config.memory (sized config (length units) fits) (all_turns (new_world_in mode config units) old before told made steps answers new run) new.host does;
}
