-- For `World::step` and `World::run`, clause `laws`. Every run obeys the laws.
use Rattle.std.proofs.Common.{List, [], ◌∷◌}
use Rattle.std.specs.Prelude.{Ok, Err, IfOk}
use Rattle.pm_world.specs.{Laws.AreLawful, Places.{Places, IsOrderly}, Rules.Outcome, declared.{step.Step.Step, step.Answer.Answer}}
use Rattle.pm_world.proofs.{cleared.Cleared.new_devices_wait, upward.{Law.{nothing_lost, on_the_way}, Prefix.taken_is_prefix}}
use Rattle.pm_world.proofs.{downward.LossLemmas.nothing_lost_down, upward.PortMarks.own_port, turns.Delivery.{delivers, keeps_apart}}
use Rattle.pm_world.proofs.{turns.{HostFold.host_is_fold, Isolation.isolates}, units.Units.{units_live_on, units_lived_on}}
use Rattle.pm_world.proofs.{links.LinksPass.keeps_links, turns.Tickets.keeps_tickets, upward.Recorded.tells_removals, turns.TrueAnswers.tells_truth}

pub obeys : (old : Places) (steps : List Step) (answers : List Answer) (new : Places) → IsOrderly old → AreLawful old steps answers new
obeys old steps answers new orderly run = record {
  nothing_lost = nothing_lost old steps answers new orderly run;
  on_the_way = on_the_way old steps answers new orderly;
  removals = tells_removals old steps answers new run;
  new_devices_wait = new_devices_wait old steps answers new;
  nothing_lost_down = nothing_lost_down old steps answers new run orderly;
  prefix = taken_is_prefix old steps answers new run;
  own_port = own_port old steps answers new run;
  host = host_is_fold old steps answers new run;
  live_on = units_live_on old steps answers new run;
  lived_on = units_lived_on old steps answers new run;
  links = keeps_links old steps answers new orderly run;
  delivers = delivers old steps answers new run;
  apart = keeps_apart old steps answers new run;
  tickets = keeps_tickets old steps answers new run;
  isolates = isolates old steps answers new run;
  truth = tells_truth old steps answers new run;
}

-- one step is a run
pub step_obeys : (old : Places) (s : Step) (outcome : Outcome) (new : Places) → IsOrderly old → IfOk outcome (λ a. AreLawful old (s ∷ []) (a ∷ []) new)
step_obeys old s (Ok a) new orderly = obeys old (s ∷ []) (a ∷ []) new orderly
step_obeys old s (Err e) new orderly = tt
