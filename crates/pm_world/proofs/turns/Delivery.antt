-- For the fields `delivers` and `apart` of `laws`. Every run delivers, and what is issued stays apart.
use Rattle.std.proofs.Common.{rules, ◌≡◌, ℕ, List, [], ◌∷◌, ◌++◌, true, sym, subst, length}
use Rattle.std.specs.Prelude.{Ok}
use Rattle.host_memory.specs.Memory.{is_memory_size, zeroed}
use Rattle.hba_driver.specs.{declared.mode.Mode.Mode, Delivered.{HasCome, touches_of}, HostTurns.{Does, DoesAll, Host, HostTurn, Took}}
use Rattle.hba_driver.proofs.Door.{turns_deliver, zeroed_right}
use Rattle.pm_world.specs.{IssuedApart.{AreKeptApart, IsApart, IsKeptApart, KeepsApart}, Delivery.{Delivers, EachDelivers, HasDelivered, Tells}}
use Rattle.pm_world.specs.{Places.{Places, is_config, new_world_in, opening_host_in}, Rules.{Rule, Run}, Runs.over, Turns.turn_of}
use Rattle.pm_world.specs.declared.{step.Config.Config, step.Step.Step, step.Answer.Answer}
use Rattle.pm_world.specs.declared.step.Answer.TheVariants as answer
use Rattle.pm_world.proofs.turns.HostFold.{host_is_fold, rule_does, run_does}

-- a configuration has a memory of a permitted size
pub sized : (config : Config) (units : ℕ) → is_config config units ≡ true → is_memory_size config.memory ≡ true
sized config units right = search rules

-- ---- a host

came : (mode : Mode) (memory : ℕ) → is_memory_size memory ≡ true → (turns : List HostTurn) (host : Host) → DoesAll (opening_host_in mode memory) turns host → HasCome mode 0 (zeroed memory) turns host
came mode memory right turns host does = turns_deliver.comes mode 0 (zeroed memory) (zeroed_right memory right) turns host does

has_delivered : (mode : Mode) (memory : ℕ) → is_memory_size memory ≡ true → (turns : List HostTurn) (host : Host) → DoesAll (opening_host_in mode memory) turns host → HasDelivered mode memory turns host
has_delivered mode memory right turns host does = record { come = came mode memory right turns host does; delivers = turns_deliver.delivers mode 0 (zeroed memory) (zeroed_right memory right) turns host }

is_apart : (mode : Mode) (memory : ℕ) → is_memory_size memory ≡ true → (turns : List HostTurn) (host : Host) → DoesAll (opening_host_in mode memory) turns host → IsApart mode memory turns host
is_apart mode memory right turns host does = record { come = came mode memory right turns host does; apart = turns_deliver.apart mode 0 (zeroed memory) (zeroed_right memory right) turns host }

-- ---- one answer

module _ (mode : Mode) (memory : ℕ) (right : is_memory_size memory ≡ true) (turns : List HostTurn) (old : Places) (c : HasCome mode 0 (zeroed memory) turns old.host) where
  tells : (s : Step) (a : Answer) (new : Places) → Rule old s (Ok a) new → Tells old.host (touches_of mode 0 (zeroed memory) turns old.host c) a new.host
  tells s (answer.Took port conn number bytes report) new rule =
      let does : DoesAll old.host (Took bytes report ∷ []) new.host = rule_does old s (answer.Took port conn number bytes report) new rule in
      (turns_deliver.delivers mode 0 (zeroed memory) (zeroed_right memory right) turns old.host c).took bytes report new.host (subst (λ (m : Host). Does old.host (Took bytes report) m) (sym does.2) does.1)
  tells s _ new rule = tt

-- ---- a run

each_delivers : (old : Places) (steps : List Step) (answers : List Answer) (new : Places) (run : Run old steps answers new) → EachDelivers old steps answers new run
each_delivers old [] answers new run = tt
each_delivers old (s ∷ steps) [] new run = tt
each_delivers old (s ∷ steps) (a ∷ answers) new run = (
  λ mode config units fits before told made.
      let right = sized config (length units) fits in
      let turns = over turn_of (new_world_in mode config units) before told old made in
      record {
        come = came mode config.memory right turns old.host (run_does (new_world_in mode config units) before told old made);
        tells = λ c. tells mode config.memory right turns old c s a run.0 run.1;
      },
  each_delivers run.0 steps answers new run.2,
)

pub delivers : (old : Places) (steps : List Step) (answers : List Answer) (new : Places) (run : Run old steps answers new) → Delivers old steps answers new run
delivers old steps answers new run = record {
  each = each_delivers old steps answers new run;
  whole = λ mode config units fits before told made.
      has_delivered mode config.memory (sized config (length units) fits) (over turn_of (new_world_in mode config units) before told old made ++ over turn_of old steps answers new run) new.host
      ((host_is_fold old steps answers new run).reached mode config units fits before told made);
}

kept_apart : (now : Places) → IsKeptApart now
kept_apart now mode config units fits before told made =
    is_apart mode config.memory (sized config (length units) fits) (over turn_of (new_world_in mode config units) before told now made) now.host (run_does (new_world_in mode config units) before told now made)

are_kept_apart : (old : Places) (steps : List Step) (answers : List Answer) (new : Places) (run : Run old steps answers new) → AreKeptApart old steps answers new run
are_kept_apart old [] answers new run = kept_apart old
are_kept_apart old (s ∷ steps) [] new run = tt
are_kept_apart old (s ∷ steps) (a ∷ answers) new run = (kept_apart old, are_kept_apart run.0 steps answers new run.2)

pub keeps_apart : (old : Places) (steps : List Step) (answers : List Answer) (new : Places) (run : Run old steps answers new) → KeepsApart old steps answers new run
keeps_apart old steps answers new run = record { each = are_kept_apart old steps answers new run }
