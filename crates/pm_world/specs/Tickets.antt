-- What becomes of tickets, over every run since the world was made. Each ticket is given once, issued
-- at most once and polled at most once, and its request stands until it is polled. Tickets are our
-- own: no standard has them.
--
-- Cited: the turns of the host in a run (specs/Turns.antt) and the runs that lead to a world
-- (specs/Runs.antt); TurnsKeep of `hba_driver` (specs/Laws.antt), over the host's turns.
use Rattle.std.specs.{Prelude.{ℕ, ◌≡◌, List, [], ◌∷◌, ◌++◌, length}, List.{flat_map, range_with_len}}
use Rattle.hba_driver.specs.{HostTurns.DoesAll, Laws.{AreOnce, TurnsKeep}}
use Rattle.pm_world.specs.{Places.{Places, opening_host_in}, Rules.Run, Runs.{AfterEveryRun, over}, Turns.turn_of, declared.step.Step.Step}
use Rattle.pm_world.specs.declared.step.Answer.{Answer}
use Rattle.pm_world.specs.declared.step.Answer.TheVariants as answer

-- the ticket that an answer gives, and the one that it says is polled
abbrev pub given_by : Answer → List ℕ
given_by (answer.Submitted ticket) = ticket.0 ∷ []
given_by _ = []

abbrev pub polled_by : Answer → List ℕ
polled_by (answer.Polled completion) = completion.ticket.0 ∷ []
polled_by _ = []

-- these are 1, 2, 3 and so on
abbrev pub AreCounted : List ℕ → Type 0
AreCounted tickets = tickets ≡ range_with_len 1 (length tickets)

-- What becomes of tickets, whichever run from a new world leads to these steps.
pub record KeepsTickets (old : Places) (steps : List Step) (answers : List Answer) (new : Places)
    (run : Run old steps answers new) : Type 0 where
  -- tickets are given in order, each once
  pub given : AfterEveryRun old (λ mode config units before told made.
      AreCounted (flat_map given_by (told ++ answers)))
  -- none is polled twice
  pub polled : AfterEveryRun old (λ mode config units before told made.
      AreOnce (flat_map polled_by (told ++ answers)))
  -- and none is issued twice, and each request goes on until it is polled, over the host's turns
  pub turns : AfterEveryRun old (λ mode config units before told made.
      (does : DoesAll (opening_host_in mode config.memory)
      (over turn_of _ before told old made ++ over turn_of old steps answers new run) new.host)
      → TurnsKeep (opening_host_in mode config.memory)
      (over turn_of _ before told old made ++ over turn_of old steps answers new run) new.host does)
