-- Runs of an engine: each call does to its scheduler what some calls of a scheduler do, so the laws of the scheduler hold of what an
-- engine shows.
use Rattle.std.specs.Prelude.{ℕ, ◌≡◌, ◌<◌, ◌≤◌, ◌⊎◌, nat_lt, true, false, List, [], ◌∷◌, ◌++◌, map, Option, Some, None, Bool, not, ◌==◌, ◌&&◌}
use Rattle.std.specs.Prelude.{if◌then◌else◌, slice_index_or}
use Rattle.block_command.specs.{declared.command.Command.Command, Moments.{IsCommand, is_queued}, Laws.Comes}
use Rattle.block_command.specs.Laws as command
use Rattle.block_disk.specs.{Table.{is_under_way, with_input}, Requests.{AreSeenRightly, Rises, Seen, asks, is_out, no_books, none_queued}}
use Rattle.block_disk.specs.Requests.{numbers_given, seen_by, with_table}
use Rattle.block_queue.specs.{Line.{Line, command_at, may_send, may_start, with_queue, orphan}, Deeds.{AllAreApart, AreNamed, Goes, act_of}}
use Rattle.block_scheduler.specs.{Schedule.{ends_sent, line_sent}, Laws.{Move, deeds_in, seen_in}}
use Rattle.block_scheduler.specs.Laws as moves
use Rattle.block_engine.specs.declared.{aside.{AsideKind.AsideKind, AsideStage.TheVariants.Idle}, request.{Answer.Answer, Failure.Failure}}
use Rattle.block_engine.specs.{declared.request.Range.Range, Aside.asks_for, Engine.{EngineState, IsEngineStart, answer_refusal, answered}}
use Rattle.block_engine.specs.Engine.{aside_asked, aside_due, aside_sent, aside_taken, discards, done_of, engine_reset, line, may_ask, none_engaged}
use Rattle.block_engine.specs.Engine.{on_line, place_asked, place_of, runs_at, started, taken, with_schedule}
use Rattle.block_engine.specs.declared.request.Answer.TheVariants as answers

-- the calls of an engine that change it; a refused answer changes nothing and is none of them
pub data Step : Type 0 where
  Takes : Command → Step
  TakesAside : AsideKind → List Range → Step
  Starts : ℕ → Step
  Asks : ℕ → Step
  AsksAside : Step
  Answers : ℕ → Answer → Step
  Hears : ℕ → List ℕ → Step
  Sends : ℕ → Step
  SendsEnds : Step
  SendsAside : Step
  Forgives : Step
  Resets : Step

-- what the conditions and the answers of the calls say; the queued commands have the tags' places
abbrev pub IsStep : EngineState → Step → Type 0
IsStep e (Takes c) = (c.place < 33) × IsCommand c × (is_queued c.protocol ≡ nat_lt c.place 32)
IsStep e (TakesAside k ranges) = e.stage ≡ Idle
IsStep e (Starts p) = (p < 33) × (may_start (line e) p ≡ true) × (discards e ≡ false)
IsStep e (Asks p) = (p < 33) × (asks (line e).queue p ≡ true)
IsStep e AsksAside = may_ask e ≡ true
IsStep e (Answers number a) = answer_refusal e number a ≡ None
IsStep e (Hears p part) = p < 33
IsStep e (Sends p) = (p < 33) × (may_send (line e) p ≡ true)
IsStep e SendsEnds = Unit {0}
IsStep e SendsAside = aside_due e ≡ true
IsStep e Forgives = Unit {0}
IsStep e Resets = Unit {0}

-- what the calls leave
abbrev pub after_step : EngineState → Step → EngineState
after_step e (Takes c) = taken e c
after_step e (TakesAside k ranges) = aside_taken e k ranges
after_step e (Starts p) = started e (Some p)
after_step e (Asks p) = place_asked e p
after_step e AsksAside = aside_asked e
after_step e (Answers number a) = answered e number a
after_step e (Hears p part) = on_line e (with_queue (line e) (with_table (line e).queue (with_input (line e).queue.table p (Comes part))))
after_step e (Sends p) = with_schedule e (line_sent e.schedule p)
after_step e SendsEnds = on_line e (ends_sent (line e) 32)
after_step e SendsAside = aside_sent e
after_step e Forgives = with_schedule e (record { line = line e; limit = e.schedule.limit; fault = None })
after_step e Resets = engine_reset e

abbrev pub AreSteps : EngineState → List Step → Type 0
AreSteps e [] = Unit {0}
AreSteps e (s ∷ later) = IsStep e s × AreSteps (after_step e s) later

unfoldable pub after_steps : EngineState → List Step → EngineState
after_steps e [] = e
after_steps e (s ∷ later) = after_steps (after_step e s) later

-- ## What they do to the scheduler

-- an answer to the request of a place; one beside the queue does nothing to it
abbrev pub answer_moves : EngineState → Option ℕ → ℕ → Answer → List Move
answer_moves e None number a = []
answer_moves e (Some p) number (answers.Loaded bytes) = moves.Answers p number (command.Loads bytes.items) ∷ []
answer_moves e (Some p) number answers.Done = moves.Answers p number (done_of (line e) p number) ∷ []
answer_moves e (Some p) number (answers.Failed f) = moves.Answers p number command.Fails ∷ []

abbrev pub moves_of : EngineState → Step → List Move
moves_of e (Takes c) = moves.Takes c ∷ []
moves_of e (TakesAside k ranges) = []
moves_of e (Starts p) = moves.Starts p ∷ []
moves_of e (Asks p) = moves.Asks p ∷ []
moves_of e AsksAside = moves.Draws ∷ []
moves_of e (Answers number a) = answer_moves e (place_of e number) number a
moves_of e (Hears p part) = moves.Hears p part ∷ []
moves_of e (Sends p) = moves.Sends p ∷ []
moves_of e SendsEnds = moves.SendsEnds ∷ []
moves_of e SendsAside = []
moves_of e Forgives = moves.Forgives ∷ []
moves_of e Resets = moves.Resets ∷ []

unfoldable pub all_moves : EngineState → List Step → List Move
all_moves e [] = []
all_moves e (s ∷ later) = moves_of e s ++ all_moves (after_step e s) later

-- what a run from the start shows of the commands of the queue
abbrev pub moves_in : ℕ → List Step → List Move
moves_in limit steps = all_moves (none_engaged limit) steps

abbrev pub shown_in : ℕ → List Step → List Seen
shown_in limit steps = seen_in limit (moves_in limit steps)

-- ## The laws

abbrev pub RequestsAreApart : Type 0
RequestsAreApart = (limit : ℕ) (steps : List Step) → AreSteps (none_engaged limit) steps → AllAreApart [] (shown_in limit steps)

abbrev pub EndsAreEarned : Type 0
EndsAreEarned = (limit : ℕ) (steps : List Step) → AreSteps (none_engaged limit) steps → AreSeenRightly no_books (shown_in limit steps)

abbrev pub NumbersAreFresh : Type 0
NumbersAreFresh = (limit : ℕ) (steps : List Step)
    → (shown_in limit steps ≡ seen_by none_queued (map act_of (deeds_in limit (moves_in limit steps))))
    × Rises 0 (numbers_given none_queued (map act_of (deeds_in limit (moves_in limit steps))))

-- Data of queued commands come for the command that has the link
abbrev pub IsHeard : EngineState → Step → Type 0
IsHeard e (Hears p part) = p < 32 → (line e).queue.table.wire ≡ Some p
IsHeard e s = Unit {0}

abbrev pub AreHeard : EngineState → List Step → Type 0
AreHeard e [] = Unit {0}
AreHeard e (s ∷ later) = IsHeard e s × AreHeard (after_step e s) later

abbrev pub DataAreNamed : Type 0
DataAreNamed = (limit : ℕ) (steps : List Step) → AreSteps (none_engaged limit) steps → AreHeard (none_engaged limit) steps
    → AreNamed None (shown_in limit steps)

-- While a command is under way and none starts next, the caller owes the answer of a discard, or a FIS may be sent, or a request is
-- to be asked, or the caller or the host owes something.
abbrev pub SomethingMoves : Type 0
SomethingMoves = (limit : ℕ) (steps : List Step) (p : ℕ) → AreSteps (none_engaged limit) steps → 1048576 ≤ limit → p < 33
    → is_under_way (command_at (line (after_steps (none_engaged limit) steps)) p) ≡ true
    → IsEngineStart (after_steps (none_engaged limit) steps) None
    → (discards (after_steps (none_engaged limit) steps) ≡ true) ⊎ Goes (line (after_steps (none_engaged limit) steps))

-- ## Discards are alone

-- nothing of the queue runs, and no dropped store is out
pub record IsStill (l : Line) : Type 0 where
  pub still : (p : ℕ) → p < 33 → runs_at (command_at l p) ≡ false
  pub none : (p : ℕ) → p < 33 → orphan l p ≡ None

-- while a discard is out, also one that a reset dropped, no command of the queue has started, so no load and no store is out
abbrev pub DiscardsAreAlone : Type 0
DiscardsAreAlone = (limit : ℕ) (steps : List Step) → AreSteps (none_engaged limit) steps
    → discards (after_steps (none_engaged limit) steps) ≡ true → IsStill (line (after_steps (none_engaged limit) steps))

-- ## Failures are of the command that stands there

-- the request of this number is out and is that of the command of the place, or of the command beside the queue
abbrev pub is_own : EngineState → (place : ℕ) → (found : Option ℕ) → (number : ℕ) → Bool
is_own e p None number = (p == 32) && asks_for e.stage number
is_own e p (Some q) number = (p == q) && is_out (line e).queue.out q number

-- what a step makes of the failure of the command of a place
abbrev pub failure_after : EngineState → (place : ℕ) → Step → Option Failure → Option Failure
failure_after e p (Takes c) f = if (p == c.place) && not (is_under_way (command_at (line e) p)) then None else f
failure_after e p (TakesAside k ranges) f = if p == 32 then None else f
failure_after e p (Answers number (answers.Failed g)) f = if is_own e p (place_of e number) number then Some g else f
failure_after e p Resets f = None
failure_after e p s f = f

unfoldable pub failure_in : EngineState → (place : ℕ) → List Step → Option Failure → Option Failure
failure_in e p [] f = f
failure_in e p (s ∷ later) f = failure_in (after_step e s) p later (failure_after e p s f)

-- What an engine keeps of a place is what the caller answered last to a request of the command that was taken last there.
abbrev pub FailuresAreOwn : Type 0
FailuresAreOwn = (limit : ℕ) (steps : List Step) (p : ℕ) → AreSteps (none_engaged limit) steps → p < 33
    → slice_index_or (after_steps (none_engaged limit) steps).failures p None ≡ failure_in (none_engaged limit) p steps None
