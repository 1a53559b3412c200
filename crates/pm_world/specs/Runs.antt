-- What is said over a whole run, step by step, and of the runs that lead to a world.
use Rattle.std.specs.Prelude.{◌≡◌, true, List, [], ◌∷◌, ◌++◌, length, Ok}
use Rattle.hba_driver.specs.declared.mode.Mode.{Mode}
use Rattle.pm_world.specs.{Attached.Attached, Places.{Places, is_config, new_world_in}, Rules.{Rule, Run}, declared.step.Config.Config}
use Rattle.pm_world.specs.declared.{step.Step.Step, step.Answer.Answer}

-- what is told of one step with its answer, by the worlds before and after it
abbrev pub Telling : Type 0 → Type 0
Telling A = Places → Step → Answer → Places → List A

-- what is told over a run, in order
abbrev pub over : {A : Type 0} → Telling A → (old : Places) → (steps : List Step)
    → (answers : List Answer) → (new : Places) → Run old steps answers new → List A
over tell old [] answers new run = []
over tell old (s ∷ steps) [] new run = []
over tell old (s ∷ steps) (a ∷ answers) new run =
    tell old s a run.0 ++ over tell run.0 steps answers new run.2

-- it holds at each step of a run, for the world before the step and its answer
abbrev pub AtEach : (Places → Answer → Type 0) → (old : Places) → (steps : List Step)
    → (answers : List Answer) → (new : Places) → Run old steps answers new → Type 0
AtEach Holds old [] answers new run = Prim.Unit {0}
AtEach Holds old (s ∷ steps) [] new run = Prim.Unit {0}
AtEach Holds old (s ∷ steps) (a ∷ answers) new run =
    Holds old a × AtEach Holds run.0 steps answers new run.2

-- a run leads from a new world to here, in one of the modes
pub record IsReached (now : Places) : Type 0 where
  pub mode : Mode
  pub config : Config
  pub units : List Attached
  pub fits : is_config config (length units) ≡ true
  pub steps : List Step
  pub answers : List Answer
  pub run : Run (new_world_in mode config units) steps answers now

-- what holds whichever run from a new world leads to here
abbrev pub AfterEveryRun : (now : Places)
    → ((mode : Mode) → (config : Config) → (units : List Attached) → (before : List Step) → (told : List Answer)
    → Run (new_world_in mode config units) before told now → Type 0) → Type 0
AfterEveryRun now Holds =
    (mode : Mode) (config : Config) (units : List Attached) → is_config config (length units) ≡ true
    → (before : List Step) (told : List Answer)
    (made : Run (new_world_in mode config units) before told now) → Holds mode config units before told made

-- ---- steps of a run

-- the world before a step
abbrev pub world_before : Telling Places
world_before old s a new = old ∷ []

-- The step is one of a run. The parts are what the run does before it, the step itself with its
-- answer, and what the run does after it.
pub record IsStepOf (s : Step) (a : Answer) (old new : Places) (steps : List Step)
    (answers : List Answer) (run : Run old steps answers new) : Type 0 where
  pub before : List Step
  pub told : List Answer
  pub after : List Step
  pub later : List Answer
  pub steps_are : steps ≡ before ++ s ∷ after
  pub answers_are : answers ≡ told ++ a ∷ later
  pub at : Places
  pub next : Places
  pub came : Run old before told at
  pub rule : Rule at s (Ok a) next
  pub went : Run next after later new
  -- over the worlds of the run
  pub worlds : over world_before old steps answers new run
      ≡ over world_before old before told at came
      ++ at ∷ over world_before next after later new went
