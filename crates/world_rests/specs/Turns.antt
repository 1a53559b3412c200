-- How long a frame waits on its way up (Serial ATA 3.x, 16.3, port multiplier: frame transmission; the policy for frames to the
-- host must be fair). What is counted are frames, not time.
use Rattle.std.specs.{Prelude.{ℕ, ◌≡◌, ◌+◌, ◌*◌, ◌≤◌, ◌==◌, true, List, [], ◌∷◌, length, map, filter}, List.flat_map}
use Rattle.multiplier.specs.{Arbiter.control_port, State.ready}
use Rattle.pm_world.specs.{Links.rose_by, Places.Places, Rules.Run, Runs.{AtEach, IsReached}, declared.step.{Answer.Answer, Step.Step}}
use Rattle.pm_world.specs.declared.step.Answer.TheVariants as answer

-- the port of the frame that the host took, if it took one
abbrev pub took_from : Answer → List ℕ
took_from (answer.Took port conn number bytes report) = port ∷ []
took_from a = []

-- the ports from which frames went up, and those of the frames that the host took, oldest first
abbrev pub rose : List Answer → List ℕ
rose answers = flat_map rose_by answers

abbrev pub took : List Answer → List ℕ
took answers = flat_map took_from answers

-- how many of them are port n
abbrev pub times_of : ℕ → List ℕ → ℕ
times_of n ports = length (filter (λ m. m == n) ports)

-- a frame goes up only while port n has one that may go up
abbrev pub HasOne : ℕ → Places → Answer → Type 0
HasOne n old (answer.Up m) = ready old.multiplier n ≡ true
HasOne n old a = Unit {0}

-- What the others may have before port n. Between two frames of the port at most 15 of others go up. So a frame is taken with
-- `ahead` frames of its port before it at the port and on the device's link, and all that are on the host's link: once the
-- host took those of the host's link, and 16 for each of the others and for itself.
pub record TakesTurns (n : ℕ) (old : Places) (answers : List Answer) : Type 0 where
  pub rises : length (rose answers) ≤ 16 * times_of n (rose answers) + 15
  pub taken : (ahead : ℕ) → length old.upward.frames + 16 * (ahead + 1) ≤ length (took answers)
      → times_of n (map (λ f. f.stamp.port) old.upward.frames) + (ahead + 1) ≤ times_of n (took answers)

-- that holds over every run of each world, for each port that has a frame whenever one goes up
abbrev pub EachTakesTurns : Type 0
EachTakesTurns =
    (old : Places) → IsReached old → (steps : List Step) (answers : List Answer) (new : Places)
    (run : Run old steps answers new) (n : ℕ) → n ≤ control_port → AtEach (HasOne n) old steps answers new run
    → TakesTurns n old answers
