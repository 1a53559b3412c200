-- A port of the multiplier keeps to one connection. Between two FISes of the host that clear its bit
-- X, all that passes it, up and down, is of one connection (Serial ATA 3.x, 16.3, port multiplier:
-- frame transmission, presence of a device on a port; 16.4.2: PSCR[1], bit X, a device was
-- exchanged).
use Rattle.std.specs.Prelude.{ℕ, ◌≡◌, ◌<◌, ◌==◌, if◌then◌else◌, false, true, List, [], ◌∷◌, ◌++◌, length, drop}
use Rattle.fis_view.specs.Frames.{Stamped}
use Rattle.pm_world.specs.{Attached.Attached, Cleared.is_cleared, Downward.fell_to, Places.{Places, is_config, new_world}, Rules.Run, Runs.Telling}
use Rattle.pm_world.specs.declared.{step.Config.Config, step.Step.Step, step.Answer.Answer}
use Rattle.pm_world.specs.declared.step.Step.TheVariants as step
use Rattle.pm_world.specs.declared.step.Answer.TheVariants as answer

-- the FIS of port n that went up: what the host's link has now and did not have before
abbrev pub rose_from : ℕ → Telling Stamped
rose_from n old step.PmUp (answer.Up port) new =
    if port == n then drop (length old.upward.frames) new.upward.frames else []
rose_from n old s a new = []

-- what passed port n, down or up, each FIS with the connection for which it passed
abbrev pub passed_at : ℕ → Telling Stamped
passed_at n old s a new = fell_to n old s a new ++ rose_from n old s a new

-- each of these FISes is of connection c
abbrev pub AreOf : ℕ → List Stamped → Type 0
AreOf c [] = Prim.Unit {0}
AreOf c (f ∷ frames) = (f.stamp.conn ≡ c) × AreOf c frames

-- up to the first of these steps in which the host clears port n, all that passes the port is of
-- connection c
abbrev pub PassesOnly : (n c : ℕ) → (old : Places) → (steps : List Step) → (answers : List Answer)
    → (new : Places) → Run old steps answers new → Type 0
PassesOnly n c old [] answers new run = Prim.Unit {0}
PassesOnly n c old (s ∷ steps) [] new run = Prim.Unit {0}
PassesOnly n c old (s ∷ steps) (a ∷ answers) new run =
    AreOf c (passed_at n old s a run.0)
    × (is_cleared n old a ≡ false → PassesOnly n c run.0 steps answers new run.2)

-- that holds from each of these FISes on, if they are those that a step passed
abbrev pub Keep : (n : ℕ) → List Stamped → (old : Places) → (steps : List Step)
    → (answers : List Answer) → (new : Places) → Run old steps answers new → Type 0
Keep n [] old steps answers new run = Prim.Unit {0}
Keep n (f ∷ frames) old steps answers new run =
    PassesOnly n f.stamp.conn old steps answers new run × Keep n frames old steps answers new run

-- and from each of these steps on in which one passed
abbrev pub EachKeeps : (old : Places) → (steps : List Step) → (answers : List Answer)
    → (new : Places) → Run old steps answers new → Type 0
EachKeeps old [] answers new run = Prim.Unit {0}
EachKeeps old (s ∷ steps) [] new run = Prim.Unit {0}
EachKeeps old (s ∷ steps) (a ∷ answers) new run =
    ((n : ℕ) → n < 15 → Keep n (passed_at n old s a run.0) run.0 steps answers new run.2)
    × EachKeeps run.0 steps answers new run.2

-- over every run from a new world
abbrev pub PortsKeep : Type 0
PortsKeep =
    (config : Config) (units : List Attached) → is_config config (length units) ≡ true
    → (steps : List Step) (answers : List Answer) (new : Places)
    (run : Run (new_world config units) steps answers new)
    → EachKeeps (new_world config units) steps answers new run
