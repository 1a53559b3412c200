-- What passes the port of a new device: nothing, up or down, until the host has cleared what the port
-- reported of its coming (Serial ATA 3.x, 16.3, port multiplier: presence of a device on a port;
-- 16.4.2: PSCR[1], bit X, a device was exchanged). A FIS that the host sent before that is for the
-- device before.
use Rattle.std.specs.{Prelude.{ℕ, ◌≡◌, ◌≢◌, ◌==◌, ◌&&◌, Bool, false, List, [], ◌∷◌, ◌++◌, take, Option, Some}, List.list_any}
use Rattle.fis_view.specs.Frames.{Stamped}
use Rattle.pm_registers.specs.{Bits.shares, Port.bit_x}
use Rattle.pm_control.specs.{Requests.request_in, declared.request.Request.{Request, TheVariants.Write}}
use Rattle.multiplier.specs.State.{port_at}
use Rattle.multiplier.specs.declared.multiplier.Passed.TheVariants as passed
use Rattle.pm_world.specs.{Downward.fell_to, Places.{Places, new_world_in}, Rules.Run, Runs.AfterEveryRun, declared.step.{Step.Step, Answer.Answer}}
use Rattle.pm_world.specs.declared.step.Step.TheVariants as step
use Rattle.pm_world.specs.declared.step.Answer.TheVariants as answer

-- WRITE PORT MULTIPLIER of PSCR[1] of port n, with a one in the place of bit X, which clears it
abbrev pub clears_x : ℕ → Option Request → Bool
clears_x n (Some (Write at value)) = at.port == n && at.register == 1 && shares value bit_x
clears_x n _ = false

-- whether the control port of the multiplier took such a FIS off the host's link
abbrev pub is_cleared : ℕ → Places → Answer → Bool
is_cleared n old (answer.Passed passed.Control) =
    list_any (λ (f : Stamped). clears_x n (request_in f.bytes)) (take 1 old.downward.frames)
is_cleared n old _ = false

-- whether the multiplier put a frame of port n on the link to the host
abbrev pub is_up_from : ℕ → Step → Answer → Bool
is_up_from n step.PmUp (answer.Up port) = port == n
is_up_from n s a = false

-- up to the first of these steps that cleared it, none passes a FIS through port n, down or up
abbrev pub PassesNone : (n : ℕ) → (old : Places) → (steps : List Step) → (answers : List Answer)
    → (new : Places) → Run old steps answers new → Type 0
PassesNone n old [] answers new run = Prim.Unit {0}
PassesNone n old (s ∷ steps) [] new run = Prim.Unit {0}
PassesNone n old (s ∷ steps) (a ∷ answers) new run =
    (fell_to n old s a run.0 ≡ []) × (is_up_from n s a ≡ false)
    × (is_cleared n old a ≡ false → PassesNone n run.0 steps answers new run.2)

-- that holds from each of these steps on in which a port recorded that a connection came
abbrev pub EachWaits : (old : Places) → (steps : List Step) → (answers : List Answer)
    → (new : Places) → Run old steps answers new → Type 0
EachWaits old [] answers new run = Prim.Unit {0}
EachWaits old (s ∷ steps) [] new run = Prim.Unit {0}
EachWaits old (s ∷ steps) (a ∷ answers) new run =
    ((n c : ℕ) → (port_at old.multiplier n).present ≢ Some c
    → (port_at run.0.multiplier n).present ≡ Some c → PassesNone n run.0 steps answers new run.2)
    × EachWaits run.0 steps answers new run.2

-- Holds over all steps since the world was made, whichever run from a new world leads to these.
-- Nothing passes the port of a new device before the host cleared what the port reported. FISes go
-- down in order, so the device gets none that the host put on its link before the FIS that clears.
abbrev pub NewDevicesWait : Places → List Step → List Answer → Places → Type 0
NewDevicesWait old steps answers new = AfterEveryRun old (λ mode config units before told made.
    (whole : Run (new_world_in mode config units) (before ++ steps) (told ++ answers) new)
    → EachWaits (new_world_in mode config units) (before ++ steps) (told ++ answers) new whole)
