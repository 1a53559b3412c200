-- The laws of a run. Nothing is lost, upward or downward, except by a recorded removal. What was
-- taken is a prefix of what was sent. The host and each unit are what their own turns make of them,
-- and each link is a link (Serial ATA 3.x, 16.3, port multiplier: frame transmission, PM Port; AHCI
-- 1.3.1, chapter 5). What is delivered to the host's clients stands in specs/Delivery.antt,
-- IssuedApart.antt, Tickets.antt, Isolation.antt and TrueAnswers.antt.
use Rattle.std.specs.Prelude.{ℕ, ◌≡◌, ◌≢◌, List, ◌++◌}
use Rattle.multiplier.specs.Arbiter.{control_port}
use Rattle.pm_world.specs.{IssuedApart.KeepsApart, Cleared.NewDevicesWait, Delivery.Delivers, Downward.NothingLostDown, Isolation.Isolates}
use Rattle.pm_world.specs.{Links.KeepsLinks, Places.Places, Removals.TellsRemovals, Rules.Run, Runs.AfterEveryRun, Tickets.KeepsTickets}
use Rattle.pm_world.specs.{Traffic.{sent, taken, all_marked, IsPrefixOf, NothingAfterRemoval, NothingLost}, TrueAnswers.TellsTruth}
use Rattle.pm_world.specs.{Turns.{AreOfTheirPorts, HostIsFold}, declared.{step.Step.Step, step.Answer.Answer}, Units.{UnitsLiveOn, UnitsLivedOn}}

-- ---- what was taken

-- Holds over all answers since the world was made, whichever run from a new world leads to these
-- steps: what the host took of a connection is a prefix of what was sent on it, each FIS marked with
-- its port.
abbrev pub TakenIsPrefix : Places → List Answer → Type 0
TakenIsPrefix old answers = AfterEveryRun old (λ mode config units before told made.
    (n c : ℕ) → n ≢ control_port → IsPrefixOf (taken n c (told ++ answers))
    (all_marked n (sent n c (told ++ answers))))

-- ---- on the way

-- that holds from each world on the way to new, with the answers from there on
abbrev pub FromEachWorld : Places → List Step → List Answer → Places
    → (Places → List Answer → Type 0) → Type 0
FromEachWorld old steps answers new Holds =
    (first later : List Step) (told rest : List Answer) (mid : Places)
    → first ++ later ≡ steps → told ++ rest ≡ answers
    → Run old first told mid → Run mid later rest new → Holds mid rest

-- ---- all of it

-- The laws of these steps, which with these answers lead from old to new.
pub record ObeysLaws (old : Places) (steps : List Step) (answers : List Answer)
    (new : Places) (run : Run old steps answers new) : Type 0 where
  pub nothing_lost : NothingLost old answers new
  pub on_the_way : FromEachWorld old steps answers new
      (λ mid later. NothingLost mid later new × NothingAfterRemoval mid later)
  pub removals : TellsRemovals old answers new
  pub new_devices_wait : NewDevicesWait old steps answers new
  pub nothing_lost_down : NothingLostDown old steps answers new run
  pub prefix : TakenIsPrefix old answers
  pub own_port : AreOfTheirPorts old answers
  pub host : HostIsFold old steps answers new run
  pub live_on : UnitsLiveOn old steps answers new run
  pub lived_on : UnitsLivedOn old steps answers new run
  pub links : KeepsLinks old answers new
  pub delivers : Delivers old steps answers new run
  pub apart : KeepsApart old steps answers new run
  pub tickets : KeepsTickets old steps answers new run
  pub isolates : Isolates old steps answers new run
  pub truth : TellsTruth old steps answers new run

-- They hold for each run of these steps with these answers.
abbrev pub AreLawful : (old : Places) → (steps : List Step) → (answers : List Answer)
    → (new : Places) → Type 0
AreLawful old steps answers new =
    (run : Run old steps answers new) → ObeysLaws old steps answers new run
