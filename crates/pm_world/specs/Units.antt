-- What a unit went through in a run, and that it lives on from it (Serial ATA 3.x, 16.3, port
-- multiplier). What a device may do is cited from `disk_model` (specs/Histories.antt and Units.antt).
use Rattle.std.specs.Prelude.{ℕ, ◌≡◌, ◌==◌, if◌then◌else◌, false, List, [], ◌∷◌, ◌++◌, Some, None, map, take, slice_get, IsSomeAnd, MatchOption}
use Rattle.disk_model.specs.{Histories.{Happening, Received, Sent, Plugged, Loaded, Plan}, Units.MaySend}
use Rattle.pm_world.specs.{Attached.{Attached, plan_of, StandsFor}, Downward.on_down_link, Places.Places, Rules.Run}
use Rattle.pm_world.specs.{Runs.{AfterEveryRun, Telling, over}, declared.{step.Step.Step, step.Answer.Answer}}
use Rattle.pm_world.specs.declared.step.Step.TheVariants as step
use Rattle.pm_world.specs.declared.step.Answer.TheVariants as answer

-- What a step with this answer means to the unit at port n: it was plugged in, it took a FIS that was
-- for it, or it sent one. What is injected is not sent by the unit.
abbrev pub happens : ℕ → Telling Happening
happens n old (step.Came m) (answer.Came port conn) new = if port == n then Plugged ∷ [] else []
happens n old (step.DiskTake m) (answer.DiskTook port false) new =
    if port == n then map (λ frame. Received frame.bytes) (take 1 (on_down_link (slice_get old.devices n)))
    else []
happens n old (step.DiskSend m) (answer.Sent port conn number bytes) new =
    if port == n then Sent bytes ∷ [] else []
happens n old s a new = []

-- each FIS that these events send may be sent after the history before it
abbrev pub MaySendAll : Plan → List Happening → List Happening → Type 0
MaySendAll plan history [] = Prim.Unit {0}
MaySendAll plan history (Sent bytes ∷ later) =
    MaySend plan history bytes × MaySendAll plan (history ++ Sent bytes ∷ []) later
MaySendAll plan history (Received bytes ∷ later) =
    MaySendAll plan (history ++ Received bytes ∷ []) later
MaySendAll plan history (Plugged ∷ later) = MaySendAll plan (history ++ Plugged ∷ []) later
MaySendAll plan history (Loaded bytes ∷ later) = ⊥

-- The unit lived on through these events. Its plan is the same. It stands at the end for each history
-- that it stood for, with these events added. What it sent in them it was allowed to send.
pub record LivesOn (old : Attached) (events : List Happening) (new : Attached) : Type 0 where
  pub plan : plan_of new ≡ plan_of old
  pub stands_for : (history : List Happening) → StandsFor old history
      → StandsFor new (history ++ events)
  pub sends : (history : List Happening) → StandsFor old history
      → MaySendAll (plan_of old) history events

-- the unit at a port lives on through its own history, and a port that had a unit has one afterwards
abbrev pub UnitsLiveOn : (old : Places) → (steps : List Step) → (answers : List Answer)
    → (new : Places) → Run old steps answers new → Type 0
UnitsLiveOn old steps answers new run =
    (n : ℕ) → MatchOption (slice_get old.devices n) (slice_get new.devices n ≡ None)
    (λ was. IsSomeAnd (slice_get new.devices n)
    (λ now. LivesOn was.unit (over (happens n) old steps answers new run) now.unit))

-- whichever run from a new world leads to these steps, each unit of that world lived on through its
-- whole history
abbrev pub UnitsLivedOn : (old : Places) → (steps : List Step) → (answers : List Answer)
    → (new : Places) → Run old steps answers new → Type 0
UnitsLivedOn old steps answers new run = AfterEveryRun old (λ mode config units before told made.
    (n : ℕ) (unit : Attached) → slice_get units n ≡ Some unit
    → IsSomeAnd (slice_get new.devices n) (λ now.
    LivesOn unit (over (happens n) _ before told old made
    ++ over (happens n) old steps answers new run) now.unit))
