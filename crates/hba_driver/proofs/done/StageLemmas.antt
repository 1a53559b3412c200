-- For `done_is_true`. How far a request has come over turns: its ticket is issued, and then its device completes it.
use Rattle.std.proofs.Common.{◌≡◌, ℕ, Bool, true, false, List, [], ◌∷◌, refl}
use Rattle.std.specs.{Prelude.{◌&&◌, ◌||◌}, List.list_any}
use Rattle.hba_driver.specs.{Done.{completes, is_completed, issues}, HostTurns.{DoesAll, Host, HostTurn}}

pub data Stage : Type 0 where
  -- no tick has issued the ticket
  Idle : Stage
  -- a tick has issued it, and no frame since has completed it
  Out : Stage
  -- a tick has issued it, and a frame after the tick has completed it
  Whole : Stage

abbrev pub stage_by : (issued completed : Bool) → Stage → Stage
stage_by true completed stage = Out
stage_by false true Out = Whole
stage_by false false stage = stage
stage_by false true other = other

abbrev pub stage_after : (ticket slot dev : ℕ) → Stage → Host → HostTurn → Stage
stage_after ticket slot dev stage old t = stage_by (issues ticket old t) (completes slot dev t) stage

abbrev pub stage_over : (ticket slot dev : ℕ) → Stage → (old new : Host) (turns : List HostTurn) → DoesAll old turns new → Stage
stage_over ticket slot dev stage old new [] run = stage
stage_over ticket slot dev stage old new (t ∷ turns) run = stage_over ticket slot dev (stage_after ticket slot dev stage old t) run.0 new turns run.2

-- what it means that a request is whole in the end
abbrev pub Tells : (ticket slot dev : ℕ) → Stage → (old new : Host) (turns : List HostTurn) → DoesAll old turns new → Type 0
Tells ticket slot dev Idle old new turns run = is_completed ticket slot dev old new turns run ≡ true
Tells ticket slot dev Out old new turns run = (list_any (completes slot dev) turns || is_completed ticket slot dev old new turns run) ≡ true
Tells ticket slot dev Whole old new turns run = Unit {0}

either_way : (completed later issued whole : Bool) → (later || whole) ≡ true → ((completed || later) || ((issued && later) || whole)) ≡ true
either_way true later issued whole h = refl
either_way false true issued whole h = refl
either_way false false true whole h = h
either_way false false false whole h = h

idle_out : Idle ≡ Whole → ⊥
idle_out h = cc

out_whole : Out ≡ Whole → ⊥
out_whole h = cc

module _ (ticket slot dev : ℕ) (old new : Host) (turns : List HostTurn) (run : DoesAll old turns new) where
  abbrev Told : Type 0
  Told = (stage : Stage) → stage_over ticket slot dev stage old new turns run ≡ Whole → Tells ticket slot dev stage old new turns run

  idle : Told → (b c : Bool) → stage_over ticket slot dev (stage_by b c Idle) old new turns run ≡ Whole → ((b && list_any (completes slot dev) turns) || is_completed ticket slot dev old new turns run) ≡ true
  idle told true c k = told Out k
  idle told false true k = told Idle k
  idle told false false k = told Idle k

  out : Told → (b c : Bool) → stage_over ticket slot dev (stage_by b c Out) old new turns run ≡ Whole
      → ((c || list_any (completes slot dev) turns) || ((b && list_any (completes slot dev) turns) || is_completed ticket slot dev old new turns run)) ≡ true
  out told true c k = either_way c (list_any (completes slot dev) turns) true (is_completed ticket slot dev old new turns run) (told Out k)
  out told false true k = refl
  out told false false k = told Out k

pub tells : (ticket slot dev : ℕ) (turns : List HostTurn) (stage : Stage) (old new : Host) (run : DoesAll old turns new) → stage_over ticket slot dev stage old new turns run ≡ Whole
    → Tells ticket slot dev stage old new turns run
tells ticket slot dev [] Idle old new run h = absurd (idle_out h)
tells ticket slot dev [] Out old new run h = absurd (out_whole h)
tells ticket slot dev (t ∷ turns) Idle old new run h =
    idle ticket slot dev run.0 new turns run.2 (λ stage. tells ticket slot dev turns stage run.0 new run.2) (issues ticket old t) (completes slot dev t) h
tells ticket slot dev (t ∷ turns) Out old new run h =
    out ticket slot dev run.0 new turns run.2 (λ stage. tells ticket slot dev turns stage run.0 new run.2) (issues ticket old t) (completes slot dev t) h
tells ticket slot dev other Whole old new run h = tt
