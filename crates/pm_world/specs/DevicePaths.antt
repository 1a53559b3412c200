-- What each step of a world does on the path of one device. What the host gives goes down to it, and
-- what it sends goes up to the host, each in its order, over the multiplier and its links (Serial ATA
-- 3.x, 16.3, port multiplier: frame transmission, PM Port). Nothing is asked of what the device
-- sends: the same holds with errors, and with whatever goes wrong at the host.
--
-- Cited: what is on its way, what happens at the ends, and removals (specs/PathEnds.antt and
-- Traffic.antt); what a step means to a unit (specs/Units.antt).
use Rattle.std.specs.Prelude.{ℕ, ◌≡◌, ◌≢◌, ◌==◌, true, false, List, [], ◌∷◌, ◌++◌, Ok}
use Rattle.fis_view.specs.Frames.{marked}
use Rattle.hba_fbs.specs.declared.report.TakeReport.{TakeReport}
use Rattle.multiplier.specs.Arbiter.{control_port}
use Rattle.disk_model.specs.Histories.{Happening, Received, Sent}
use Rattle.pm_world.specs.{Places.{IsOrderly, Places}, Units.happens, Rules.Rule, Runs.{AfterEveryRun, IsReached}, Traffic.{all_marked, transit}}
use Rattle.pm_world.specs.declared.{step.Step.Step, step.Answer.Answer}
use Rattle.pm_world.specs.PathEnds.{AreAmong, IsAtHost, IsAway, IsOnly, IsThere, IsUnremoved, befalls, descending, descending_on, injects, unplugs}
use Rattle.pm_world.specs.declared.step.Step.TheVariants as step
use Rattle.pm_world.specs.declared.step.Answer.TheVariants as answer

-- ---- the path

-- The unit at port n was plugged in as connection c, and has not been unplugged since. The first list
-- is what the host gave and what may still come to the unit. The second is what comes to the host.
-- Each is oldest first.
pub record IsOnPath (n c : ℕ) (now : Places) (down up : List (List ℕ)) : Type 0 where
  -- exactly this is on its way up
  pub above : transit n c now ≡ all_marked n up
  -- and nothing of another connection
  pub alone : (d : ℕ) → d ≢ c → IsAway n d now
  pub kept : IsUnremoved n c now
  pub only : IsOnly n c now
  -- what is on its way down is of the first list, in its order; the rest was dropped
  pub below : AreAmong (descending_on n c now) down

-- ---- a step

-- The unit at port n is neither unplugged nor plugged in anew, and what it sends is on connection c.
abbrev pub StaysOn : (n c : ℕ) → Answer → Type 0
StaysOn n c (answer.Came port conn) = (port == n) ≡ false
StaysOn n c (answer.Gone port conn) = (port == n) ≡ false
StaysOn n c (answer.Sent port conn number bytes) = (port == n) ≡ true → conn ≡ c
StaysOn n c a = Unit {0}

-- What a step with this answer does, by what happened to the unit in it, what the host's end heard
-- and gave, and both lists before it; and what it leaves on the path.
pub data PathMoves (n c : ℕ) (a : Answer) (new : Places) (happened heard : List Happening)
    (down up : List (List ℕ)) : Type 0 where
  -- nothing is done at either end
  Still : happened ≡ [] → heard ≡ [] → IsOnPath n c new down up
      → PathMoves n c a new happened heard down up
  -- the host gives a FIS to the unit
  Gives : (bytes : List ℕ) → a ≡ answer.Pushed → happened ≡ [] → heard ≡ Received bytes ∷ []
      → IsOnPath n c new (down ++ bytes ∷ []) up → PathMoves n c a new happened heard down up
  -- The unit takes one. The FISes in front of it were dropped. With them or without them, the rest is
  -- what may still come.
  Comes : (front back : List (List ℕ)) (bytes : List ℕ) → a ≡ answer.DiskTook n false
      → happened ≡ Received bytes ∷ [] → heard ≡ [] → down ≡ front ++ bytes ∷ back
      → IsOnPath n c new (front ++ back) up → IsOnPath n c new back up
      → PathMoves n c a new happened heard down up
  -- the unit sends one
  Sends : (number : ℕ) (bytes : List ℕ) → a ≡ answer.Sent n c number bytes
      → happened ≡ Sent bytes ∷ [] → heard ≡ [] → IsOnPath n c new down (up ++ bytes ∷ [])
      → PathMoves n c a new happened heard down up
  -- the host takes the next one of the unit, with the port as its mark
  Takes : (number : ℕ) (bytes : List ℕ) (later : List (List ℕ)) (report : TakeReport)
      → a ≡ answer.Took n c number (marked bytes n) report
      → happened ≡ [] → heard ≡ Sent bytes ∷ [] → up ≡ bytes ∷ later
      → IsOnPath n c new down later → PathMoves n c a new happened heard down up

-- what a step leaves of it
pub record GoesOnPath (n c : ℕ) (old : Places) (a : Answer) (new : Places)
    (happened : List Happening) (down up : List (List ℕ)) : Type 0 where
  pub heard : List Happening
  pub is : IsAtHost n old a new heard
  pub moves : PathMoves n c a new happened heard down up

-- ---- the laws

-- Each world to which a run from a new one leads is orderly, as the laws below require.
abbrev pub ReachedAreOrderly : Type 0
ReachedAreOrderly = (now : Places) → IsReached now → IsOrderly now

-- That holds for each step, by its answer.
abbrev pub PathsGoOn : Type 0
PathsGoOn =
    (n c : ℕ) (old new : Places) (s : Step) (a : Answer) (down up : List (List ℕ))
    → n ≢ control_port → IsOrderly old → Rule old s (Ok a) new → StaysOn n c a
    → IsOnPath n c old down up → GoesOnPath n c old a new (befalls n old a) down up

-- It holds for each step of a unit that is plugged in, if the step does not unplug it and injects
-- nothing there, by what the step means to the unit.
abbrev pub UnitPathsGoOn : Type 0
UnitPathsGoOn =
    (n c : ℕ) (old new : Places) (s : Step) (a : Answer) (down up : List (List ℕ))
    → n ≢ control_port → IsOrderly old → Rule old s (Ok a) new → IsThere n c old
    → unplugs n s ≡ false → injects n s ≡ false → IsOnPath n c old down up
    → IsThere n c new × GoesOnPath n c old a new (happens n old s a new) down up

-- It begins when a unit is plugged in while nothing of its port is on its way, in each world to which
-- a run from a new one leads.
abbrev pub PluggedIsOnPath : Type 0
PluggedIsOnPath =
    (n c : ℕ) (old new : Places) → n ≢ control_port → IsOrderly old
    → Rule old (step.Came n) (Ok (answer.Came n c)) new
    → ((d : ℕ) → IsAway n d old) → descending n old ≡ []
    → AfterEveryRun old (λ mode config units before told made.
    IsThere n c new × IsOnPath n c new [] [])

-- What was dropped never comes: it may be left out of what goes down.
abbrev pub DroppedNeverComes : Type 0
DroppedNeverComes =
    (n c : ℕ) (now : Places) (down up : List (List ℕ)) → IsOnPath n c now down up
    → IsOnPath n c now (descending_on n c now) up
