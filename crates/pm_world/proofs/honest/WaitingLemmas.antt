-- For `disks_are_honest`. A unit that was plugged in, while nothing of it passes its port: it only sends, and takes
-- nothing.
use Rattle.std.proofs.{Common.{◌≡◌, ℕ, ◌<◌, false, List, [], ◌∷◌, ◌++◌, map, refl, sym, ap, ◌∙◌, Ok}, lemmas.List.{append-nil, map-append}}
use Rattle.disk_model.specs.Histories.{Happening, Plugged, Sent}
use Rattle.pm_world.specs.{Places.Places, Rules.Rule, Units.happens, PathEnds.{injects, unplugs}, declared.step.{Answer.Answer, Step.Step}}
use Rattle.pm_world.proofs.honest.ShutLemmas.{Adds, IsShutOff, Silent, WaitsFor, WaitsOn, off_after}

-- what a unit did that sent these
abbrev pub all_sent : List (List ℕ) → List Happening
all_sent xs = map (λ (bytes : List ℕ). Sent bytes) xs

-- The unit is there as connection c. Since it was plugged in it sent what is on its way at its end of
-- the port, and nothing else.
pub record IsWaiting (n c : ℕ) (now : Places) (happened : List Happening) : Type 0 where
  pub rising : List (List ℕ)
  pub off : IsShutOff n c now rising
  pub is : happened ≡ Plugged ∷ all_sent rising

pub came_waiting : (n c : ℕ) (now : Places) → IsShutOff n c now [] → IsWaiting n c now (Plugged ∷ [])
came_waiting n c now off = record { rising = []; off = off; is = refl }

module _ (n c : ℕ) (below : n < 15) (old : Places) (s : Step) (a : Answer) (new : Places) (rule : Rule old s (Ok a) new) (happened : List Happening)
    (h : IsWaiting n c old happened) (clean : injects n s ≡ false) (stays : unplugs n s ≡ false) where
  pub waits_on : WaitsFor n c old → IsWaiting n c new (happened ++ happens n old s a new)
  waits_on waits = by_case (off_after n c below old s a new rule h.rising h.off waits clean stays)
    where
      by_case : WaitsOn n c new (happens n old s a new) h.rising → IsWaiting n c new (happened ++ happens n old s a new)
      by_case (Silent none off) =
          record { rising = h.rising; off = off; is = ap (λ (xs : List Happening). happened ++ xs) none ∙ append-nil happened ∙ h.is }
      by_case (Adds bytes is off) = record {
        rising = h.rising ++ bytes ∷ [];
        off = off;
        is =
            ap (λ (xs : List Happening). happened ++ xs) is ∙ ap (λ (xs : List Happening). xs ++ Sent bytes ∷ []) h.is
            ∙ ap (λ (xs : List Happening). Plugged ∷ xs) (sym (map-append (λ (bytes : List ℕ). Sent bytes) h.rising (bytes ∷ [])));
      }
