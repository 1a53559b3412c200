-- What is left of a run, and what is known of it.
use Rattle.std.specs.{Prelude.{◌≡◌, ℕ, zero, suc, ◌<◌, ◌≤◌, List, [], ◌∷◌, length}, List.AllZip}
use Rattle.fis_view.specs.Frames.{Stamped}
use Rattle.ruled_links.specs.Lists.{IsPrefixOf}
use Rattle.multiplier.specs.Passing.{of_conn}
use Rattle.disk_model.specs.Histories.{Happening, Plan}
use Rattle.disk_thread.specs.Runs.{StationState, IsRun}
use Rattle.pm_thread.specs.{Runs.PmView, Passing.risen}
use Rattle.host_thread.specs.Runs.{HostView}
use Rattle.pm_threads.specs.{Seats.TiedTo, Setups.pulls_at}

-- the ends of all workers, that of the device at port n at place n
pub record Ends (D : Type 0) : Type 0 where
  pub disks : List (StationState D)
  pub pm : PmView
  pub host : HostView

-- they are of one run: their seats are of the same links, of at most 15 ports
pub record AreOfOneRun {D : Type 0} (e : Ends D) : Type 0 where
  pub few : length e.disks ≤ 15
  pub tied : AllZip TiedTo e.disks e.pm.ports
  pub up : e.pm.host.link ≡ e.host.frames.link
  pub down : e.host.commands.link ≡ e.pm.commands.link

-- what the device at port n sent; nothing if there is no such port
abbrev pub sent_at : {D : Type 0} → List (StationState D) → ℕ → List Stamped
sent_at [] n = []
sent_at (s ∷ disks) zero = s.frames.sent
sent_at (s ∷ disks) (suc n) = sent_at disks n

-- For each port and connection, what the host took of it is a beginning of what its device sent on
-- it, as it goes up.
abbrev pub EachArrives : {D : Type 0} → List (StationState D) → List Stamped → Type 0
EachArrives disks taken = (n c : ℕ) → n < 15 → IsPrefixOf (of_conn n c taken) (risen n c (sent_at disks n))

-- The station is a run of this unit, with those of these pulls due that are at its port. The first three words are
-- those of the unit's type, as its `Device` says them.
abbrev pub RunsWith : {D : Type 0} → (D → Plan) → (D → List Happening → Type 0)
    → (Plan → List Happening → List ℕ → Type 0)
    → List (ℕ × ℕ) → D → StationState D → Type 0
RunsWith plan_of StandsFor MaySend pulls unit s =
    IsRun plan_of StandsFor MaySend (pulls_at s.port pulls) unit s

-- whatever units and pulls the stations were runs of, they still are
abbrev pub AllGoOn : {D : Type 0} → (D → Plan) → (D → List Happening → Type 0)
    → (Plan → List Happening → List ℕ → Type 0)
    → List (StationState D) → List (StationState D) → Type 0
AllGoOn plan_of StandsFor MaySend old new =
    (pulls : List (ℕ × ℕ)) (units : List _) → AllZip (RunsWith plan_of StandsFor MaySend pulls) units old
    → AllZip (RunsWith plan_of StandsFor MaySend pulls) units new
