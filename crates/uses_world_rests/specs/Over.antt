-- What is left in a world of one device once a round does nothing, if the device was left alone: nothing (`world_rests`, specs/Over.antt).
use Rattle.std.specs.Prelude.{ℕ, List}
use Rattle.pm_world.specs.{Attached.Attached, Places.Places}
use Rattle.world_rests.specs.{Matches.IsPlugged, Over.{IsLeftAlone, WorldHasEnded}}
use Rattle.uses_world_rests.specs.Left.{config}

-- if what is plugged in is a disk that was left alone since its plugging
abbrev pub WorldHasEndedIn : List Attached → Places → Type 0
WorldHasEndedIn units now = ((n : ℕ) → IsPlugged n now → IsLeftAlone config units n now) → WorldHasEnded now
