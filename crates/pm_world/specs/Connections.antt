-- The connections of a port come one after another. Each is removed before the next is present, and
-- nothing is on its way of a connection that is still to come (Serial ATA 3.x, 16.3, port multiplier:
-- presence of a device on a port).
--
-- Cited: runs and places of a world (specs/Rules.antt, Places.antt), what is on its way of a
-- connection, and when its removal is recorded (specs/Traffic.antt).
use Rattle.std.specs.Prelude.{ℕ, ◌≡◌, ◌<◌, ◌⊎◌, true, false, List, [], length, Some, slice_get}
use Rattle.multiplier.specs.State.{port_at}
use Rattle.pm_world.specs.{Attached.Attached, Places.{Place, Places, is_config, new_world}, Rules.Run, Traffic.{is_removed, transit}}
use Rattle.pm_world.specs.declared.{step.Config.Config, step.Step.Step, step.Answer.Answer}

-- the connection of the unit at port n comes before this one
pub record IsAhead (n d : ℕ) (now : Places) : Type 0 where
  pub place : Place
  pub is : slice_get now.devices n ≡ Some place
  pub less : place.conn < d

-- no unit was plugged in as this connection up to now: there is no such connection, or it is still to
-- come
abbrev pub IsUnused : (n d : ℕ) → Places → Type 0
IsUnused n d now = (d ≡ 0) ⊎ IsAhead n d now

-- Holds over every run from a new world. Each connection before the one that is present is removed.
-- Nothing is on its way up of a connection that was not used.
pub record ConnectionsFollow : Type 0 where
  pub removed : (config : Config) (units : List Attached) → is_config config (length units) ≡ true
      → (steps : List Step) (answers : List Answer) (now : Places)
      → Run (new_world config units) steps answers now → (n c d : ℕ) → n < 15
      → (port_at now.multiplier n).present ≡ Some c → 0 < d → d < c → is_removed n d now ≡ true
  pub none_early : (config : Config) (units : List Attached) → is_config config (length units) ≡ true
      → (steps : List Step) (answers : List Answer) (now : Places)
      → Run (new_world config units) steps answers now → (n d : ℕ) → n < 15
      → IsUnused n d now → is_removed n d now ≡ false → transit n d now ≡ []
