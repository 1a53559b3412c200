-- The links of one run, as contracts see them.
use Rattle.std.specs.Prelude.{◌≡◌, ℕ, Bool, false, nat_le, ◌&&◌, All, List, replicate}
use Rattle.ruled_links.specs.{Links.{LinkState, is_capacity, new_link}, declared.link.LinkError.LinkError}
use Rattle.ruled_links.specs.declared.link.LinkError.TheVariants as link
use Rattle.pm_threads.specs.declared.links.LinksError.{LinksError}
use Rattle.pm_threads.specs.declared.links.LinksError.TheVariants as links

-- the links between the multiplier and the device at one port
pub record DeviceState : Type 0 where
  -- FISes of the device
  pub up : LinkState
  -- FISes for it
  pub down : LinkState
  -- its connections, as they come and go
  pub presence : LinkState

-- all links, those of port n at place n
pub record LinksState : Type 0 where
  pub devices : List DeviceState
  -- FISes for the host
  pub up : LinkState
  -- FISes of the host
  pub down : LinkState
  -- whether a run has taken their seats
  pub given : Bool

-- the seats of a device's links were not given
pub record IsFree (d : DeviceState) : Type 0 where
  pub up : d.up.seated ≡ false
  pub down : d.down.seated ≡ false
  pub presence : d.presence.seated ≡ false

-- no seat was given
pub record AllFree (l : LinksState) : Type 0 where
  pub devices : All IsFree l.devices
  pub up : l.up.seated ≡ false
  pub down : l.down.seated ≡ false

-- whether there may be this many ports, with this many places on each link
abbrev pub is_config : ℕ → ℕ → Bool
is_config ports capacity = (nat_le 1 ports && nat_le ports 15) && is_capacity capacity

abbrev pub new_device : ℕ → DeviceState
new_device capacity =
    record { up = new_link capacity; down = new_link capacity; presence = new_link capacity }

abbrev pub new_links : ℕ → ℕ → LinksState
new_links ports capacity =
    record {
      devices = replicate ports (new_device capacity);
      up = new_link capacity;
      down = new_link capacity;
      given = false;
    }

-- why no links are made, if one link is refused
abbrev pub IsErrorOf : LinkError → LinksError → Type 0
IsErrorOf link.BadCapacity e = e ≡ links.BadConfig
IsErrorOf link.OutOfMemory e = e ≡ links.OutOfMemory
