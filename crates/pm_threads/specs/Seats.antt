-- The seats of a device and of the multiplier at its port.
use Rattle.std.specs.{Prelude.{◌≡◌, ℕ, List}, List.range_with_len}
use Rattle.ruled_links.specs.Lists.{IsPrefixOf}
use Rattle.disk_thread.specs.Runs.{StationState}
use Rattle.pm_thread.specs.Runs.{PortSeats, IsUnused}

-- they are of the same three links
pub record TiedTo {D : Type 0} (s : StationState D) (p : PortSeats) : Type 0 where
  pub frames : s.frames.link ≡ p.frames.link
  pub commands : p.commands.link ≡ s.commands.link
  pub presence : s.presence.link ≡ p.presence.link

-- before a run
pub record Starts {D : Type 0} (s : StationState D) (p : PortSeats) : Type 0 where
  pub tied : TiedTo s p
  pub unused : IsUnused p

-- on each of the three links what was taken is a beginning of what was sent
pub record Handed {D : Type 0} (s : StationState D) (p : PortSeats) : Type 0 where
  pub frames : IsPrefixOf p.frames.taken s.frames.sent
  pub commands : IsPrefixOf s.commands.taken p.commands.sent
  pub presence : IsPrefixOf p.presence.taken s.presence.sent

-- the first ports from 0 on, this many
abbrev pub first_ports : ℕ → List ℕ
first_ports count = range_with_len 0 count
