-- A controller as it opens.
use Rattle.std.specs.Prelude.{◌≡◌, replicate, None}
use Rattle.ahci_controller.specs.{Circle.opening_circle, Latch.opening_latch, Outbox.{no_writes, opening_wants}, Own.opening_own}
use Rattle.ahci_controller.specs.States.{ControllerState}
use Rattle.hba_fbs.specs.{Greeting.Hangs, Views.opening_port, declared.greeting.Line.TheVariants.Empty}

-- nothing is issued, the port is stopped, nothing hangs at it yet, and no interrupt is enabled
pub record IsOpening (c : ControllerState) : Type 0 where
  pub core : Hangs opening_port 15 Empty c.core
  pub latch : c.latch ≡ opening_latch
  pub link : c.link.control ≡ 0
  pub own : c.own ≡ opening_own
  pub wants : c.wants ≡ opening_wants
  pub fetches : c.fetches ≡ replicate 32 None
  pub commands : c.commands ≡ replicate 32 None
  pub writes : c.writes ≡ no_writes
  pub circle : c.circle ≡ opening_circle
  pub cursors : c.cursors ≡ replicate 16 0
