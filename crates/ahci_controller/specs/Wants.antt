-- Nothing is wanted of the guest: after ST falls, a COMRESET or a reset of the controller (AHCI 1.3.1, 10.3.2, 10.4.2, 10.4.3).
use Rattle.std.specs.Prelude.{replicate, None}
use Rattle.ahci_controller.specs.{Outbox.{no_writes, without_wants}, States.ControllerState}

-- and nothing is to be written to it
abbrev pub dropped : ControllerState → ControllerState
dropped c = record c { wants = without_wants c.wants; fetches = replicate 32 None; writes = no_writes }
