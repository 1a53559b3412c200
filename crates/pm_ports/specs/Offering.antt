-- What happens to a frame that a port is given (Serial ATA 3.x, 16.3, port multiplier: frame transmission):
-- it is kept, dropped because its connection is gone, or given back.
use Rattle.std.specs.Prelude.{◌≡◌, true, false, Some, None, is_some, Result, Ok, Err}
use Rattle.fis_view.specs.Frames.{Stamped}
use Rattle.pm_ports.specs.{Port.{PortState, is_gone, with_up, with_down}, declared.port.Offered.{Offered, TheVariants.{Held, Dropped}}}

-- a frame of the device is offered: dropped where its connection is gone, else held in the upward place if
-- that is empty, else given back
abbrev pub IsOffered : PortState → Stamped → Result Offered Stamped → PortState → Type 0
IsOffered old frame (Ok Dropped) new = (is_gone old frame.stamp.conn ≡ true) × (new ≡ old)
IsOffered old frame (Ok Held) new =
    (is_gone old frame.stamp.conn ≡ false) × (old.up ≡ None) × (new ≡ with_up old (Some frame))
IsOffered old frame (Err back) new =
    (is_gone old frame.stamp.conn ≡ false) × (is_some old.up ≡ true) × (back ≡ frame) × (new ≡ old)

-- a frame for the device: kept in the downward place if that is empty, else given back
abbrev pub IsPutDown : PortState → Stamped → Result (Unit {0}) Stamped → PortState → Type 0
IsPutDown old frame (Ok done) new = (old.down ≡ None) × (new ≡ with_down old (Some frame))
IsPutDown old frame (Err back) new = (is_some old.down ≡ true) × (back ≡ frame) × (new ≡ old)
