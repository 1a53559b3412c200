-- A place for a device, and the connections that come to it, numbered from 1 on. A frame of a device has its connection in its
-- stamp, and its number among the frames of this connection (a stamp is no part of the standard: see fis_view).
use Rattle.std.specs.Prelude.{ℕ, ◌+◌, ◌==◌, true, false, if◌then◌else◌, Option, Some, None, replicate}
use Rattle.fis_view.specs.Frames.{Stamped}
use Rattle.multiplier.specs.State.{counted, largest}
use Rattle.fan_out.specs.declared.seat.{Seat.Seat, PlugError.{PlugError, TheVariants.{AlreadyThere, Spent}}}

-- no device came
abbrev pub empty_seat : Seat
empty_seat = record { last = 0; is_there = false; sent = 0; begun = false }

-- a device came, as this connection, and is to begin
abbrev pub seated : ℕ → Seat
seated conn = record { last = conn; is_there = true; sent = 0; begun = true }

-- the device went
abbrev pub left : Seat → Seat
left seat = record { last = seat.last; is_there = false; sent = seat.sent; begun = false }

-- the connection that is there
abbrev pub connection : Seat → Option ℕ
connection seat = if seat.is_there then Some seat.last else None

abbrev pub next_connection : Seat → ℕ
next_connection seat = seat.last + 1

-- the first refusal that applies where a device is plugged in
abbrev pub plug_refusal : Seat → Option PlugError
plug_refusal seat =
    if seat.is_there then Some AlreadyThere else if seat.last == largest then Some Spent
    else None

-- a frame as the device sends it from this port
abbrev pub sent_from : ℕ → Seat → Stamped → Stamped
sent_from port seat frame = record {
  bytes = frame.bytes;
  stamp = record { port = port; conn = seat.last; number = seat.sent; shown = replicate 15 0 };
}

-- one frame more was sent
abbrev pub after_sent : Seat → Seat
after_sent seat = record { last = seat.last; is_there = seat.is_there; sent = counted seat.sent; begun = seat.begun }

-- its owner was told that the device is to begin
abbrev pub told : Seat → Seat
told seat = record { last = seat.last; is_there = seat.is_there; sent = seat.sent; begun = false }
