-- One device straight behind a host's link (Serial ATA 3.x, 13: a link of two ends), with one place for a frame in each direction.
use Rattle.std.specs.Prelude.{◌≡◌, ◌<◌, ◌&&◌, ℕ, Bool, true, false, Option, Some, None, is_none, is_some, Result, Ok, Err, MatchOption, MatchResult}
use Rattle.std.specs.{Prelude.{if◌then◌else◌}, Bool.MatchBool, Result.result_err}
use Rattle.fis_view.specs.Frames.{Stamped, marked}
use Rattle.multiplier.specs.{State.pm_port, declared.multiplier.{Passed.Passed, PmRefusal.PmRefusal}}
use Rattle.multiplier.specs.declared.multiplier.Passed.TheVariants as passed
use Rattle.multiplier.specs.declared.multiplier.PmRefusal.TheVariants as refusal
use Rattle.pm_ports.specs.Port as port
use Rattle.pm_ports.specs.declared.port.Offered.{Offered, TheVariants.{Held, Dropped}}
use Rattle.fan_out.specs.Seats.{after_sent, connection, empty_seat, left, next_connection, plug_refusal, seated, sent_from, told}
use Rattle.fan_out.specs.declared.seat.{NotThere.NotThere, PlugError.PlugError, Seat.Seat}

pub record StraightState : Type 0 where
  pub port : port.PortState
  pub seat : Seat
  -- the PM Port of the FIS that the device was given last
  pub asked : ℕ

-- what holds for every one: the seat has the connection of the port, and there are 16 PM Ports
pub record IsStraight (s : StraightState) : Type 0 where
  pub present : s.port.present ≡ connection s.seat
  pub last : s.port.last ≡ s.seat.last
  pub asked : s.asked < 16

abbrev pub opening_straight : StraightState
opening_straight = record { port = port.empty_port; seat = empty_seat; asked = 0 }

abbrev pub on_port : StraightState → port.PortState → StraightState
on_port s p = record { port = p; seat = s.seat; asked = s.asked }

-- ---- who is there

-- a device came, as this connection, and was given nothing yet
abbrev pub joined : StraightState → ℕ → StraightState
joined s conn = record { port = port.with_connection s.port conn; seat = seated conn; asked = 0 }

abbrev pub PlugsStraight : StraightState → Result (Unit {0}) PlugError → StraightState → Type 0
PlugsStraight old result new =
    (result_err result ≡ plug_refusal old.seat)
    × MatchResult result (λ _. new ≡ joined old (next_connection old.seat)) (λ _. new ≡ old)

-- the device went, and with it the frames of its connection
abbrev pub parted : StraightState → StraightState
parted s = record { port = port.with_removal s.port s.seat.last; seat = left s.seat; asked = s.asked }

abbrev pub PullsStraight : StraightState → Result (Unit {0}) NotThere → StraightState → Type 0
PullsStraight old result new =
    MatchResult result (λ _. (old.seat.is_there ≡ true) × (new ≡ parted old)) (λ _. (old.seat.is_there ≡ false) × (new ≡ old))

-- the link was reset: all is as at first, and the device that was there came to it, as its first connection
abbrev pub renewed : StraightState → StraightState
renewed s = if s.seat.is_there then joined opening_straight 1 else opening_straight

abbrev pub TellsStraight : StraightState → Option ℕ → StraightState → Type 0
TellsStraight old result new =
    MatchBool old.seat.begun ((result ≡ Some 0) × (new ≡ record { port = old.port; seat = told old.seat; asked = old.asked }))
    ((result ≡ None) × (new ≡ old))

-- ---- to the device

-- for this connection
abbrev pub addressed : ℕ → Stamped → Stamped
addressed conn frame = record {
  bytes = frame.bytes;
  stamp = record { port = frame.stamp.port; conn = conn; number = frame.stamp.number; shown = frame.stamp.shown };
}

-- with this PM Port
abbrev pub pointed : ℕ → Stamped → Stamped
pointed pm_port frame = record { bytes = marked frame.bytes pm_port; stamp = frame.stamp }

abbrev pub SendsStraight : StraightState → Stamped → Result Passed (Stamped × PmRefusal) → StraightState → Type 0
SendsStraight old frame result new =
    MatchBool old.seat.is_there
    (MatchBool (is_some old.port.down)
    ((result ≡ Err (frame, refusal.HoldFull)) × (new ≡ old))
    ((result ≡ Ok (passed.Down 0)) × (new ≡ on_port old (port.with_down old.port (Some (addressed old.seat.last frame))))))
    ((result ≡ Ok passed.Dropped) × (new ≡ old))

-- the device sees 0, and answers where it was asked
abbrev pub GivesDown : StraightState → Option Stamped → StraightState → Type 0
GivesDown old result new =
    MatchOption old.port.down ((result ≡ None) × (new ≡ old)) (λ frame.
    (result ≡ Some (pointed 0 frame))
    × (new ≡ record { port = port.with_down old.port None; seat = old.seat; asked = pm_port frame }))

-- ---- to the host

-- whether the device is there and has sent nothing that waits
abbrev pub wants : StraightState → Bool
wants s = s.seat.is_there && is_none s.port.up

-- a frame of the device as it waits for the host
abbrev pub answering : StraightState → Stamped → Stamped
answering s frame = pointed s.asked (sent_from 0 s.seat frame)

abbrev pub OffersStraight : StraightState → Stamped → Result Offered Stamped → StraightState → Type 0
OffersStraight old frame result new =
    MatchBool old.seat.is_there
    (MatchBool (is_none old.port.up)
    ((result ≡ Ok Held)
    × (new ≡ record { port = port.with_up old.port (Some (answering old frame)); seat = after_sent old.seat; asked = old.asked }))
    ((result ≡ Err frame) × (new ≡ old)))
    ((result ≡ Ok Dropped) × (new ≡ old))

abbrev pub GivesUp : StraightState → Option Stamped → StraightState → Type 0
GivesUp old result new =
    (result ≡ port.next_up true old.port)
    × (new ≡ on_port old (if is_some result then port.with_up old.port None else old.port))
